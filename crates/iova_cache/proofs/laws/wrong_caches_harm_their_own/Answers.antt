use Rattle.iova_cache.specs.Wrong.{events_of}
use Rattle.iova_cache.proofs.Wrong.{seen_by_others, goes}
use Rattle.iova_cache.proofs.laws.wrong_caches_harm_their_own.Goals as goal

pub returns : goal.returns
returns c = λ ds m n is done.
    let told = seen_by_others ds m n done in
    let gone = goes (events_of ds) m.world n.world told in
    record {
      places = c.places_are_kept.ensures (events_of ds) m.world n.world is gone;
      one_user = c.frames_have_one_user.ensures (events_of ds) m.world n.world is gone;
      flushed = λ i k frame. c.reuse_over_caches_is_flushed.ensures (events_of ds) m.world n.world i k frame is told;
    }
