use Rattle.iova_cache.proofs.Reuse.{reused}
use Rattle.iova_cache.proofs.laws.reuse_over_caches_is_flushed.Goals as goal

pub returns : goal.returns
returns c = λ es w v i n frame. reused (record {
  others = c.others_keep_their_holdings.ensures;
  refusals = c.refusals_keep_the_state.ensures;
  valid = c.steps_keep_validity.ensures;
  kinds = c.steps_are_answered_in_kind.ensures;
}) frame es w v i n
