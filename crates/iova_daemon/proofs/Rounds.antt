-- What the flusher's thread did: nothing, one flush, and further ones after others.
use Rattle.std.proofs.Common.{ℕ, ◌≡◌, ◌∙◌, ◌+◌, ◌≤◌, List, refl, arith}
use Rattle.iova_sink.specs.Calls.{Call, good_calls}
use Rattle.iova_keep.specs.FlushEvents.{MakesRounds}
use Rattle.iova_keep.specs.Views.{TallyState, RisesWithin}
use Rattle.iova_keep.proofs.Rounds.{no_round, then_rounds}
use Rattle.iova_daemon.specs.Serving.{RoundsOnThread}

pub nothing_flushed : (domain : ℕ) (t : TallyState) (calls : List Call) → RoundsOnThread domain t t calls calls
nothing_flushed domain t calls = record { rounds = no_round domain t.past calls; parts = refl; good = omega arith }

pub then_flushed : (domain : ℕ) (t u v : TallyState) (before between now : List Call) → RoundsOnThread domain t u before between
    → MakesRounds domain u.past v.past between now → v.parts ≡ u.parts → RisesWithin u.good v.good between now → RoundsOnThread domain t v before now
then_flushed domain t u v before between now one rounds parts good =
    let first : u.good + good_calls before ≤ t.good + good_calls between = one.good in
    let more : v.good + good_calls between ≤ u.good + good_calls now = good in
    record {
      rounds = then_rounds domain t.past u.past v.past before between now one.rounds rounds;
      parts = parts ∙ one.parts;
      good = omega (arith, first, more);
    }

pub then_rounds_on : (domain : ℕ) (t u v : TallyState) (before between now : List Call) → RoundsOnThread domain t u before between
    → RoundsOnThread domain u v between now → RoundsOnThread domain t v before now
then_rounds_on domain t u v before between now one more = then_flushed domain t u v before between now one more.rounds more.parts more.good
