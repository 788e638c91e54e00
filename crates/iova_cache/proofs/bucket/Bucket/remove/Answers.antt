use Rattle.std.proofs.Common.{arith}
use Rattle.iova_cache.proofs.Words.{length_words, words_removed, gains_removed}
use Rattle.iova_cache.proofs.bucket.Bucket.remove.Goals as goal

pub invariant_of-self : goal.invariant_of-self
invariant_of-self c =
    let long = length_words c.self.inside.words c.self.inside.count 7 c.self.invariant in
    let there = rw (← c.self.view_is) at c.requires in
    words_removed c.self.inside.words c.self.inside.count 7 c.args.place c.self.invariant (omega (arith, long, there))

pub returns-clause-taken : goal.returns-clause-taken
returns-clause-taken c = λ r is.
    let long = length_words c.self.inside.words c.self.inside.count 7 c.self.invariant in
    let there = rw (← c.self.view_is) at c.requires in
    rw (← c.self.view_is) (gains_removed c.self.inside.words c.self.inside.count 7 c.args.place r c.self.invariant (omega (arith, long, there)) (rw (← c.self.view_is) at is))
