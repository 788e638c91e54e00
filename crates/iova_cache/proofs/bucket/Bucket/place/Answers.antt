use Rattle.std.proofs.Common.{arith}
use Rattle.std.proofs.lemmas.List.{length-take-le}
use Rattle.iova_cache.proofs.Words.{length_words, none_there, first_at}
use Rattle.iova_cache.proofs.bucket.Bucket.place.Goals as goal

pub returns-clause-none : goal.returns-clause-none
returns-clause-none c = λ all.
    let long = length_words c.self.inside.words c.self.inside.count 7 c.self.invariant in
    let used = length-take-le c.self.inside.count c.self.inside.words (omega (arith, c.self.invariant.slots, c.self.invariant.within)) in
    let end = rw (← c.self.view_is) at all in
    rw (← c.self.view_is) (none_there c.args.lo c.self.inside.words c.self.inside.count (λ k lt. c.place_of.ensures.before k (omega (arith, long, used, end))))

pub returns-clause-found : goal.returns-clause-found
returns-clause-found c = λ lt r is.
    let long = length_words c.self.inside.words c.self.inside.count 7 c.self.invariant in
    let used = length-take-le c.self.inside.count c.self.inside.words (omega (arith, c.self.invariant.slots, c.self.invariant.within)) in
    let here = rw (← c.self.view_is) at lt in
    rw (← c.self.view_is)
    (first_at c.args.lo c.self.inside.words c.self.inside.count 7 c.place_of.result c.self.invariant (omega (arith, long, here)) c.place_of.ensures.before (c.place_of.ensures.found (omega (arith, long, used, here))) r (rw (← c.self.view_is) at is))
