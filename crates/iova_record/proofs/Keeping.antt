-- What a domain keeps, by the law of promises over no step.
use Rattle.std.proofs.Common.{[]}
use Rattle.iova_model.specs.State.{State}
use Rattle.iova_model.specs.Valid.{IsValid}
use Rattle.iova_model.specs.Promises.{PromisesAreKept}
use Rattle.iova_keep.specs.Views.{IsKept}

pub kept : PromisesAreKept → (s : State) → IsValid s → IsKept s
kept law s valid =
    let k = law s [] valid tt in
    record { valid = k.valid; one_place = k.one_place; within = k.within; aligned = k.aligned; counted = k.counted; totals = k.totals }
