use Rattle.std.proofs.Common.{length, inl, inr, refl, arith}
use Rattle.std.proofs.lemmas.Bool.{cases_lt}
use Rattle.iova_check.proofs.LineSteps.{front_kept}
use Rattle.iova_check.proofs.run.CheckState.keep_front.Goals as goal

pub returns-clause-goes : goal.returns-clause-goes
returns-clause-goes c = λ source domain is.
    let n = c.min.result in
    let all = length c.args.bytes.now in
    front_kept source domain c.args.self.now _ c.args.bytes.now n is c.requires
    (elim (cases_lt n all) [ inl less ↦ inr (omega (arith, c.min.ensures, c.len-room.ensures.value)) | inr within ↦ inl within ])
    (omega (arith, c.min.ensures)) (omega (arith, c.min.ensures, c.len-room.ensures.value)) c.put.ensures.items refl refl
