use Rattle.std.proofs.Common.{ℕ, ◌≡◌, ◌∙◌, ◌-◌, length, replicate, take, append_assoc, arith}
use Rattle.std.proofs.lemmas.List.{take-replicate}
use Rattle.iova_check.proofs.summary.put_name.Goals as goal

pub returns-clause-items : goal.returns-clause-items
returns-clause-items c =
    let n = 10 - length c.args.name.now in
    let spaces : take {A = ℕ} n (replicate 20 32) ≡ replicate n 32 = take-replicate n 20 32 (omega arith) in
    c.put-2.ensures.items ∙ rw (spaces, c.put.ensures.items, append_assoc)
