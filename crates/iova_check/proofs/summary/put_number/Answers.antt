use Rattle.std.proofs.Common.{ℕ, ◌≡◌, ◌∙◌, ◌-◌, length, replicate, take, decimal, append_assoc, arith}
use Rattle.std.proofs.lemmas.List.{take-replicate}
use Rattle.iova_check.specs.Summary.{number_text}
use Rattle.iova_check.proofs.summary.put_number.Goals as goal

pub returns-clause-items : goal.returns-clause-items
unfolding number_text
returns-clause-items c =
    let digits : c.as_bytes-digits.result.now ≡ decimal c.args.number = c.as_bytes-digits.ensures.value ∙ c.format.ensures.text in
    let n = 20 - length (decimal c.args.number) in
    let spaces : take {A = ℕ} n (replicate 20 32) ≡ replicate n 32 = take-replicate n 20 32 (omega arith) in
    c.put-2.ensures.items ∙ rw (c.put.ensures.items, digits, spaces, append_assoc)
