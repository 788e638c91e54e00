use Rattle.std.proofs.Common.{ℕ, true, not, ◌≡◌, ◌∙◌, ◌<◌, ◌*◌, ◌^◌, refl, sym, ap, subst, List, take, drop, codes, arith}
use Rattle.std.specs.Str.{bytes_eq}
use Rattle.std.proofs.lemmas.Bool.{not-true, not-false, both_ways}
use Rattle.std.proofs.lemmas.Slice.Eq.{bytes_eq-Decides}
use Rattle.iova_regions.specs.Text.{hex_digits}
use Rattle.iova_regions.proofs.Hex.{same_number, address_whole, address_parts, address_long}
use Rattle.iova_regions.proofs.line.address.Goals as goal

same_words : (xs ys zs : List ℕ) → true ≡ not (bytes_eq xs ys) → xs ≡ zs → ys ≡ zs → ⊥
same_words xs ys zs differ a b = both_ways (bytes_eq xs ys) (not-true (bytes_eq xs ys) (sym differ)) ((bytes_eq-Decides xs ys).1 (a ∙ sym b))

pub returns-then-text-lt18-clause-read : goal.returns-then-text-lt18-clause-read
returns-then-text-lt18-clause-read c = λ n rest fits e. omega (arith, address_long c.args.text.now rest n e, c.if-text-lt18.true)

pub returns-then-ne-clause-read : goal.returns-then-ne-clause-read
returns-then-ne-clause-read c = λ n rest fits e.
    let mark = c.split_at.result.0.now in
    let tail = c.split_at.result.1.now in
    let parts = address_parts c.args.text.now mark tail (take 16 tail) (drop 16 tail) rest n c.split_at.ensures.front c.split_at.ensures.back refl refl e in
    same_words mark c.as_slice.result.now (codes "0x") c.if-ne.ensures parts.0 c.as_slice.ensures

pub returns-in_err-n-clause-read : goal.returns-in_err-n-clause-read
returns-in_err-n-clause-read c = λ n rest fits e.
    let first = c.split_at in
    let second = c.split_at-2 in
    let parts = address_parts c.args.text.now first.result.0.now first.result.1.now second.result.0.now second.result.1.now rest n
    first.ensures.front first.ensures.back second.ensures.front second.ensures.back e in
    absurd (c.in_err-n.ensures.none refl n (parts.1 ∙ ap (λ (k : ℕ). hex_digits k n) (sym second.ensures.front_len)))

pub returns-clause-spelled : goal.returns-clause-spelled
returns-clause-spelled c =
    let first = c.split_at in
    let second = c.split_at-2 in
    let equal = not-false (bytes_eq first.result.0.now c.as_slice.result.now) (sym c.if-ne.ensures) in
    let mark = (bytes_eq-Decides first.result.0.now c.as_slice.result.now).0 equal ∙ c.as_slice.ensures in
    address_whole c.args.text.now first.result.0.now first.result.1.now second.result.0.now second.result.1.now c.in_ok-n.n
    first.ensures.front first.ensures.back second.ensures.front second.ensures.back mark
    (c.in_ok-n.ensures.spelled ∙ ap (λ (k : ℕ). hex_digits k c.in_ok-n.n) second.ensures.front_len)

pub returns-clause-read : goal.returns-clause-read
returns-clause-read c = λ n rest fits e.
    let first = c.split_at in
    let second = c.split_at-2 in
    let parts = address_parts c.args.text.now first.result.0.now first.result.1.now second.result.0.now second.result.1.now rest n
    first.ensures.front first.ensures.back second.ensures.front second.ensures.back e in
    let spelled = c.in_ok-n.ensures.spelled ∙ ap (λ (k : ℕ). hex_digits k c.in_ok-n.n) second.ensures.front_len in
    let small = subst (λ (k : ℕ). c.in_ok-n.n < 2 ^ (4 * k)) second.ensures.front_len c.in_ok-n.ensures.fits in
    (same_number 16 c.in_ok-n.n n small fits (sym spelled ∙ parts.1), parts.2)
