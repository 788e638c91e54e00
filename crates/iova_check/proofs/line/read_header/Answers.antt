use Rattle.std.proofs.Common.{ℕ, true, not, ◌≡◌, ◌∙◌, refl, sym, List, codes}
use Rattle.std.specs.Str.{bytes_eq}
use Rattle.std.proofs.lemmas.Bool.{not-true, both_ways}
use Rattle.std.proofs.lemmas.Slice.Eq.{bytes_eq-Decides}
use Rattle.iova_text.specs.Words.{spaced_words}
use Rattle.iova_check.specs.Text.{header_words}
use Rattle.iova_text.proofs.Cuts.{stops-spaced_words}
use Rattle.iova_check.proofs.line.read_header.Goals as goal

same_words : (xs ys zs : List ℕ) → true ≡ not (bytes_eq xs ys) → xs ≡ zs → ys ≡ zs → ⊥
same_words xs ys zs differ a b = both_ways (bytes_eq xs ys) (not-true (bytes_eq xs ys) (sym differ)) ((bytes_eq-Decides xs ys).1 (a ∙ sym b))

pub returns-then-ne-clause-read : goal.returns-then-ne-clause-read
returns-then-ne-clause-read c = λ first last good e.
    let numbers = header_words first last in
    let is = c.first_word.ensures.read (codes "iovalog") (spaced_words numbers) refl (stops-spaced_words numbers) e in
    absurd (same_words c.first_word.result.0.now c.as_slice.result.now (codes "iovalog") c.if-ne.ensures is.0 c.as_slice.ensures)

pub returns-then-ne-clause-all : goal.returns-then-ne-clause-all
returns-then-ne-clause-all c = λ none first last good e.
    let numbers = header_words first last in
    let is = c.first_word.ensures.read (codes "iovalog") (spaced_words numbers) refl (stops-spaced_words numbers) e in
    same_words c.first_word.result.0.now c.as_slice.result.now (codes "iovalog") c.if-ne.ensures is.0 c.as_slice.ensures
