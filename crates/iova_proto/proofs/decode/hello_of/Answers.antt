use Rattle.std.proofs.Common.{false, ◌≡◌, ◌∙◌, refl, sym, ℕ, List, [], ◌∷◌, decimal, codes}
use Rattle.std.specs.Str.{bytes_eq}
use Rattle.std.proofs.lemmas.Bool.{both_ways}
use Rattle.std.proofs.lemmas.Slice.Eq.{bytes_eq-Decides}
use Rattle.iova_text.specs.Words.{spaced_words, kind_text}
use Rattle.iova_proto.proofs.decode.hello_of.Goals as goal

differ : (xs ys zs : List ℕ) → false ≡ bytes_eq xs ys → xs ≡ zs → ys ≡ zs → ⊥
differ xs ys zs ne a b = both_ways (bytes_eq xs ys) (sym ne) ((bytes_eq-Decides xs ys).1 (a ∙ sym b))

pub returns-in_err-version-clause-read : goal.returns-in_err-version-clause-read
returns-in_err-version-clause-read c = λ domain sac good e.
    absurd (c.in_err-version.ensures.read (codes "iova1") (spaced_words (decimal domain ∷ kind_text sac ∷ [])) refl refl e)

pub returns-else-eq-clause-read : goal.returns-else-eq-clause-read
returns-else-eq-clause-read c = λ domain sac good e.
    let is = c.in_ok-version.ensures.read (codes "iova1") (spaced_words (decimal domain ∷ kind_text sac ∷ [])) refl refl e in
    absurd (differ c.in_ok-version.version.now c.as_slice.result.now (codes "iova1") c.if-eq.ensures is.0 c.as_slice.ensures)
