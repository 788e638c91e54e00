-- A region's line has no LF, and one spelling.
use Rattle.std.proofs.Common.{◌≡◌, ℕ, zero, suc, ◌+◌, ◌/◌, ◌%◌, ◌<◌, ◌≤◌, ◌==◌, ◌⊎◌, inl, inr, true, List, [], ◌∷◌, ◌++◌, length, refl, sym, ap, ◌∙◌, arith, codes}
use Rattle.std.proofs.lemmas.Bool.{cases_lt, cond-true, cond-false, lt-ltb, le-ltb, ne_eqb, not_from_false, and_from}
use lib.Dec.{ltb}
use Rattle.iova_text.specs.Lines.{is_not_lf, HasNoLf, whole_line}
use Rattle.iova_text.proofs.Cuts.{list_all-append}
use Rattle.iova_text.proofs.LineEnds.{cut_once, no_line}
use Rattle.iova_regions.specs.declared.region.Region.{Region}
use Rattle.iova_regions.specs.declared.region.RegionKind.{RegionKind}
use Rattle.iova_regions.specs.declared.region.RegionKind.TheVariants as kind
use Rattle.iova_regions.specs.Text.{hex_digit, hex_digits, address_text, kind_text, region_text}

not_lf : (d : ℕ) → is_not_lf (hex_digit d) ≡ true
not_lf d = split (cases_lt d 10)
  where
    split : (d < 10) ⊎ (10 ≤ d) → is_not_lf (hex_digit d) ≡ true
    split (inl lt) =
        let is : hex_digit d ≡ 48 + d = cond-true (ltb d 10) (48 + d) (87 + d) (lt-ltb d 10 lt) in
        ap is_not_lf is ∙ not_from_false ((48 + d) == 10) (ne_eqb (48 + d) 10 (λ e. absurd (omega arith)))
    split (inr le) =
        let is : hex_digit d ≡ 87 + d = cond-false (ltb d 10) (48 + d) (87 + d) (le-ltb d 10 le) in
        ap is_not_lf is ∙ not_from_false ((87 + d) == 10) (ne_eqb (87 + d) 10 (λ e. absurd (omega arith)))

no_lf_digits : (count n : ℕ) → HasNoLf (hex_digits count n)
no_lf_digits zero n = refl
no_lf_digits (suc count) n =
    list_all-append is_not_lf (hex_digits count (n / 16)) (hex_digit (n % 16) ∷ []) (no_lf_digits count (n / 16))
    (and_from (is_not_lf (hex_digit (n % 16))) true (not_lf (n % 16)) refl)

no_lf_address : (n : ℕ) → HasNoLf (address_text n)
unfolding address_text
no_lf_address n = list_all-append is_not_lf (codes "0x") (hex_digits 16 n) refl (no_lf_digits 16 n)

no_lf_kind : (k : RegionKind) → HasNoLf (kind_text k)
no_lf_kind kind.Direct = refl
no_lf_kind kind.DirectRelaxable = refl
no_lf_kind kind.Msi = refl
no_lf_kind kind.Reserved = refl

pub no_lf_region : (r : Region) → HasNoLf (region_text r)
no_lf_region r =
    list_all-append is_not_lf (address_text r.first) (32 ∷ (address_text r.last ++ 32 ∷ kind_text r.kind)) (no_lf_address r.first)
    (list_all-append is_not_lf (32 ∷ []) (address_text r.last ++ 32 ∷ kind_text r.kind) refl
    (list_all-append is_not_lf (address_text r.last) (32 ∷ kind_text r.kind) (no_lf_address r.last)
    (list_all-append is_not_lf (32 ∷ []) (kind_text r.kind) refl (no_lf_kind r.kind))))

pub same_kind : (a b : RegionKind) → kind_text a ≡ kind_text b → a ≡ b
same_kind kind.Direct kind.Direct e = refl
same_kind kind.Direct kind.DirectRelaxable e = absurd (omega (arith, ap length e))
same_kind kind.Direct kind.Msi e = absurd (omega (arith, ap length e))
same_kind kind.Direct kind.Reserved e = absurd (omega (arith, ap length e))
same_kind kind.DirectRelaxable kind.Direct e = absurd (omega (arith, ap length e))
same_kind kind.DirectRelaxable kind.DirectRelaxable e = refl
same_kind kind.DirectRelaxable kind.Msi e = absurd (omega (arith, ap length e))
same_kind kind.DirectRelaxable kind.Reserved e = absurd (omega (arith, ap length e))
same_kind kind.Msi kind.Direct e = absurd (omega (arith, ap length e))
same_kind kind.Msi kind.DirectRelaxable e = absurd (omega (arith, ap length e))
same_kind kind.Msi kind.Msi e = refl
same_kind kind.Msi kind.Reserved e = absurd (omega (arith, ap length e))
same_kind kind.Reserved kind.Direct e = absurd (omega (arith, ap length e))
same_kind kind.Reserved kind.DirectRelaxable e = absurd (omega (arith, ap length e))
same_kind kind.Reserved kind.Msi e = absurd (omega (arith, ap length e))
same_kind kind.Reserved kind.Reserved e = refl

-- bytes without an LF have no line of a region at the front
pub no_region : (text more : List ℕ) (r : Region) → HasNoLf text → text ≡ whole_line (region_text r) ++ more → ⊥
no_region text more r none e = no_line text (region_text r) more none e

-- the line at the front is the one up to the first LF
pub line_is : (text line rest more : List ℕ) (r : Region) → HasNoLf line → text ≡ whole_line line ++ rest → text ≡ whole_line (region_text r) ++ more
    → line ≡ region_text r
line_is text line rest more r one cut e = (cut_once line rest (region_text r) more one (no_lf_region r) (sym cut ∙ e)).0
