-- One region more: what is taken, and what the windows cover.
use Rattle.std.proofs.Common.{◌≡◌, ℕ, ◌+◌, ◌≤◌, Bool, true, false, ◌&&◌, ◌||◌, List, [], ◌∷◌, ◌++◌, Some, None, length, refl, sym, ap, ◌∙◌, subst, arith, append_assoc, append-nil, length-append}
use Rattle.std.specs.List.{list_any, AllByRecursion}
use Rattle.std.proofs.lemmas.Bool.{cond-true, cond-false, le-leb}
use Rattle.std.proofs.lemmas.List.Folds.{list_any-append}
use lib.Dec.{leb}
use Rattle.iova_range.specs.Frames.{Frames, covers}
use Rattle.iova_range.specs.Bounds.{Extent}
use Rattle.iova_text.specs.Lines.{whole_line}
use Rattle.iova_regions.specs.declared.region.Region.{Region}
use Rattle.iova_regions.specs.declared.region.Counted.{Counted}
use Rattle.iova_regions.specs.Text.{IsRegion, region_text, regions_text}
use Rattle.iova_regions.specs.Windows.{is_covered, is_between}
use Rattle.iova_regions.specs.Regions.{counts, frames_of, windows_after, after_all, keeps_back, Covers, AreTaken}

or_nothing : (x : Bool) → x ≡ (x || (false || false))
or_nothing true = refl
or_nothing false = refl

or_none : (x : Bool) → x ≡ (x || false)
or_none true = refl
or_none false = refl

or_moves : (x y z : Bool) → ((x || y) || z) ≡ (x || (y || z))
or_moves true y z = refl
or_moves false y z = refl

pub covers_nothing : (which : Counted) (bounds : Extent) (r : Region) (ws : List Frames) → ((f : ℕ) → keeps_back which bounds f r ≡ false) → Covers which bounds (r ∷ []) ws ws
covers_nothing which bounds r ws none =
    λ f. or_nothing (is_covered f ws) ∙ ap (λ (x : Bool). is_covered f ws || (x || false)) (sym (none f))

pub uncounted : (which : Counted) (bounds : Extent) (r : Region) → counts which r.kind ≡ false → (f : ℕ) → keeps_back which bounds f r ≡ false
uncounted which bounds r left f = ap (λ (x : Bool). x && (covers f (frames_of r) && is_between bounds.start bounds.last f)) left

pub outside : (which : Counted) (bounds : Extent) (r : Region) → counts which r.kind ≡ true
    → ((f : ℕ) → (covers f (frames_of r) && is_between bounds.start bounds.last f) ≡ false) → (f : ℕ) → keeps_back which bounds f r ≡ false
outside which bounds r counted none f = ap (λ (x : Bool). x && (covers f (frames_of r) && is_between bounds.start bounds.last f)) counted ∙ none f

pub covers_part : (which : Counted) (bounds : Extent) (r : Region) (p : Frames) (old new : List Frames) → counts which r.kind ≡ true
    → ((f : ℕ) → covers f p ≡ (covers f (frames_of r) && is_between bounds.start bounds.last f))
    → ((f : ℕ) → is_covered f new ≡ (is_covered f old || covers f p)) → Covers which bounds (r ∷ []) old new
covers_part which bounds r p old new counted is covers_it =
    λ f.
    let keeps : keeps_back which bounds f r ≡ (covers f (frames_of r) && is_between bounds.start bounds.last f) = ap (λ (x : Bool). x && (covers f (frames_of r) && is_between bounds.start bounds.last f)) counted in
    covers_it f ∙ ap (λ (x : Bool). is_covered f old || x) (is f ∙ (sym keeps ∙ or_none (keeps_back which bounds f r)))

covers_more : (which : Counted) (bounds : Extent) (rs : List Region) (r : Region) (a b c : List Frames) → Covers which bounds rs a b → Covers which bounds (r ∷ []) b c
    → Covers which bounds (rs ++ r ∷ []) a c
covers_more which bounds rs r a b c first then =
    λ f.
    then f ∙ (ap (λ (x : Bool). x || list_any (keeps_back which bounds f) (r ∷ [])) (first f)
    ∙ (or_moves (is_covered f a) (list_any (keeps_back which bounds f) rs) (list_any (keeps_back which bounds f) (r ∷ []))
    ∙ ap (λ (x : Bool). is_covered f a || x) (sym (list_any-append (keeps_back which bounds f) rs (r ∷ [])))))

pub covers_none : (which : Counted) (bounds : Extent) (ws : List Frames) → Covers which bounds [] ws ws
covers_none which bounds ws = λ f. or_none (is_covered f ws)

after_more : (which : Counted) (bounds : Extent) (rs : List Region) (r : Region) (a b : List Frames) → after_all which bounds rs a ≡ Some b
    → length (windows_after which bounds r b) ≤ 64 → after_all which bounds (rs ++ r ∷ []) a ≡ Some (windows_after which bounds r b)
after_more which bounds [] r a b e fits =
    let same : b ≡ a = cc in
    subst (λ (x : List Frames). after_all which bounds (r ∷ []) x ≡ Some (windows_after which bounds r b)) same
    (cond-true (leb (length (windows_after which bounds r b)) 64) (Some (windows_after which bounds r b)) None (le-leb (length (windows_after which bounds r b)) 64 fits))
after_more which bounds (q ∷ qs) r a b e fits =
    split (leb (length (windows_after which bounds q a)) 64) refl (λ before. after_more which bounds qs r (windows_after which bounds q a) b before fits)
  where
    split : (t : Bool) → leb (length (windows_after which bounds q a)) 64 ≡ t
        → (after_all which bounds qs (windows_after which bounds q a) ≡ Some b
        → after_all which bounds (qs ++ r ∷ []) (windows_after which bounds q a) ≡ Some (windows_after which bounds r b))
        → after_all which bounds ((q ∷ qs) ++ r ∷ []) a ≡ Some (windows_after which bounds r b)
    split true is more =
        let before : after_all which bounds qs (windows_after which bounds q a) ≡ Some b =
        sym (cond-true (leb (length (windows_after which bounds q a)) 64) (after_all which bounds qs (windows_after which bounds q a)) None is) ∙ e in
        cond-true (leb (length (windows_after which bounds q a)) 64) (after_all which bounds (qs ++ r ∷ []) (windows_after which bounds q a)) None is
        ∙ more before
    split false is more =
        let nothing : None ≡ Some b = sym (cond-false (leb (length (windows_after which bounds q a)) 64) (after_all which bounds qs (windows_after which bounds q a)) None is) ∙ e in
        absurd (cc)

good_more : (rs : List Region) (r : Region) → AllByRecursion IsRegion rs → IsRegion r → AllByRecursion IsRegion (rs ++ r ∷ [])
good_more [] r all good = (good, tt)
good_more (q ∷ qs) r all good = (all.0, good_more qs r all.1 good)

text_more : (rs : List Region) (r : Region) → regions_text (rs ++ r ∷ []) ≡ regions_text rs ++ whole_line (region_text r)
text_more [] r = append-nil (whole_line (region_text r))
text_more (q ∷ qs) r =
    ap (λ (x : List ℕ). whole_line (region_text q) ++ x) (text_more qs r)
    ∙ sym (append_assoc (whole_line (region_text q)) (regions_text qs) (whole_line (region_text r)))

-- How far a reading has come: these regions are taken, and this text is left.
pub record HasRead (which : Counted) (bounds : Extent) (text rest : List ℕ) (number : ℕ) (old now : List Frames) : Type 0 where
  pub regions : List Region
  pub whole : text ≡ regions_text regions ++ rest
  pub taken : AreTaken which bounds regions old now
  pub number_is : number ≡ length regions

pub read_first : (which : Counted) (bounds : Extent) (text : List ℕ) (old : List Frames) → HasRead which bounds text text 0 old old
read_first which bounds text old = record {
  regions = [];
  whole = refl;
  taken = record { good = tt; windows = refl; covers = covers_none which bounds old };
  number_is = refl;
}

pub read_more : (which : Counted) (bounds : Extent) (text rest more : List ℕ) (number : ℕ) (r : Region) (old now next : List Frames)
    → HasRead which bounds text rest number old now → rest ≡ whole_line (region_text r) ++ more → IsRegion r
    → next ≡ windows_after which bounds r now → length next ≤ 64 → Covers which bounds (r ∷ []) now next
    → HasRead which bounds text more (number + 1) old next
read_more which bounds text rest more number r old now next s line good is fits covers_it = record {
  regions = s.regions ++ r ∷ [];
  whole = s.whole ∙ (ap (λ (x : List ℕ). regions_text s.regions ++ x) line
      ∙ (sym (append_assoc (regions_text s.regions) (whole_line (region_text r)) more) ∙ ap (λ (x : List ℕ). x ++ more) (sym (text_more s.regions r))));
  taken = record {
    good = good_more s.regions r s.taken.good good;
    windows = after_more which bounds s.regions r old now s.taken.windows (omega (arith, ap length is, fits)) ∙ ap (λ (x : List Frames). Some x) (sym is);
    covers = covers_more which bounds s.regions r old now next s.taken.covers covers_it;
  };
  number_is = omega (arith, s.number_is, length-append s.regions (r ∷ []));
}
