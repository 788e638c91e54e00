-- Entries of a ring that go into the magazines, one after another.
use Rattle.std.proofs.Common.{◌≡◌, ◌+◌, ◌<◌, ◌≤◌, Bool, true, false, ℕ, suc, List, [], ◌∷◌, ◌++◌, length, get_or, take, drop, refl, sym, ap, ◌∙◌, arith, drop-cons}
use Rattle.std.specs.List.{AllByRecursion}
use Rattle.std.specs.Bool.{OnTrue, OnFalse}
use Rattle.iova_model.specs.Flushes.{entry_range}
use Rattle.iova_cache.specs.Magazines.{magazine_of, with_magazine, IsPut}
use Rattle.std.proofs.lemmas.List.{take_more, drop_all}
use Rattle.iova_range.specs.Frames.{Frames}
use Rattle.iova_model.specs.declared.entry.Entry.{Entry}
use Rattle.iova_cache.specs.Caches.{IsSettling, Stays, with_entry, with_entries, order_in}

pub record GoesOn (old new : List (List Frames)) (ring : List Entry) (newest count : ℕ) : Type 0 where
  pub there : count ≤ length ring
  pub flushed : AllByRecursion (λ (e : Entry). e.count < newest) (take count ring)
  pub magazines : new ≡ with_entries old (take count ring)

pub goes_none : (old : List (List Frames)) (ring : List Entry) (newest : ℕ) → GoesOn old old ring newest 0
goes_none old ring newest = record { there = omega arith; flushed = tt; magazines = refl }

flushed_more : (newest : ℕ) (es : List Entry) (e : Entry) → AllByRecursion (λ (e : Entry). e.count < newest) es → e.count < newest → AllByRecursion (λ (e : Entry). e.count < newest) (es ++ e ∷ [])
flushed_more newest [] e all lt = (lt, tt)
flushed_more newest (x ∷ es) e all lt = (all.0, flushed_more newest es e all.1 lt)

entries_more : (ms : List (List Frames)) (es : List Entry) (e : Entry) → with_entries ms (es ++ e ∷ []) ≡ with_entry (with_entries ms es) e
entries_more ms [] e = refl
entries_more ms (x ∷ es) e = entries_more (with_entry ms x) es e

one_more : (ring : List Entry) (count : ℕ) (e : Entry) → count < length ring → e ≡ get_or ring count e → take (count + 1) ring ≡ take count ring ++ e ∷ []
one_more ring count e lt is = take_more ring count e lt ∙ ap (λ x. take count ring ++ x ∷ []) (sym is)

pub goes_more : (a b c : List (List Frames)) (ring : List Entry) (newest count : ℕ) (e : Entry) → GoesOn a b ring newest count → count < length ring → e ≡ get_or ring count e → e.count < newest → c ≡ with_entry b e
    → GoesOn a c ring newest (count + 1)
goes_more a b c ring newest count e g lt is clean now = record {
  there = omega arith;
  flushed = rw (one_more ring count e lt is) (flushed_more newest (take count ring) e g.flushed clean);
  magazines = now ∙ (ap (λ ms. with_entry ms e) g.magazines ∙ (sym (entries_more a (take count ring) e) ∙ ap (with_entries a) (sym (one_more ring count e lt is))));
}

next_is : (ring : List Entry) (count : ℕ) (e : Entry) → count < length ring → e ≡ get_or ring count e → drop count ring ≡ e ∷ drop (suc count) ring
next_is ring count e lt is = drop-cons ring count e lt ∙ ap (λ x. x ∷ drop (suc count) ring) (sym is)

pub stops : (a b : List (List Frames)) (ring : List Entry) (newest count : ℕ) (e : Entry) → GoesOn a b ring newest count → count < length ring → e ≡ get_or ring count e → Stays newest b e → IsSettling a b ring newest count
stops a b ring newest count e g lt is stays = record {
  there = g.there;
  flushed = g.flushed;
  magazines = g.magazines;
  stays = rw (next_is ring count e lt is) stays;
}

pub ends : (a b : List (List Frames)) (ring : List Entry) (newest count : ℕ) → GoesOn a b ring newest count → length ring ≤ count → IsSettling a b ring newest count
ends a b ring newest count g all = record {
  there = g.there;
  flushed = g.flushed;
  magazines = g.magazines;
  stays = rw (drop_all count ring all) tt;
}

pub put_is : (b : Bool) (old new : List (List Frames)) (e : Entry) (n : ℕ) (r : Frames) → order_in e.len ≡ n → r ≡ entry_range e → OnTrue b (IsPut old new n r) → OnTrue b (new ≡ with_entry old e)
put_is false old new e n r at is h = tt
put_is true old new e n r at is h =
    h ∙ (ap (λ (r : Frames). with_magazine old n (magazine_of old n ++ r ∷ [])) is ∙ ap (λ n. with_magazine old n (magazine_of old n ++ entry_range e ∷ [])) (sym at))

pub full_is : (b : Bool) (ms : List (List Frames)) (e : Entry) (n : ℕ) → order_in e.len ≡ n → OnFalse b (length (magazine_of ms n) ≡ 256) → OnFalse b (length (magazine_of ms (order_in e.len)) ≡ 256)
full_is true ms e n at h = tt
full_is false ms e n at h = rw at h
