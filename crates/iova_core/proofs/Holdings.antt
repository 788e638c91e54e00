-- A holding that is taken, and one that is put back.
use Rattle.std.proofs.Common.{ℕ, ◌≡◌, ◌+◌, ◌<◌, ◌≤◌, ◌==◌, Bool, true, false, List, [], ◌∷◌, length, find, Option, Some, None, Ok, refl, sym, ap, ◌∙◌, arith}
use Rattle.std.specs.Prelude.{nat_lt, ok_or}
use Rattle.std.proofs.lemmas.Bool.Decides.{nat_tests}
use Rattle.iova_range.specs.declared.refusal.Refusal.{Refusal}
use Rattle.iova_range.specs.Frames.{Frames}
use Rattle.iova_model.specs.Clients.{Client, client_with, change_client, insert_rising, begins_at, remove_at}
use Rattle.iova_model.specs.Valid.{Rises}
use Rattle.iova_clients.specs.Registry.{held_at}

-- what a take that went well says
pub record IsTaken (lo : ℕ) (o : Option Client) (r : Frames) : Type 0 where
  pub client : Client
  pub found : o ≡ Some client
  pub held : find (begins_at lo) client.holdings ≡ Some r

taken_step : (lo : ℕ) (x : Client) (e : Refusal) (f : Option Frames) (r : Frames) → find (begins_at lo) x.holdings ≡ f → Ok r ≡ ok_or f e → IsTaken lo (Some x) r
taken_step lo x e None r is h = absurd cc
taken_step lo x e (Some y) r is h = record { client = x; found = refl; held = is ∙ (let same : r ≡ y = cc in ap Some (sym same)) }

pub taken_from : (lo : ℕ) (o : Option Client) (r : Frames) → Ok r ≡ held_at lo o → IsTaken lo o r
taken_from lo None r h = absurd cc
taken_from lo (Some x) r h = taken_step lo x _ (find (begins_at lo) x.holdings) r refl h

-- Holdings that rise.

pub found_lo : (lo : ℕ) (hs : List Frames) (r : Frames) → find (begins_at lo) hs ≡ Some r → r.lo ≡ lo
found_lo lo [] r found = absurd cc
found_lo lo (x ∷ xs) r found = step (λ e. found_lo lo xs r e) (x.lo == lo) refl
  where
    step : (find (begins_at lo) xs ≡ Some r → r.lo ≡ lo) → (b : Bool) → (x.lo == lo) ≡ b → r.lo ≡ lo
    step more true is = let h : Some x ≡ Some r = rw is at found in let same : x ≡ r = cc (h) in let at : x.lo ≡ lo = grind (arith, nat_tests) in sym (ap (λ (f : Frames). f.lo) same) ∙ at
    step more false is = more (rw is at found)

none_below : (from lo : ℕ) (hs : List Frames) → Rises from hs → lo < from → find (begins_at lo) hs ≡ None
none_below from lo [] rises lt = refl
none_below from lo (x ∷ xs) rises lt =
    let other : (x.lo == lo) ≡ false = let le = rises.0 in grind (arith, nat_tests) in
    rw other (none_below (x.lo + 1) lo xs rises.1 (omega (arith, rises.0)))

found_from : (from lo : ℕ) (hs : List Frames) (r : Frames) → Rises from hs → find (begins_at lo) hs ≡ Some r → from ≤ lo
found_from from lo hs r rises found = step (nat_lt lo from) refl
  where
    step : (b : Bool) → nat_lt lo from ≡ b → from ≤ lo
    step true is = let lt : lo < from = grind (arith, nat_tests) in absurd (let none : Some r ≡ None = sym found ∙ none_below from lo hs rises lt in cc)
    step false is = grind (arith, nat_tests)

-- one that is taken isn't there
pub taken_none : (from lo : ℕ) (hs : List Frames) → Rises from hs → find (begins_at lo) (remove_at lo hs) ≡ None
taken_none from lo [] rises = refl
taken_none from lo (x ∷ xs) rises = step (taken_none (x.lo + 1) lo xs rises.1) (x.lo == lo) refl
  where
    step : find (begins_at lo) (remove_at lo xs) ≡ None → (b : Bool) → (x.lo == lo) ≡ b → find (begins_at lo) (remove_at lo (x ∷ xs)) ≡ None
    step more true is = let at : x.lo ≡ lo = grind (arith, nat_tests) in rw is (none_below (x.lo + 1) lo xs rises.1 (omega (arith, at)))
    step more false is = rw is (rw is more)

pub removed_length : (lo : ℕ) (hs : List Frames) (r : Frames) → find (begins_at lo) hs ≡ Some r → length (remove_at lo hs) + 1 ≡ length hs
removed_length lo [] r found = absurd cc
removed_length lo (x ∷ xs) r found = step (λ e. removed_length lo xs r e) (x.lo == lo) refl
  where
    step : (find (begins_at lo) xs ≡ Some r → length (remove_at lo xs) + 1 ≡ length xs) → (b : Bool) → (x.lo == lo) ≡ b → length (remove_at lo (x ∷ xs)) + 1 ≡ length (x ∷ xs)
    step more true is = rw is (omega arith)
    step more false is = rw is (let e = more (rw is at found) in omega (arith, e))

insert_first : (r : Frames) (xs : List Frames) → Rises (r.lo + 1) xs → insert_rising r xs ≡ r ∷ xs
insert_first r [] rises = refl
insert_first r (x ∷ xs) rises =
    let below : nat_lt r.lo x.lo ≡ true = let le = rises.0 in grind (arith, nat_tests) in rw below refl

-- and is where it was once it is put back
pub put_back : (from lo : ℕ) (hs : List Frames) (r : Frames) → Rises from hs → find (begins_at lo) hs ≡ Some r → insert_rising r (remove_at lo hs) ≡ hs
put_back from lo [] r rises found = absurd cc
put_back from lo (x ∷ xs) r rises found = step (λ e. put_back (x.lo + 1) lo xs r rises.1 e) (x.lo == lo) refl
  where
    step : (find (begins_at lo) xs ≡ Some r → insert_rising r (remove_at lo xs) ≡ xs) → (b : Bool) → (x.lo == lo) ≡ b → insert_rising r (remove_at lo (x ∷ xs)) ≡ x ∷ xs
    step more true is =
        let h : Some x ≡ Some r = rw is at found in
        let same : x ≡ r = cc (h) in
        rw is (rw (sym same) (insert_first x xs rises.1))
    step more false is =
        let h : find (begins_at lo) xs ≡ Some r = rw is at found in
        let lo_is = found_lo lo xs r h in
        let later = found_from (x.lo + 1) lo xs r rises.1 h in
        let above : nat_lt r.lo x.lo ≡ false = let a = lo_is in let b = later in grind (arith, nat_tests) in
        rw is (rw above (ap (λ l. x ∷ l) (more h)))

-- a client that is changed back
pub changed_back : (id : ℕ) (f g : Client → Client) (c : Client) (cs : List Client) → client_with id cs ≡ Some c → (g c).id ≡ c.id → f (g c) ≡ c → change_client id f (change_client id g cs) ≡ cs
changed_back id f g c [] found keeps back = absurd cc
changed_back id f g c (x ∷ xs) found keeps back = step (λ e. changed_back id f g c xs e keeps back) (x.id == id) refl
  where
    step : (client_with id xs ≡ Some c → change_client id f (change_client id g xs) ≡ xs) → (b : Bool) → (x.id == id) ≡ b → change_client id f (change_client id g (x ∷ xs)) ≡ x ∷ xs
    step more true is =
        let h : Some x ≡ Some c = rw is at found in
        let same : x ≡ c = cc (h) in
        let still : ((g x).id == id) ≡ true = rw same (rw keeps (rw same at is)) in
        rw is (rw still (rw same (ap (λ y. y ∷ xs) back)))
    step more false is = rw is (rw is (ap (λ l. x ∷ l) (more (rw is at found))))
