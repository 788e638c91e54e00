-- What a get and a take leave in the two magazines of one worker and one order.
use Rattle.std.proofs.Common.{ℕ, zero, suc, ◌≡◌, ◌+◌, ◌-◌, ◌<◌, inl, inr, Bool, true, false, List, [], ◌∷◌, length, take, Option, Some, None, refl, sym, ap, ◌∙◌, arith}
use Rattle.std.specs.Prelude.{IfNone, IfSome, slice_get, remove}
use Rattle.std.proofs.lemmas.Option.{gets}
use Rattle.std.proofs.lemmas.List.{length-take-le}
use Rattle.iova_model.specs.Caches.{Cache, TakesOut, TakesOffShelf, get, front}
use Rattle.iova_mag.specs.Workers.{shelf_of, pair_of, AreEmpty, newest, without_newest}

-- Get.

-- a get finds nothing in empty ones, and leaves them so
pub get-empty : (c : Cache) (limit size : ℕ) → AreEmpty c → pair_of (get (shelf_of c) limit size).1 ≡ c
get-empty c limit size none = empty c.loaded c.previous none.0 none.1
  where
    empty : (loaded previous : List ℕ) → loaded ≡ [] → previous ≡ [] → let c : Cache = record { loaded = loaded; previous = previous } in pair_of (get (shelf_of c) limit size).1 ≡ c
    empty [] [] e f = refl
    empty (x ∷ xs) previous e f = absurd cc
    empty [] (y ∷ ys) e f = absurd cc

-- Take.

-- the last of a list, and the list without it
pub record TakesLast (los : List ℕ) (lo : ℕ) : Type 0 where
  pub count : length (front los) + 1 ≡ length los
  pub takes : TakesOut lo los (front los)

empty_list : {A : Type 0} (xs : List A) → length xs ≡ 0 → [] ≡ xs
empty_list [] e = refl
empty_list (y ∷ ys) e = absurd (omega arith)

-- to take the last out is to leave the front
pub front-remove : {A : Type 0} (xs : List A) (n : ℕ) → length xs ≡ suc n → take n xs ≡ remove xs n
front-remove [] n e = absurd (omega arith)
front-remove (x ∷ xs) zero e = empty_list xs (omega arith)
front-remove (x ∷ xs) (suc n) e = ap (λ ys. x ∷ ys) (front-remove xs n (omega arith))

pub takes_last : (los : List ℕ) (lo : ℕ) → slice_get los (length los - 1) ≡ Some lo → TakesLast los lo
takes_last [] lo some = absurd cc
takes_last (x ∷ xs) lo some =
    let n : length (x ∷ xs) - 1 ≡ length xs = omega arith in
    let m : length (front (x ∷ xs)) ≡ length (x ∷ xs) - 1 = length-take-le (length (x ∷ xs) - 1) (x ∷ xs) (omega arith) in
    record {
      count = omega arith;
      takes = record { place = length (x ∷ xs) - 1; here = some; others = rw n (front-remove (x ∷ xs) (length xs) (omega arith)) };
    }

pub some_last : (x : ℕ) (xs : List ℕ) → slice_get (x ∷ xs) (length (x ∷ xs) - 1) ≡ None → ⊥
some_last x xs none =
    let lt : length (x ∷ xs) - 1 < length (x ∷ xs) = omega arith in
    grind (arith, gets, lt)

-- where there is a newest entry, it leaves loaded or previous
newest_of : (loaded previous : List ℕ) (lo : ℕ) → let c : Cache = record { loaded = loaded; previous = previous } in newest c ≡ Some lo → (depot : List (List ℕ))
    → TakesOffShelf lo (record { loaded = loaded; previous = previous; depot = depot }) (record { loaded = (without_newest c).loaded; previous = (without_newest c).previous; depot = depot })
newest_of (x ∷ xs) previous lo some depot = inl ((takes_last (x ∷ xs) lo some).takes, refl, refl)
newest_of [] previous lo some depot = inr (inl (refl, (takes_last previous lo some).takes, refl))

pub takes_newest : (c : Cache) (lo : ℕ) → newest c ≡ Some lo → (depot : List (List ℕ))
    → TakesOffShelf lo (record { loaded = c.loaded; previous = c.previous; depot = depot }) (record { loaded = (without_newest c).loaded; previous = (without_newest c).previous; depot = depot })
takes_newest c lo some depot = newest_of c.loaded c.previous lo some depot

-- empty ones have none, and stay empty
pub newest-empty : (c : Cache) → AreEmpty c → AreEmpty (without_newest c)
newest-empty c none = empty c.loaded c.previous none.0 none.1
  where
    empty : (loaded previous : List ℕ) → loaded ≡ [] → previous ≡ [] → AreEmpty (without_newest (record { loaded = loaded; previous = previous }))
    empty [] [] e f = (refl, refl)
    empty (x ∷ xs) previous e f = absurd cc
    empty [] (y ∷ ys) e f = absurd cc

-- where there is none, nothing changes
none_of : (loaded previous : List ℕ) → let c : Cache = record { loaded = loaded; previous = previous } in newest c ≡ None → AreEmpty c × (without_newest c ≡ c)
none_of (x ∷ xs) previous none = absurd (some_last x xs none)
none_of [] (y ∷ ys) none = absurd (some_last y ys none)
none_of [] [] none = ((refl, refl), refl)

pub without_newest-none : (c : Cache) → newest c ≡ None → AreEmpty c × (without_newest c ≡ c)
without_newest-none c none = none_of c.loaded c.previous none

-- what holds, where there is no value
pub on_none : {T P : Type 0} → (r : Option T) → (r ≡ None → P) → IfNone r P
on_none None holds = holds refl
on_none (Some x) holds = tt

-- what holds of each value, where there is one
pub on_some : {T : Type 0} (P : T → Type 0) → (r : Option T) → ((x : T) → r ≡ Some x → P x) → IfSome r P
on_some P None holds = tt
on_some P (Some x) holds = holds x refl

pub true_is_not_false : {b : Bool} → b ≡ true → b ≡ false → ⊥
true_is_not_false e f = let both : true ≡ false = sym e ∙ f in cc
