-- An entry that waits in a ring.
use Rattle.std.proofs.Common.{ℕ, zero, suc, ◌≡◌, ◌<◌, ◌≤◌, ◌&&◌, ◌||◌, Bool, true, false, List, [], ◌∷◌, ◌++◌, length, arith}
use Rattle.std.specs.Prelude.{nat_le, slice_index_or, slice_set}
use Rattle.std.specs.List.{list_any}
use Rattle.std.proofs.lemmas.Bool.{or_left, or_right}
use Rattle.std.proofs.lemmas.Bool.Decides.{nat_tests}
use Rattle.iova_range.specs.Frames.{covers}
use Rattle.iova_model.specs.declared.entry.Entry.{Entry}
use Rattle.iova_model.specs.Flushes.{entry_range, unflushed_rest}
use Rattle.iova_model.specs.Transcript.{is_ringed}

-- an entry has the frame, with a count that isn't below this one
abbrev pub waits_in : ℕ → ℕ → List Entry → Bool
waits_in frame count [] = false
waits_in frame count (e ∷ es) = (covers frame (entry_range e) && nat_le count e.count) || waits_in frame count es

-- in one of the rings
abbrev pub waits : ℕ → ℕ → List (List Entry) → Bool
waits frame count [] = false
waits frame count (ring ∷ rings) = waits_in frame count ring || waits frame count rings

-- a drain leaves it, where the count isn't below the finish count
pub waits_in-unflushed : (frame count finish : ℕ) (es : List Entry) → finish ≤ count → waits_in frame count es ≡ true → waits_in frame count (unflushed_rest finish es) ≡ true
waits_in-unflushed frame count finish [] le h = h
waits_in-unflushed frame count finish (e ∷ es) le h = grind (arith, nat_tests, waits_in-unflushed frame count finish es le)

-- another entry comes
pub waits_in_push : (frame count : ℕ) (es : List Entry) (e : Entry) → waits_in frame count es ≡ true → waits_in frame count (es ++ e ∷ []) ≡ true
waits_in_push frame count [] e h = absurd cc
waits_in_push frame count (d ∷ es) e h = grind (arith, nat_tests, waits_in_push frame count es e)

-- it has just come
pub waits_in_last : (frame count : ℕ) (es : List Entry) (e : Entry) → covers frame (entry_range e) ≡ true → count ≤ e.count → waits_in frame count (es ++ e ∷ []) ≡ true
waits_in_last frame count [] e has le = grind (arith, nat_tests)
waits_in_last frame count (d ∷ es) e has le = or_right (covers frame (entry_range d) && nat_le count d.count) _ (waits_in_last frame count es e has le)

-- a ring with another content, in which what waited waits
pub waits_kept : (frame count : ℕ) (rings : List (List Entry)) (q : ℕ) (new : List Entry) → (waits_in frame count (slice_index_or rings q []) ≡ true → waits_in frame count new ≡ true)
    → waits frame count rings ≡ true → waits frame count (slice_set rings q new) ≡ true
waits_kept frame count [] q new keep h = h
waits_kept frame count (r ∷ rs) zero new keep h = grind (arith, nat_tests, keep)
waits_kept frame count (r ∷ rs) (suc q) new keep h = grind (arith, nat_tests, waits_kept frame count rs q new keep)

-- a ring with another content, in which it waits
pub waits_put : (frame count : ℕ) (rings : List (List Entry)) (q : ℕ) (new : List Entry) → q < length rings → waits_in frame count new ≡ true → waits frame count (slice_set rings q new) ≡ true
waits_put frame count [] q new inside h = absurd (omega arith)
waits_put frame count (r ∷ rs) zero new inside h = or_left _ _ h
waits_put frame count (r ∷ rs) (suc q) new inside h = or_right (waits_in frame count r) _ (waits_put frame count rs q new (omega arith) h)

-- what waits in a ring has the frame
is_ringed_in : (frame count : ℕ) (es : List Entry) → waits_in frame count es ≡ true → list_any (λ e. covers frame (entry_range e)) es ≡ true
is_ringed_in frame count [] h = h
is_ringed_in frame count (e ∷ es) h = grind (arith, nat_tests, is_ringed_in frame count es)

-- and so a ring has it
pub is_ringed-waits : (frame count : ℕ) (rings : List (List Entry)) → waits frame count rings ≡ true → is_ringed frame rings ≡ true
is_ringed-waits frame count [] h = h
is_ringed-waits frame count (r ∷ rs) h = grind (arith, nat_tests, is_ringed_in frame count r, is_ringed-waits frame count rs)
