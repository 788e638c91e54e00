-- The ghost state of the tokens. The annals own the right to say which entries the history has.
-- Each hand has a ghost name, whose value is the list of the hand's entries. The annals own one half
-- of the name, and the hand owns the other half.
use Rattle.std.specs.Prelude.{ℕ, suc, List, [], ◌∷◌, map}
use base.Fraction.{full_share}
use base.Stored.{Gv, Coded, coded×, coded_ℕ, coded_list}
use base.Fml.{Fml, ftrue, fsep, fobs, fauth}
use base.Growing.{Order, prefixes, latest, at_least}
use Rattle.iova_annals.specs.Histories.{of_hand}

-- The history as a list of ghost values, so that the algebra names no type parameter.
abbrev itself : Coded Gv
itself = record { code = λ g. g; inj = λ x y p. p }

abbrev pub logs : Order (List Gv)
logs = prefixes itself

module _ {E : Type 0} (cv : Coded E) where
  abbrev pub lists : Coded (List E)
  lists = coded_list cv

  abbrev pub marked : Coded (ℕ × E)
  marked = coded× coded_ℕ cv

  -- the annals' half of each name, from number k on
  abbrev pub rows : ℕ → List ℕ → List (ℕ × E) → Fml
  rows k [] log = ftrue
  rows k (δ ∷ δs) log = fsep (fauth δ (lists.code (of_hand k log))) (rows (suc k) δs log)

  unfoldable pub annals_owns : ℕ → List ℕ → List (ℕ × E) → Fml
  annals_owns γ hands log = fsep (latest logs full_share γ (map marked.code log)) (rows 0 hands log)

  unfoldable pub hand_owns : ℕ → ℕ → List E → List (ℕ × E) → Fml
  hand_owns γ δ mine seen =
      fsep (fobs δ (lists.code mine)) (at_least logs γ (map marked.code seen))

  -- the hands of a row, which have no entries
  abbrev pub unused : ℕ → List ℕ → Fml
  unused γ [] = ftrue
  unused γ (δ ∷ δs) = fsep (hand_owns γ δ [] []) (unused γ δs)

  unfoldable pub hands_own : ℕ → List ℕ → Fml
  hands_own γ names = unused γ names
