-- The ghost state of the tokens names no key of a thread, so the tokens may go to another thread.
use mathlib.Core.List.{List, [], ◌∷◌}
use Prim.Native.Nat.{ℕ, suc}
use base.Shift.{Keyless}
use base.Stored.{Coded}
use base.Growing.{latest, at_least}
use denote.RattleType.{RattleType}
use denote.Param.Send.{IsSend}
use Rattle.iova_annals.specs.Owned.{rows, annals_owns, hand_owns, unused, hands_own}
use Rattle.iova_annals.specs.contracts.Annals as Annals
use Rattle.iova_annals.specs.contracts.Hand as Hand
use Rattle.iova_annals.specs.contracts.Hands as Hands

module _ {E : Type 0} (cv : Coded E) where
  rows_keyless : (k : ℕ) (hands : List ℕ) (log : List (ℕ × E)) → Keyless (rows cv k hands log)
  rows_keyless k [] log = tt
  rows_keyless k (δ ∷ δs) log = (tt, rows_keyless (suc k) δs log)

  pub annals_keyless : (γ : ℕ) (hands : List ℕ) (log : List (ℕ × E)) → Keyless (annals_owns cv γ hands log)
  unfolding annals_owns latest
  annals_keyless γ hands log = (tt, rows_keyless 0 hands log)

  pub hand_keyless : (γ δ : ℕ) (mine : List E) (seen : List (ℕ × E)) → Keyless (hand_owns cv γ δ mine seen)
  unfolding hand_owns at_least
  hand_keyless γ δ mine seen = (tt, tt)

  unused_keyless : (γ : ℕ) (names : List ℕ) → Keyless (unused cv γ names)
  unused_keyless γ [] = tt
  unused_keyless γ (δ ∷ δs) = (hand_keyless γ δ [] [], unused_keyless γ δs)

  pub hands_keyless : (γ : ℕ) (names : List ℕ) → Keyless (hands_own cv γ names)
  unfolding hands_own
  hands_keyless γ names = unused_keyless γ names

pub annals_send : (E : RattleType) → IsSend (Annals.the_row E)
annals_send E = record { owned = λ d vs. ((λ vss. (tt, ((λ uss. (tt, tt)), tt))), annals_keyless E.coded d.book d.hands d.log); leaving = λ k f vs. tt }

pub hand_send : (E : RattleType) → IsSend (Hand.the_row E)
hand_send E = record { owned = λ d vs. ((λ vss. (tt, ((λ uss. (tt, tt)), tt))), hand_keyless E.coded d.book d.name d.mine d.seen); leaving = λ k f vs. tt }

pub hands_send : (E : RattleType) → IsSend (Hands.the_row E)
hands_send E = record { owned = λ d vs. ((λ vss. (tt, ((λ uss. (tt, tt)), tt))), hands_keyless E.coded d.book d.names); leaving = λ k f vs. tt }
