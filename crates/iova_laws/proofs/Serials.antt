-- Serials that rise, so that each is one client's.
use Rattle.std.proofs.Common.{ℕ, ◌≡◌, ◌+◌, ◌≤◌, List, [], ◌∷◌, ◌++◌, Some, None, refl, arith}
use Rattle.std.proofs.lemmas.Bool.Decides.{nat_tests}
use Rattle.iova_model.specs.Clients.{Client, client_with, change_client, without_client}
use Rattle.iova_model.specs.Valid.{SerialsRise}

-- a change that leaves the serial
abbrev pub KeepsSerial : (Client → Client) → Type 0
KeepsSerial change = (c : Client) → (change c).id ≡ c.id

-- they are above all that is below the first
serials_from : (low low' : ℕ) (clients : List Client) (last : ℕ) → low' ≤ low → SerialsRise low clients last → SerialsRise low' clients last
serials_from low low' [] last le rise = omega arith
serials_from low low' (c ∷ cs) last le rise = (omega arith, rise.1)

-- the bounds of the serials are in order
serials_in_order : (low : ℕ) (clients : List Client) (last : ℕ) → SerialsRise low clients last → low ≤ last
serials_in_order low [] last rise = rise
serials_in_order low (c ∷ cs) last rise = omega (arith, serials_in_order c.id cs last rise.1)

-- the next serial goes last
pub serials-push : (low : ℕ) (clients : List Client) (last : ℕ) (new : Client) → new.id ≡ last + 1 → SerialsRise low clients last → SerialsRise low (clients ++ new ∷ []) (last + 1)
serials-push low [] last new is rise = (omega arith, omega arith)
serials-push low (c ∷ cs) last new is rise = (rise.0, serials-push c.id cs last new is rise.1)

-- a change leaves them
pub serials-changed : (low id : ℕ) (change : Client → Client) (clients : List Client) (last : ℕ) → KeepsSerial change → SerialsRise low clients last → SerialsRise low (change_client id change clients) last
serials-changed low id change [] last keeps rise = rise
serials-changed low id change (x ∷ cs) last keeps rise = grind (arith, nat_tests, serials-changed x.id id change cs last keeps rise.1, keeps x)

-- and so they do where a client goes
pub serials-forgotten : (low id : ℕ) (clients : List Client) (last : ℕ) → SerialsRise low clients last → SerialsRise low (without_client id clients) last
serials-forgotten low id [] last rise = rise
serials-forgotten low id (x ∷ cs) last rise = grind (arith, nat_tests, serials-forgotten x.id id cs last rise.1, serials_from x.id low cs last)

-- what is at most the lower bound is no client's serial
none_below : (id low : ℕ) (clients : List Client) (last : ℕ) → SerialsRise low clients last → id ≤ low → client_with id clients ≡ None
none_below id low [] last rise le = refl
none_below id low (x ∷ cs) last rise le = grind (arith, nat_tests, none_below id x.id cs last rise.1)

-- a client that is forgotten is gone
pub forgotten_is_gone : (id low : ℕ) (clients : List Client) (last : ℕ) → SerialsRise low clients last → client_with id (without_client id clients) ≡ None
forgotten_is_gone id low [] last rise = refl
forgotten_is_gone id low (x ∷ cs) last rise = grind (arith, nat_tests, forgotten_is_gone id x.id cs last rise.1, none_below id x.id cs last rise.1)

-- a client's serial was given
pub serial_given : (id low : ℕ) (c : Client) (clients : List Client) (last : ℕ) → SerialsRise low clients last → client_with id clients ≡ Some c → id ≤ last
serial_given id low c [] last rise is = absurd cc
serial_given id low c (x ∷ cs) last rise is = grind (arith, nat_tests, serial_given id x.id c cs last rise.1, serials_in_order x.id cs last rise.1)
