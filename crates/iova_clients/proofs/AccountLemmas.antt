-- Accounts whose parts are equal are equal.
use Rattle.std.proofs.Common.{◌≡◌, ℕ, Bool, List}
use Rattle.iova_range.specs.Frames.{Frames}
use Rattle.iova_clients.specs.Accounts.{Account}

pub same_account : (worker : ℕ) (sac closing : Bool) (hs gs : List Frames) (m n : ℕ) → hs ≡ gs → m ≡ n
    → ◌≡◌ {A = Account} (record { worker = worker; sac = sac; closing = closing; holdings = hs; spare = m })
    (record { worker = worker; sac = sac; closing = closing; holdings = gs; spare = n })
same_account worker sac closing hs gs m n e f = cc
