-- What lets threads share what they are lent.
use denote.RattleType.{RattleType}
use denote.Param.Send.{IsSend, IsSync, sendable}
use Rattle.std.proofs.Crossing.{crosses}
use Rattle.iova_keep.specs.declared.names.Names.{Ghosts}
use Rattle.iova_lock.specs.contracts.book.Book as books
use Rattle.iova_lock.specs.contracts.shared.Shared as domains
use Rattle.iova_daemon.specs.contracts.daemon_state.DaemonState as daemon_states

-- what the threads have of their daemon
pub DaemonState-sync : IsSync daemon_states.the_row
DaemonState-sync = search (crosses, sendable) depth 20

-- a domain under its lock may be shared where its book may go to another thread
pub Shared-sync : (Q B : RattleType) (b : Ghosts B.Denot) → IsSync Q → IsSend (books.the_row B b)
    → IsSync (domains.the_row Q B b)
Shared-sync Q B b q book = search (crosses, sendable) depth 20
