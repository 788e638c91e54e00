use denote.Param.Send.{sendable}
use Rattle.iova_daemon.proofs.Sends.{Shared-sync}
use Rattle.iova_daemon.proofs.threads.domains_are_sync.Goals as goal

-- its runtime may be shared, and its book may go to another thread
pub is_sync-requires-sync-T : goal.is_sync-requires-sync-T
is_sync-requires-sync-T g c κs within =
    let runtime = c.type_bounds.sync-Q in
    let book = c.books_are_send.ensures in
    search (Shared-sync, sendable) depth 20
