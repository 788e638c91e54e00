-- What lets a domain go to another thread, layer by layer.
use denote.Param.Send.{IsSend, sendable}
use Rattle.std.proofs.Crossing.{crosses}
use Rattle.iova_tree.specs.contracts.tree.Tree as trees
use Rattle.iova_clients.specs.contracts.clients.Clients as clients
use Rattle.iova_depot.specs.contracts.caches.Caches as caches
use Rattle.iova_flush.specs.contracts.ring.Ring as rings
use Rattle.iova_flush.specs.contracts.flights.Flights as flights
use Rattle.iova_core.specs.contracts.domain.Domain as domains

pub Domain-send : IsSend trees.the_row → IsSend clients.the_row → IsSend caches.the_row → IsSend rings.the_row → IsSend flights.the_row → IsSend domains.the_row
Domain-send tree clients caches rings flights = search (crosses, sendable) depth 20
