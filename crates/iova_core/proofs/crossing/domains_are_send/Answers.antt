use Rattle.iova_core.proofs.Sends.{Domain-send}
use Rattle.iova_core.proofs.crossing.domains_are_send.Goals as goal

pub returns : goal.returns
returns c =
    let p = c.parts_are_send.ensures in
    Domain-send p.tree p.clients p.caches p.rings p.flights
