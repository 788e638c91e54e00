use Rattle.iova_clients.specs.Chains.{AreLinks}
use Rattle.iova_clients.proofs.chains.link_all.Given as goal

abbrev pub invariant-loop-place : goal.invariant-loop-place
invariant-loop-place l = AreLinks l.cells l.place l.links
