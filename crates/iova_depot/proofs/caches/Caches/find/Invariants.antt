use Rattle.std.proofs.Common.{◌≡◌, ◌++◌}
use Rattle.std.specs.Prelude.{drop, map, find, option_map}
use Rattle.iova_model.specs.State.{magazine_holders, depot_holders, cached_holders}
use Rattle.iova_depot.specs.Inside.{caches_of}
use Rattle.iova_depot.proofs.Changes.{caches_in, lists_in}
use Rattle.iova_depot.proofs.Found.{has, place_in}
use Rattle.iova_depot.proofs.caches.Caches.find.Given as goal

-- the first place is of this worker or after
abbrev pub invariant-loop-w : goal.invariant-loop-w
invariant-loop-w l =
    option_map place_in (find (has l.frame) (magazine_holders l.w (drop l.w (map caches_in l.self-inside.workers.items)) ++ depot_holders 0 (map lists_in l.self-inside.depots.items)))
    ≡ option_map place_in (find (has l.frame) (cached_holders (caches_of l.self-inside.workers.items l.self-inside.depots.items)))

-- the first place is of this order's depot or after
abbrev pub invariant-loop-order : goal.invariant-loop-order
invariant-loop-order l =
    option_map place_in (find (has l.frame) (depot_holders l.order (drop l.order (map lists_in l.self-inside.depots.items))))
    ≡ option_map place_in (find (has l.frame) (cached_holders (caches_of l.self-inside.workers.items l.self-inside.depots.items)))
