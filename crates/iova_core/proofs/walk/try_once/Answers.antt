use Rattle.std.proofs.Common.{[], Some, refl, ap, sym, ◌∙◌, arith}
use Rattle.iova_range.specs.Frames.{Frames}
use Rattle.iova_model.specs.Caches.{Caches}
use Rattle.iova_model.specs.Fit.{best}
use Rattle.iova_tree.specs.Space.{ranges_of}
use Rattle.iova_depot.specs.Cached.{Cached}
use Rattle.iova_core.specs.declared.walk.Walked.TheVariants.{Nowhere}
use Rattle.iova_model.specs.declared.step.Point.TheVariants.{Last}
use Rattle.iova_core.proofs.Reclaims.{has_low}
use Rattle.iova_core.proofs.Drains.{backed_left}
use Rattle.iova_core.proofs.Tries.{gets, gets_has, exchanges_got, exchanges_placed, exchanges_later, comes_tree, comes_emptied, places_none, places_size, places_point, point_from_own, as_nowhere, missed_exchange, missed_stands, emptied_stands, emptied_left}
use Rattle.iova_core.proofs.walk.try_once.Goals as goal

pub new-requires-clause-fits : goal.new-requires-clause-fits
new-requires-clause-fits c =
    let r : Frames = record { lo = c.in-Some.lo; len = c.args.size } in
    let from = gets c.args.caches.now c.from_caches.new.caches c.args.w c.args.size c.args.limit (Some c.in-Some.lo) c.requires.backed.cached c.requires.worker (sym c.in-Some.is ∙ c.from_caches.ensures.value) c.from_caches.ensures.left in
    let low = has_low c.args.tree.now r c.requires.backed.space (gets_has c.args.tree.now c.args.caches.now c.from_caches.new.caches c.args.size c.in-Some.lo c.requires.backed from) in
    omega (arith, low)

pub returns-in-Some-clause-backed : goal.returns-in-Some-clause-backed
returns-in-Some-clause-backed c =
    let old = c.args.caches.now in
    let made : Caches → Cached = λ x. record old { caches = x } in
    let from = gets old c.from_caches.new.caches c.args.w c.args.size c.args.limit (Some c.in-Some.lo) c.requires.backed.cached c.requires.worker (sym c.in-Some.is ∙ c.from_caches.ensures.value) c.from_caches.ensures.left in
    rw c.new.ensures (exchanges_got c.args.tree.now old c.from_caches.new.caches c.args.size (Some c.in-Some.lo) c.requires.backed.space (c.from_caches.ensures.cached c.requires.backed.cached) from (c.from_caches.ensures.left ∙ ap made (sym (ap (λ (x : Cached). x.caches) c.from_caches.ensures.left))))

pub returns-in_default-from_tree : goal.returns-in_default-from_tree
returns-in_default-from_tree c =
    let tree = c.args.tree.now in
    let old = c.args.caches.now in
    let miss = sym c.in_default.is ∙ c.from_caches.ensures.value in
    let left = c.from_caches.ensures.left in
    let o = best tree.bounds (ranges_of tree) c.args.size c.args.limit in
    record {
      comes = λ s stands.
          comes_tree s old.caches c.args.w c.args.size c.args.limit stands.cached miss tree c.from_tree.new.tree c.args.emptying c.args.here c.from_tree.result c.from_caches.new.caches.caches c.requires.some c.requires.backed.space
          (missed_stands tree old c.from_caches.new.caches c.args.w c.args.size c.args.limit c.requires.backed c.requires.worker c.from_caches.ensures.cached miss left s stands) (ap (λ (x : Cached). x.caches) left) c.requires.here c.from_tree.ensures.places
          (λ e. absurd (c.in_default-from_tree.not-Nowhere (as_nowhere c.from_tree.result e)));
      size = places_size o c.args.here c.args.size tree c.from_tree.new.tree c.from_tree.result c.from_tree.ensures.places;
      point = point_from_own c.args.here _ (places_point o c.args.here c.args.size tree c.from_tree.new.tree c.from_tree.result c.from_tree.ensures.places);
      backed = exchanges_later tree tree c.from_tree.new.tree old c.from_caches.new.caches c.from_caches.new.caches _
          (missed_exchange tree old c.from_caches.new.caches c.args.w c.args.size c.args.limit c.requires.backed c.requires.worker c.from_caches.ensures.cached miss left)
          (exchanges_placed o c.args.here c.args.size tree c.from_tree.new.tree c.from_caches.new.caches c.from_tree.result (c.from_tree.ensures.space c.requires.backed.space) (c.from_caches.ensures.cached c.requires.backed.cached) c.from_tree.ensures.places);
    }

pub returns-then-not-emptying-clause-comes : goal.returns-then-not-emptying-clause-comes
returns-then-not-emptying-clause-comes c s stands =
    let tree = c.args.tree.now in
    let old = c.args.caches.now in
    let miss = sym c.in_default.is ∙ c.from_caches.ensures.value in
    let left = c.from_caches.ensures.left in
    comes_tree s old.caches c.args.w c.args.size c.args.limit stands.cached miss tree c.from_tree.new.tree c.args.emptying c.args.here Nowhere c.from_caches.new.caches.caches c.requires.some c.requires.backed.space
    (missed_stands tree old c.from_caches.new.caches c.args.w c.args.size c.args.limit c.requires.backed c.requires.worker c.from_caches.ensures.cached miss left s stands) (ap (λ (x : Cached). x.caches) left) c.requires.here
    c.in-Nowhere.ensures.places (λ e. c.if-not-emptying.true)

pub returns-then-not-emptying-clause-backed : goal.returns-then-not-emptying-clause-backed
returns-then-not-emptying-clause-backed c =
    let tree = c.args.tree.now in
    let old = c.args.caches.now in
    let miss = sym c.in_default.is ∙ c.from_caches.ensures.value in
    let left = c.from_caches.ensures.left in
    let o = best tree.bounds (ranges_of tree) c.args.size c.args.limit in
    exchanges_later tree tree c.from_tree.new.tree old c.from_caches.new.caches c.from_caches.new.caches []
    (missed_exchange tree old c.from_caches.new.caches c.args.w c.args.size c.args.limit c.requires.backed c.requires.worker c.from_caches.ensures.cached miss left)
    (exchanges_placed o c.args.here c.args.size tree c.from_tree.new.tree c.from_caches.new.caches Nowhere (c.from_tree.ensures.space c.requires.backed.space) (c.from_caches.ensures.cached c.requires.backed.cached) c.in-Nowhere.ensures.places)

pub empty-requires : goal.empty-requires
empty-requires c =
    let tree = c.args.tree.now in
    let old = c.args.caches.now in
    let miss = sym c.in_default.is ∙ c.from_caches.ensures.value in
    let left = c.from_caches.ensures.left in
    let o = best tree.bounds (ranges_of tree) c.args.size c.args.limit in
    let none = places_none o c.args.here c.args.size tree c.from_tree.new.tree c.in-Nowhere.ensures.places in
    let ex = missed_exchange tree old c.from_caches.new.caches c.args.w c.args.size c.args.limit c.requires.backed c.requires.worker c.from_caches.ensures.cached miss left in
    record { backed = rw none.1 (backed_left tree tree old c.from_caches.new.caches [] [] [] c.requires.backed refl ex) }

pub returns-clause-comes : goal.returns-clause-comes
returns-clause-comes c s stands =
    let tree = c.args.tree.now in
    let old = c.args.caches.now in
    let d = c.from_caches.new.caches in
    let miss = sym c.in_default.is ∙ c.from_caches.ensures.value in
    let left = c.from_caches.ensures.left in
    let o = best tree.bounds (ranges_of tree) c.args.size c.args.limit in
    let none = places_none o c.args.here c.args.size tree c.from_tree.new.tree c.in-Nowhere.ensures.places in
    let ex = rw none.1 at c.empty.ensures.backed in
    rw c.if-not-emptying.false (comes_emptied s old.caches c.args.w c.args.size c.args.limit stands.cached miss tree c.empty.new.tree c.from_tree-2.new.tree c.args.here c.from_tree-2.result c.empty.new.caches.caches c.requires.some c.requires.backed.space
    (missed_stands tree old d c.args.w c.args.size c.args.limit c.requires.backed c.requires.worker c.from_caches.ensures.cached miss left s stands) none.0 ex.space
    (emptied_stands tree old d c.args.w c.args.size c.args.limit c.requires.backed c.requires.worker c.from_caches.ensures.cached miss left c.empty.new.tree c.empty.new.caches s stands c.empty.ensures.caches ex)
    (emptied_left tree old d c.args.w c.args.size c.args.limit c.requires.backed c.requires.worker c.from_caches.ensures.cached miss left c.empty.new.caches c.empty.ensures.caches) c.from_tree-2.ensures.places)

pub returns-clause-backed : goal.returns-clause-backed
returns-clause-backed c =
    let tree = c.args.tree.now in
    let old = c.args.caches.now in
    let d = c.from_caches.new.caches in
    let miss = sym c.in_default.is ∙ c.from_caches.ensures.value in
    let left = c.from_caches.ensures.left in
    let o = best tree.bounds (ranges_of tree) c.args.size c.args.limit in
    let none = places_none o c.args.here c.args.size tree c.from_tree.new.tree c.in-Nowhere.ensures.places in
    let ex = rw none.1 at c.empty.ensures.backed in
    let ex' = missed_exchange tree old d c.args.w c.args.size c.args.limit c.requires.backed c.requires.worker c.from_caches.ensures.cached miss left in
    let mid = c.empty.new.tree in
    exchanges_later tree mid c.from_tree-2.new.tree old c.empty.new.caches c.empty.new.caches _ (exchanges_later tree tree mid old d c.empty.new.caches [] ex' ex)
    (exchanges_placed (best mid.bounds (ranges_of mid) c.args.size c.args.limit) Last c.args.size mid c.from_tree-2.new.tree c.empty.new.caches c.from_tree-2.result (c.from_tree-2.ensures.space ex.space) ex.cached c.from_tree-2.ensures.places)
