use Rattle.std.proofs.Common.{◌≡◌, ◌≤◌, ◌+◌, ◌*◌, length, vec_len, ap, ◌∙◌, arith}
use Rattle.iova_model.specs.Caches.{without_entries}
use Rattle.iova_depot.specs.Cached.{Cached}
use Rattle.iova_depot.proofs.Leaving.{takes_seen, loses_only, loses_frames}
use Rattle.iova_depot.proofs.Slots.{with_first, first_kept, emptied-takes, nothing_left}
use Rattle.iova_depot.proofs.caches.Caches.take_any.Goals as goal

pub invariant_of-self : goal.invariant_of-self
invariant_of-self c =
    with_first _ _ _ _ _ _ c.self-in-loop-slot.invariant
    (first_kept _ _ _ _ _ _ _ _ c.self-in-loop-slot.view_is c.take_from.ensures.same c.loop-slot.invariant.empty c.in-Some.ensures.taken)

pub returns-in-Some-clause-emptied : goal.returns-in-Some-clause-emptied
returns-in-Some-clause-emptied c =
    let left = λ (seen : Cached). without_entries seen.caches in
    ap left c.self-in-loop-slot.view_is ∙ (emptied-takes _ _ _ _ c.in-Some.ensures.taken ∙ ap left c.loop-slot.invariant.same)

pub returns-clause-taken : goal.returns-clause-taken
returns-clause-taken c =
    let len : vec_len c.self.inside.workers ≡ length c.self.inside.workers.items = omega (arith, c.self.inside.workers.ok.0) in
    let all : (length c.self.inside.workers.items + 1) * 6 ≤ c.loop-slot.slot = omega arith in (
      nothing_left _ _ _ _ _ _ _ _ c.self.invariant c.self.view_is c.loop-slot.invariant.same c.loop-slot.invariant.empty all,
      ap (λ (seen : Cached). seen.caches) (c.self-2.view_is ∙ c.loop-slot.invariant.same),
    )

pub returns-in-Some-clause-loses : goal.returns-in-Some-clause-loses
returns-in-Some-clause-loses c =
    loses_only _ _ _ _ (takes_seen _ _ _ _ _ _ _ _ c.self-in-loop-slot.view_is c.loop-slot.invariant.same c.in-Some.ensures.taken)

pub returns-in-Some-clause-fewer : goal.returns-in-Some-clause-fewer
returns-in-Some-clause-fewer c =
    loses_frames _ _ _ _ (takes_seen _ _ _ _ _ _ _ _ c.self-in-loop-slot.view_is c.loop-slot.invariant.same c.in-Some.ensures.taken)
