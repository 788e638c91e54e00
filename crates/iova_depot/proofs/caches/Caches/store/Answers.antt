use Rattle.std.proofs.Common.{◌≡◌, ◌≤◌, ◌+◌, ◌*◌, length, vec_len, arith}
use Rattle.iova_depot.proofs.Changes.{cached}
use Rattle.iova_depot.proofs.OfDepots.{count_fits, of_push}
use Rattle.iova_depot.proofs.caches.Caches.store.Goals as goal

pub overflow_add-self : goal.overflow_add-self
overflow_add-self c =
    let magazine = c.len.ensures.sound in
    let fits = count_fits _ _ _ _ _ _ _ _ c.self.invariant c.requires.order c.len.ensures.is c.len.ensures.sound in
    omega arith

pub invariant_of-self-2 : goal.invariant_of-self-2
invariant_of-self-2 c =
    let len : vec_len c.self.inside.workers ≡ length c.self.inside.workers.items = omega (arith, c.self.inside.workers.ok.0) in
    let le : c.min-self-inside.result ≤ c.self.inside.first_filled = omega arith in
    let below : c.min-self-inside.result ≤ length c.self.inside.workers.items * 6 + c.args.order = omega arith in
    (of_push _ _ _ _ _ _ _ _ _ _ _ c.self.invariant c.requires.order c.index_mut-depot.ensures.value c.push.ensures.pushed c.push.ensures.sound c.len.ensures.is c.len.ensures.sound le below).inside

pub returns-clause-sound : goal.returns-clause-sound
returns-clause-sound c =
    let len : vec_len c.self.inside.workers ≡ length c.self.inside.workers.items = omega (arith, c.self.inside.workers.ok.0) in
    let le : c.min-self-inside.result ≤ c.self.inside.first_filled = omega arith in
    let below : c.min-self-inside.result ≤ length c.self.inside.workers.items * 6 + c.args.order = omega arith in
    cached _ _ _ _ _ (of_push _ _ _ _ _ _ _ _ _ _ _ c.self.invariant c.requires.order c.index_mut-depot.ensures.value c.push.ensures.pushed c.push.ensures.sound c.len.ensures.is c.len.ensures.sound le below).inside
