use Rattle.std.proofs.Common.{◌≡◌, ◌-◌, ◌≤◌, drop, take, length, arith, ap, sym, ◌∙◌}
use Rattle.iova_flush.specs.Rings.{frame_count}
use Rattle.iova_flush.proofs.RingSteps.{drop-kept}
use Rattle.iova_flush.proofs.ring.Ring.drop_oldest.Goals as goal

pub invariant_of-self : goal.invariant_of-self
invariant_of-self c =
    let es = c.self.inside.entries.items in
    let there : c.args.count ≤ length es = omega (arith, c.requires.there, ap length c.self.view_is) in
    let gone : length es - (c.len.result - c.args.count) ≡ c.args.count = omega (arith, there, c.len.ensures.len) in
    drop-kept c.args.count c.args.frames c.oldest_of-self-inside.result _ _ c.self.invariant
    (ap (λ b. b.capacity) c.truncate_front.ensures)
    (ap (λ b. b.items) c.truncate_front.ensures ∙ ap (λ n. drop n es) gone)
    (c.requires.frames ∙ ap (λ l. frame_count (take c.args.count l)) (sym c.self.view_is))
    c.oldest_of-self-inside.ensures
