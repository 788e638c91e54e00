use Rattle.std.proofs.Common.{refl, ap, ◌∙◌}
use Rattle.std.specs.Prelude.{sum_by}
use Rattle.iova_range.specs.Frames.{Frames}
use Rattle.iova_model.specs.declared.step.Point.TheVariants as point
use Rattle.iova_model.specs.declared.step.Reply.TheVariants as reply
use Rattle.iova_core.specs.Domain.{state_of}
use Rattle.iova_core.proofs.Readers.{parts_of}
use Rattle.iova_core.proofs.Windows.{IsReserve, windows_few, is_reserved, is_refused, domain_reserved}
use Rattle.iova_core.proofs.domain.Domain.reserve.Goals as goal

pub window_frames-self-inside-requires : goal.window_frames-self-inside-requires
window_frames-self-inside-requires c = windows_few c.reserve.new.self c.windows.result.now c.windows.ensures.space c.windows.ensures.value

pub invariant_of-self : goal.invariant_of-self
invariant_of-self c =
    let p = parts_of c.self.inside.tree c.self.inside.clients c.self.inside.caches c.self.inside.rings.items c.self.inside.flights c.self.inside.reserved in
    let q = parts_of c.reserve.new.self c.self.inside.clients c.self.inside.caches c.self.inside.rings.items c.self.inside.flights c.window_frames-self-inside.result in
    domain_reserved p q c.args.self.now c.args.lo c.args.hi c.self.view_is c.self.invariant (record { clients = refl; cached = refl; rings = refl; flushes = refl })
    c.steps_keep_validity.ensures c.reserve.result c.in-Ok.window (record { refused = c.reserve.ensures.refused; accepted = c.reserve.ensures.accepted }) c.in-Ok.is c.in-Ok.ensures.windows c.windows.ensures.space (c.window_frames-self-inside.ensures ∙ ap (λ l. sum_by (λ (r : Frames). r.len) l) c.windows.ensures.value)

is : (c : goal.After-self-1) → IsReserve c.args.self.now (state_of (parts_of c.reserve.new.self c.self.inside.clients c.self.inside.caches c.self.inside.rings.items c.self.inside.flights c.window_frames-self-inside.result)) c.args.lo c.args.hi point.Never (reply.Reserved c.in-Ok.window)
is c =
    let p = parts_of c.self.inside.tree c.self.inside.clients c.self.inside.caches c.self.inside.rings.items c.self.inside.flights c.self.inside.reserved in
    let q = parts_of c.reserve.new.self c.self.inside.clients c.self.inside.caches c.self.inside.rings.items c.self.inside.flights c.window_frames-self-inside.result in
    is_reserved p q c.args.self.now c.args.lo c.args.hi c.self.view_is c.self.invariant (record { clients = refl; cached = refl; rings = refl; flushes = refl })
    c.reserve.result c.in-Ok.window (record { refused = c.reserve.ensures.refused; accepted = c.reserve.ensures.accepted }) c.in-Ok.is c.in-Ok.ensures.window c.in-Ok.ensures.windows

pub returns-in-Ok-clause-reply : goal.returns-in-Ok-clause-reply
returns-in-Ok-clause-reply c = (is c).reply

pub returns-in-Ok-clause-state : goal.returns-in-Ok-clause-state
returns-in-Ok-clause-state c = (is c).state

pub returns-in-Err : goal.returns-in-Err
returns-in-Err c =
    let p = parts_of c.self.inside.tree c.self.inside.clients c.self.inside.caches c.self.inside.rings.items c.self.inside.flights c.self.inside.reserved in
    let q = parts_of c.reserve.new.self c.self.inside.clients c.self.inside.caches c.self.inside.rings.items c.self.inside.flights c.self.inside.reserved in
    let is = is_refused p q c.args.self.now c.args.lo c.args.hi c.self.view_is c.self.invariant (record { clients = refl; cached = refl; rings = refl; flushes = refl })
    c.reserve.result c.in-Err.refusal c.refused_at.result.1 (record { refused = c.reserve.ensures.refused; accepted = c.reserve.ensures.accepted }) c.in-Err.is c.refused_at.ensures.memory c.in-Err.ensures.unchanged in
    record { reply = c.refused_at.ensures.reply ∙ is.reply; state = is.state; point = c.refused_at.ensures.point }
