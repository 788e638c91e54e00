use Rattle.std.proofs.Common.{◌≡◌, ◌≤◌, List, [], ◌∷◌, ◌++◌, length, filter, refl, sym, ap, ◌∙◌, subst, arith, append_assoc}
use Rattle.iova_range.specs.Frames.{Frames}
use Rattle.iova_regions.specs.Windows.{AreWindows, lies_below, union, windows_with, is_covered}
use Rattle.iova_regions.proofs.Insertions.{rises_with, covers_with, length_with}
use Rattle.iova_regions.proofs.windows.Windows.insert.Goals as goal

pub returns-then-len-ge-MAX_WINDOWS-clause-full : goal.returns-then-len-ge-MAX_WINDOWS-clause-full
returns-then-len-ge-MAX_WINDOWS-clause-full c =
    let r = c.args.range in
    let ws = c.args.self.now in
    let lower : c.below-ranges.result ≡ filter (λ (w : Frames). lies_below w r) ws = cc in
    let higher : c.above-above.result ≡ filter (λ (w : Frames). lies_below r w) ws = cc in
    (refl, omega (arith, length_with r ws, ap length lower, ap length higher, c.len.ensures.is, c.len-2.ensures.is))

made : goal.returns-clause-ok
made c =
    let r = c.args.range in
    let ws = c.args.self.now in
    let lower : c.below-ranges.result ≡ filter (λ (w : Frames). lies_below w r) ws = cc in
    let higher : c.above-above.result ≡ filter (λ (w : Frames). lies_below r w) ws = cc in
    let joined : c.joined.result ≡ union r ws = cc in
    let parts : c.append.new.self ≡ (c.below-ranges.result ++ c.joined.result ∷ []) ++ c.above-above.result = cc in
    parts ∙ (append_assoc c.below-ranges.result (c.joined.result ∷ []) c.above-above.result ∙ cc)

pub returns-clause-ok : goal.returns-clause-ok
returns-clause-ok c = made c

windows : goal.invariant_of-self
windows c =
    let r = c.args.range in
    let ws = c.args.self.now in
    let lower : c.below-ranges.result ≡ filter (λ (w : Frames). lies_below w r) ws = cc in
    let higher : c.above-above.result ≡ filter (λ (w : Frames). lies_below r w) ws = cc in
    let rising = subst (λ (x : List Frames). AreWindows x) c.self.view_is c.self.invariant in
    let some : 1 ≤ r.len = omega (arith, c.len-some.ensures.some, c.len-some.ensures.is) in
    let is : AreWindows (windows_with r ws) = record {
      rising = rises_with r 1 ws some c.requires rising.rising;
      room = omega (arith, length_with r ws, ap length lower, ap length higher, c.len.ensures.is, c.len-2.ensures.is);
    } in
    subst (λ (x : List Frames). AreWindows x) (sym (made c)) is

pub invariant_of-self : goal.invariant_of-self
invariant_of-self c = windows c

pub returns-clause-windows : goal.returns-clause-windows
returns-clause-windows c = windows c

pub returns-clause-covers : goal.returns-clause-covers
returns-clause-covers c =
    λ frame.
    let rising = subst (λ (x : List Frames). AreWindows x) c.self.view_is c.self.invariant in
    let some : 1 ≤ c.args.range.len = omega (arith, c.len-some.ensures.some, c.len-some.ensures.is) in
    ap (is_covered frame) (made c) ∙ covers_with frame c.args.range c.args.self.now some rising.rising
