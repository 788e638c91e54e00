use Rattle.std.proofs.Common.{◌≡◌, ◌+◌, List, [], ◌∷◌, ◌++◌, take, sym, ap, ◌∙◌, subst, arith}
use Rattle.std.proofs.lemmas.List.{take_more}
use Rattle.iova_range.specs.Frames.{Frames}
use Rattle.iova_check.specs.Allowing.{Allows}
use Rattle.iova_check.proofs.allowed.Allowed.new.Goals as goal

pub loop-window-preserved : goal.loop-window-preserved
loop-window-preserved c =
    let i = c.loop-window.window-index in
    let windows : List Frames = c.args.windows.now in
    let window : Frames = c.window-item.result in
    let P : List Frames → Type 0 = λ x. Allows c.without.new.self (record { first = c.args.first; last = c.args.last; windows = x }) in
    let e : take i windows ++ window ∷ [] ≡ take (i + 1) windows =
    sym (take_more windows i window (omega arith) ∙ ap (λ (x : Frames). take i windows ++ x ∷ []) (sym c.window-item.is)) in
    subst P e (c.in_ok-without.ensures (record { first = c.args.first; last = c.args.last; windows = take i windows }) c.loop-window.invariant)
