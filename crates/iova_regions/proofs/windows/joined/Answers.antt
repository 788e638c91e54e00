use Rattle.std.proofs.Common.{◌≡◌, ◌+◌, ◌≤◌, true, false, cond, min, take, filter, fold, sym, ap, ◌∙◌, subst, arith}
use Rattle.std.proofs.lemmas.Bool.{cond-true, cond-false}
use Rattle.iova_range.specs.Frames.{Frames, meets, join}
use Rattle.iova_regions.proofs.Insertions.{union_more, window_low}
use Rattle.iova_regions.proofs.windows.joined.Goals as goal
use Rattle.iova_regions.proofs.windows.joined.Goals.{then-meets, else-meets}

pub join-joined-requires-clause-second : goal.join-joined-requires-clause-second
join-joined-requires-clause-second c =
    subst (λ (x : Frames). 1 ≤ x.lo) (sym c.window-item.is)
    (window_low 1 c.args.windows.now c.loop-window.window-index c.window-item.result c.requires.rising c.loop-window-test.true)

pub loop-window-preserved : goal.loop-window-preserved
loop-window-preserved c =
    let r = c.args.range in
    let ws = c.args.windows.now in
    let i = c.loop-window.window-index in
    let item = c.window-item.result in
    let so_far = fold join r (filter (meets r) (take i ws)) in
    let next : fold join r (filter (meets r) (take (i + 1) ws)) ≡ cond (meets r item) (join so_far item) so_far =
    subst (λ (x : Frames). fold join r (filter (meets r) (take (i + 1) ws)) ≡ cond (meets r x) (join so_far x) so_far)
    (sym c.window-item.is) (union_more r ws i item c.loop-window-test.true) in
    let low : 1 ≤ item.lo = subst (λ (x : Frames). 1 ≤ x.lo) (sym c.window-item.is) (window_low 1 ws i item c.requires.rising c.loop-window-test.true) in
    elim c.if-meets.branch [
      | then-meets w ↦
          let yes : meets r item ≡ true = cc in
          let is : c.if-meets.joined ≡ join c.loop-window.joined item = w.joined-is ∙ w.join-joined.ensures in
          let lo : c.if-meets.joined.lo ≡ min c.loop-window.joined.lo item.lo = ap (λ (x : Frames). x.lo) is in
          record {
            value = is ∙ (ap (λ (x : Frames). join x item) c.loop-window.invariant.value ∙ sym (next ∙ cond-true (meets r item) (join so_far item) so_far yes));
            low = omega (arith, lo, low, c.loop-window.invariant.low);
          }
      | else-meets w ↦
          let no : meets r item ≡ false = cc in
          let lo : c.if-meets.joined.lo ≡ c.loop-window.joined.lo = ap (λ (x : Frames). x.lo) w.joined-is in
          record {
            value = w.joined-is ∙ (c.loop-window.invariant.value ∙ sym (next ∙ cond-false (meets r item) (join so_far item) so_far no));
            low = omega (arith, lo, c.loop-window.invariant.low);
          }
    ]
