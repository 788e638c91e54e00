use Rattle.std.proofs.Common.{◌≡◌, ◌-◌, Some, None, length, refl, sym, ◌∙◌, rules, arith}
use Rattle.iova_tree.proofs.Absorbing.{absorbs_first, absorbs_join, absorbs_keep, absorbs_all, absorbs_within}
use Rattle.iova_tree.proofs.Taking.{left_first, left_but, left_once, is_at, but_held, rises_but, above_any, above_zero, part_join}
use Rattle.iova_tree.proofs.window.absorb.Goals as goal

pub join-all-requires-clause-second : goal.join-all-requires-clause-second
join-all-requires-clause-second c =
    let i = c.loop-i.invariant in
    let within = absorbs_within _ _ _ _ _ i.absorbs in
    above_any c.loop-i.kept _ _ _ (c.loop-i.i - 1) c.requires.within.0 c.remove-other.result i.left c.requires.within.2 (omega (arith, within, c.loop-i-test.true)) c.remove-other.ensures.value

pub loop-i-init : goal.loop-i-init
loop-i-init c =
    let n : c.len-i.result ≡ length c.args.windows.now.items = search (rules, c.len-i.ensures) in
    record { absorbs = rw n (absorbs_first c.args.window c.args.windows.now.items c.requires.own); left = left_first _ _ c.requires.same; part = tt; none = refl; room = refl }

pub remove-requires-clause-held : goal.remove-requires-clause-held
remove-requires-clause-held c =
    let kept : c.loop-i.kept ≡ Some c.in-Some.before = sym c.replace.ensures.value ∙ c.in-Some.is in
    let t = rw kept at c.loop-i.invariant.left in
    rw c.lo.ensures (but_held c.in-Some.before _ _ _ t)

pub remove-requires-clause-rising : goal.remove-requires-clause-rising
remove-requires-clause-rising c =
    let kept : c.loop-i.kept ≡ Some c.in-Some.before = sym c.replace.ensures.value ∙ c.in-Some.is in
    let t = rw kept at c.loop-i.invariant.left in
    rises_but c.in-Some.before _ _ _ c.requires.within.0 t c.requires.within.2

pub loop-i-preserved-in-Some : goal.loop-i-preserved-in-Some
loop-i-preserved-in-Some c =
    let i = c.loop-i.invariant in
    let within = absorbs_within _ _ _ _ _ i.absorbs in
    let kept : c.loop-i.kept ≡ Some c.in-Some.before = sym c.replace.ensures.value ∙ c.in-Some.is in
    let t = rw kept at i.left in
    let e = c.remove.ensures in
    let left = left_once c.in-Some.before _ _ c.remove.new.self _ c.requires.within.0 c.remove.result t c.requires.within.2 e.taken (e.begins ∙ c.lo.ensures) in
    let a = is_at _ c.remove.new.self _ (c.loop-i.i - 1) c.requires.within.0 c.remove-other.result left c.requires.within.2 (omega (arith, within, c.loop-i-test.true)) c.remove-other.ensures.value in
    record {
      absorbs = rw (c.join-all.ensures, c.remove-other.ensures.items)
          (absorbs_join _ _ _ _ _ c.index.result.now c.remove-other.result c.loop-i-test.true i.absorbs c.index.ensures c.remove-other.ensures.value (rw c.meets.ensures at c.if-meets.true) (above_zero _ _ c.requires.within.0 c.requires.within.2 c.requires.same));
      left = rw (c.replace.ensures.after, c.remove-other.ensures.items) (left_but _ _ _ (c.loop-i.i - 1) c.requires.within.0 c.remove-other.result left c.requires.within.2 a);
      part = rw (c.replace.ensures.after, c.join-all.ensures) (part_join c.loop-i.all c.remove-other.result);
      none = rw c.replace.ensures.after tt;
      room = rw c.remove-other.ensures.capacity i.room;
    }

pub loop-i-preserved-in_default : goal.loop-i-preserved-in_default
loop-i-preserved-in_default c =
    let i = c.loop-i.invariant in
    let within = absorbs_within _ _ _ _ _ i.absorbs in
    let kept : c.loop-i.kept ≡ None = sym c.replace.ensures.value ∙ c.in_default.is in
    let left = rw kept at i.left in
    let a = is_at _ _ _ (c.loop-i.i - 1) c.requires.within.0 c.remove-other.result left c.requires.within.2 (omega (arith, within, c.loop-i-test.true)) c.remove-other.ensures.value in
    record {
      absorbs = rw (c.join-all.ensures, c.remove-other.ensures.items)
          (absorbs_join _ _ _ _ _ c.index.result.now c.remove-other.result c.loop-i-test.true i.absorbs c.index.ensures c.remove-other.ensures.value (rw c.meets.ensures at c.if-meets.true) (above_zero _ _ c.requires.within.0 c.requires.within.2 c.requires.same));
      left = rw (c.replace.ensures.after, c.remove-other.ensures.items) (left_but _ _ _ (c.loop-i.i - 1) c.requires.within.0 c.remove-other.result left c.requires.within.2 a);
      part = rw (c.replace.ensures.after, c.join-all.ensures) (part_join c.loop-i.all c.remove-other.result);
      none = rw c.replace.ensures.after tt;
      room = rw c.remove-other.ensures.capacity i.room;
    }

pub loop-i-preserved : goal.loop-i-preserved
loop-i-preserved c = record {
  absorbs = absorbs_keep _ _ _ _ _ c.index.result.now c.loop-i-test.true c.loop-i.invariant.absorbs c.index.ensures (rw c.meets.ensures at c.if-meets.false);
  left = c.loop-i.invariant.left;
  part = c.loop-i.invariant.part;
  none = c.loop-i.invariant.none;
  room = c.loop-i.invariant.room;
}

pub returns : goal.returns
returns c =
    let t = c.loop-i.invariant in
    let none = c.loop-i-test.false in
    let i : c.loop-i.i ≡ 0 = omega arith in
    let a = absorbs_all _ _ _ _ (rw i at t.absorbs) in
    record { value = a.0; rest = a.1; room = t.room; left = t.left; part = t.part; none = t.none }
