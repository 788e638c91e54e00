use Rattle.std.proofs.Common.{ℕ, ◌≡◌, ◌+◌, ◌<◌, ◌≤◌, ◌∙◌, List, [], ◌∷◌, ◌++◌, length, length-append, take, drop, get_or, sym, ap, arith, append_assoc, append-nil, take-append-drop}
use Rattle.std.specs.Prelude.{flat_map}
use Rattle.std.proofs.lemmas.List.{take_more, take_all}
use Rattle.std.proofs.lemmas.List.Concat.{flat_map-append}
use Rattle.std.proofs.lemmas.Result.{err_from_is_err_and}
use Rattle.iova_range.specs.Frames.{Frames}
use Rattle.iova_proto.specs.Answers.{range_line}
use Rattle.iova_proto.proofs.encode.append_ranges.Goals as goal

-- one line more
lines_more : (rs : List Frames) (i : ℕ) (r : Frames) → i < length rs → r ≡ get_or rs i r
    → flat_map range_line (take (i + 1) rs) ≡ flat_map range_line (take i rs) ++ range_line r
lines_more rs i r lt is =
    ap (flat_map range_line) (take_more rs i r lt ∙ ap (λ (x : Frames). take i rs ++ x ∷ []) (sym is))
    ∙ (flat_map-append range_line (take i rs) (r ∷ []) ∙ ap (λ (x : List ℕ). flat_map range_line (take i rs) ++ x) (append-nil (range_line r)))

-- the lines so far are no longer than all
lines_within : (rs : List Frames) (i : ℕ) → length (flat_map range_line (take i rs)) ≤ length (flat_map range_line rs)
lines_within rs i =
    let whole : flat_map range_line rs ≡ flat_map range_line (take i rs) ++ flat_map range_line (drop i rs) =
    ap (flat_map range_line) (sym (take-append-drop i rs)) ∙ flat_map-append range_line (take i rs) (drop i rs) in
    omega (arith, ap length whole, length-append (flat_map range_line (take i rs)) (flat_map range_line (drop i rs)))

pub loop-range-init : goal.loop-range-init
loop-range-init c = record { items = sym (append-nil c.args.out.now.items); room = omega arith }

pub returns-in_err-append-clause-err : goal.returns-in_err-append-clause-err
returns-in_err-append-clause-err c =
    let p = err_from_is_err_and c.from_residual.result c.from_residual.ensures.1 in
    let refused = c.in_err-append.ensures.err in
    rw (p.1, p.2) (refused.0, (flat_map range_line (take c.loop-range.range-index c.args.ranges.now), refused.1 ∙ c.loop-range.invariant.items))

pub returns-in_err-append-clause-full : goal.returns-in_err-append-clause-full
returns-in_err-append-clause-full c =
    let p = err_from_is_err_and c.from_residual.result c.from_residual.ensures.1 in
    let rs = c.args.ranges.now in
    let i = c.loop-range.range-index in
    let front = flat_map range_line (take i rs) in
    let line = range_line c.range-item.result in
    rw p.1 (
    omega (
      arith,
      c.in_err-append.ensures.full,
      c.loop-range.invariant.room,
      ap length c.loop-range.invariant.items,
      length-append c.args.out.now.items front,
      length-append front line,
      ap length (lines_more rs i c.range-item.result c.loop-range-test.true c.range-item.is),
      lines_within rs (i + 1),
      ap length c.put_range.ensures,
      c.loop-range.out.ok.0,
      c.args.out.now.ok.0,
    )
    )

pub loop-range-preserved : goal.loop-range-preserved
loop-range-preserved c =
    let rs = c.args.ranges.now in
    let i = c.loop-range.range-index in
    let before = c.args.out.now.items in
    let front = flat_map range_line (take i rs) in
    let line = range_line c.range-item.result in
    record {
      items = c.in_ok-append.ensures.ok ∙ (ap (λ (x : List ℕ). c.loop-range.out.items ++ x) c.put_range.ensures
          ∙ (ap (λ (x : List ℕ). x ++ line) c.loop-range.invariant.items ∙ (append_assoc before front line
          ∙ ap (λ (x : List ℕ). before ++ x) (sym (lines_more rs i c.range-item.result c.loop-range-test.true c.range-item.is)))));
      room = omega (arith, c.loop-range.invariant.room, c.in_ok-append.ensures.room);
    }

pub returns-clause-ok : goal.returns-clause-ok
returns-clause-ok c =
    let rs = c.args.ranges.now in
    c.loop-range.invariant.items
    ∙ ap (λ (x : List Frames). c.args.out.now.items ++ flat_map range_line x) (take_all c.loop-range.range-index rs (omega (arith, c.loop-range-test.false)))
