use Rattle.std.proofs.Common.{◌≡◌, ◌+◌, ◌-◌, ◌≤◌, ◌++◌, [], ℕ, List, sym, ap, ◌∙◌, subst, take, drop, length, arith, length-append, length-take, length-drop, Some, IfSome}
use Rattle.std.specs.Prelude.{Option}
use Rattle.iova_proto.specs.Feeds.{Feeds}
use Rattle.iova_proto.specs.declared.fed.Fed.TheVariants as fed
use Rattle.std.proofs.Math.Seq.{take-length}
use Rattle.iova_session.specs.Rounds.{Gathers, IsLines}
use Rattle.iova_session.specs.declared.gathering.Stop.TheVariants as stops
use Rattle.iova_session.proofs.Byes.{HasNoBye-nil, EndsInBye-one}
use Rattle.iova_session.proofs.Gathered.{some_kept, IsLines-none, IsLines-rest, IsLines-one, begins_request, no_bye_more}
use Rattle.iova_session.proofs.Taken.{IsUnended-none}
use Rattle.iova_session.proofs.gathering.take_requests.Goals as goal

if_kept : (o : Option (List ℕ)) (k : List ℕ) (P : List ℕ → Type 0) → o ≡ Some k → P k → IfSome o P
if_kept o k P e p = let Q : Option (List ℕ) → Type 0 = λ x. IfSome x P in subst Q (sym e) p

pub gathering-init : goal.gathering-init
gathering-init c =
    let none = c.requires.empty in
    let k = some_kept c.args.lines.now c.requires.open in record {
      used = omega arith;
      room = rw none (omega arith);
      within = rw none (omega arith);
      none = rw none HasNoBye-nil;
      kept = k.0;
      next = k.0;
      began = k.1;
      now = k.1;
      lines = IsLines-none k.0 c.args.piece.now c.args.run.now.items none;
    }

pub returns-then-len-left-clause-gathered : goal.returns-then-len-left-clause-gathered
returns-then-len-left-clause-gathered c =
    let inv = c.gathering.invariant in
    let rest = take (length c.args.piece.now - c.gathering.used) (drop c.gathering.used c.args.piece.now) in
    let f : Feeds inv.next rest (fed.Request c.in-Request.request c.in-Request.more) c.feed.new.self = rw inv.now at c.in-Request.ensures.fed in
    if_kept c.args.lines.now inv.kept (λ (kept : List ℕ). Gathers c.args.left kept c.args.piece.now c.gathering.run.items c.gathering.used stops.Limit c.feed.new.self) inv.began (
      inv.none,
      omega arith,
      (
        inv.next ++ rest,
        IsLines-rest inv.kept c.args.piece.now inv.next c.gathering.run.items c.gathering.used inv.lines,
        begins_request inv.next rest c.in-Request.request c.in-Request.more f.spells,
      ),
    )

pub returns-then-is_bye-clause-gathered : goal.returns-then-is_bye-clause-gathered
returns-then-is_bye-clause-gathered c =
    let inv = c.gathering.invariant in
    let rest = take (length c.args.piece.now - c.gathering.used) (drop c.gathering.used c.args.piece.now) in
    let after = c.push.new.self.items in
    let f : Feeds inv.next rest (fed.Request c.in-Request.request c.in-Request.more) c.feed.new.self = rw inv.now at c.in-Request.ensures.fed in
    let one = EndsInBye-one c.gathering.run.items c.in-Request.request inv.none (c.is_bye.ensures.0 c.if-is_bye.true) in
    if_kept c.args.lines.now inv.kept (λ (kept : List ℕ). Gathers c.args.left kept c.args.piece.now after (c.gathering.used + c.in-Request.more) stops.Bye c.feed.new.self) inv.began (
      rw c.push.ensures.items one,
      IsLines-one inv.kept c.args.piece.now inv.next c.gathering.run.items after c.in-Request.request c.gathering.used c.in-Request.more
          inv.used inv.lines f.spells c.push.ensures.items,
    )

pub returns-then-used-piece-clause-gathered : goal.returns-then-used-piece-clause-gathered
returns-then-used-piece-clause-gathered c =
    let inv = c.gathering.invariant in
    let piece = c.args.piece.now in
    let used = c.gathering.used + c.in-Request.more in
    let rest = take (length piece - c.gathering.used) (drop c.gathering.used piece) in
    let after = c.push.new.self.items in
    let f : Feeds inv.next rest (fed.Request c.in-Request.request c.in-Request.more) c.feed.new.self = rw inv.now at c.in-Request.ensures.fed in
    let all : take used piece ≡ piece = ap (λ n. take n piece) (c.if-used-piece.true) ∙ take-length piece in
    let lines = IsLines-one inv.kept piece inv.next c.gathering.run.items after c.in-Request.request c.gathering.used c.in-Request.more
    inv.used inv.lines f.spells c.push.ensures.items in
    if_kept c.args.lines.now inv.kept (λ (kept : List ℕ). Gathers c.args.left kept piece after used stops.More c.feed.new.self) inv.began (
      no_bye_more c.gathering.run.items after c.in-Request.request inv.none (λ e. let t = c.is_bye.ensures.1 e in cc) c.push.ensures.items,
      ([], subst (λ (bytes : List ℕ). IsLines (inv.kept ++ bytes) after []) all lines, IsUnended-none, f.next_is),
    )

pub returns-then-len-eq-MAX_RUN-clause-gathered : goal.returns-then-len-eq-MAX_RUN-clause-gathered
returns-then-len-eq-MAX_RUN-clause-gathered c =
    let inv = c.gathering.invariant in
    let rest = take (length c.args.piece.now - c.gathering.used) (drop c.gathering.used c.args.piece.now) in
    let after = c.push.new.self.items in
    let f : Feeds inv.next rest (fed.Request c.in-Request.request c.in-Request.more) c.feed.new.self = rw inv.now at c.in-Request.ensures.fed in
    if_kept c.args.lines.now inv.kept (λ (kept : List ℕ). Gathers c.args.left kept c.args.piece.now after (c.gathering.used + c.in-Request.more) stops.Full c.feed.new.self) inv.began (
      no_bye_more c.gathering.run.items after c.in-Request.request inv.none (λ e. let t = c.is_bye.ensures.1 e in cc) c.push.ensures.items,
      IsLines-one inv.kept c.args.piece.now inv.next c.gathering.run.items after c.in-Request.request c.gathering.used c.in-Request.more
          inv.used inv.lines f.spells c.push.ensures.items,
      f.next_is,
    )

pub gathering-preserved : goal.gathering-preserved
gathering-preserved c =
    let inv = c.gathering.invariant in
    let rest = take (length c.args.piece.now - c.gathering.used) (drop c.gathering.used c.args.piece.now) in
    let after = c.push.new.self.items in
    let f : Feeds inv.next rest (fed.Request c.in-Request.request c.in-Request.more) c.feed.new.self = rw inv.now at c.in-Request.ensures.fed in
    let grown : length after ≡ length c.gathering.run.items + 1 = ap length c.push.ensures.items ∙ grind (arith, length-append) in
    let fits : c.in-Request.more ≤ length rest = f.within in record {
      used = omega (arith, length-take {A = ℕ}, length-drop {A = ℕ}, fits, inv.used);
      room = omega arith;
      within = omega arith;
      none = no_bye_more c.gathering.run.items after c.in-Request.request inv.none (λ e. let t = c.is_bye.ensures.1 e in cc) c.push.ensures.items;
      kept = inv.kept;
      next = [];
      began = inv.began;
      now = f.next_is;
      lines = IsLines-one inv.kept c.args.piece.now inv.next c.gathering.run.items after c.in-Request.request c.gathering.used c.in-Request.more
          inv.used inv.lines f.spells c.push.ensures.items;
    }
