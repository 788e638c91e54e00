use Rattle.std.proofs.Common.{Ok, Err, ◌≡◌, ◌∙◌, ◌+◌, ◌++◌, [], ℕ, List, refl, sym, ap, subst, take, arith, append_assoc, append-nil, length-append}
use Rattle.std.specs.Prelude.{Option}
use Rattle.std.proofs.KnownBytes.{Appends-trans, Appends-nil, Consumes-trans, Consumes-nil, Consumes-kept}
use Rattle.std.specs.Io.KnownBytes.{Consumes, Appends}
use Rattle.iova_session.specs.Rounds.{TakesPiece}
use Rattle.iova_session.proofs.Joins.{AllAnswered-none, AllAnswered-then, Serves-then}
use Rattle.iova_session.proofs.Taken.{Serves-no_room, Serves-fault, Serves-closed, Serves-worn, IsUnended-none}
use Rattle.iova_session.proofs.serve.serve_within.Goals as goal

pub reading-init : goal.reading-init
reading-init g c = record {
  taken = [];
  ps = [];
  written = [];
  next = [];
  consumed = Consumes-nil (g.L.Link.left c.args.link.now);
  pairs = sym (append-nil (g.D.Desk.pairs c.args.desk.now));
  sent = Appends-nil (g.L.Link.sent c.args.link.now);
  now = c.new-lines.ensures;
  unended = IsUnended-none;
  goes = AllAnswered-none;
  count = omega arith;
  reads = omega arith;
  failures = refl;
  ends = refl;
}

pub returns-in_default-clause-session : goal.returns-in_default-clause-session
returns-in_default-clause-session g c = (
  [],
  sym (append-nil (g.D.Desk.pairs c.args.desk.now)),
  record {
    taken = [];
    written = [];
    count = 0;
    consumed = Consumes-nil (g.L.Link.left c.args.link.now);
    appended = Appends-nil (g.L.Link.sent c.args.link.now);
    counted = omega arith;
    served = Serves-no_room c.args.limits.requests c.args.limits.reads;
  },
)

pub returns-in_default-read-clause-session : goal.returns-in_default-read-clause-session
returns-in_default-read-clause-session g c =
    let inv = c.reading.invariant in (
      inv.ps,
      inv.pairs,
      record {
        taken = inv.taken;
        written = inv.written;
        count = c.reading.counter + 1;
        consumed = Consumes-kept (g.L.Link.left c.args.link.now) (g.L.Link.left c.reading.link) (g.L.Link.left c.read.new.self) inv.taken inv.consumed c.in_default-read.ensures.bytes;
        appended = subst (λ (x : Option (List ℕ)). Appends (g.L.Link.sent c.args.link.now) x inv.written) (sym c.read.ensures.sent) inv.sent;
        counted = omega (arith, c.read.ensures.reads, inv.reads);
        served = Serves-fault c.args.limits.requests c.args.limits.reads c.reading.left (c.reading.counter + 1) inv.taken inv.next inv.written inv.ps inv.count (omega arith) inv.goes;
      },
    )

pub returns-then-n-eq0-clause-session : goal.returns-then-n-eq0-clause-session
returns-then-n-eq0-clause-session g c =
    let inv = c.reading.invariant in
    let n = c.in-Ok.n in
    let none : take n c.read.new.buf ≡ [] = ap (λ k. take k c.read.new.buf) c.if-n-eq0.true in
    let both = Consumes-trans (g.L.Link.left c.args.link.now) (g.L.Link.left c.reading.link) (g.L.Link.left c.read.new.self) inv.taken (take n c.read.new.buf)
    inv.consumed c.in-Ok.ensures.bytes.0 in (
      inv.ps,
      inv.pairs,
      record {
        taken = inv.taken;
        written = inv.written;
        count = c.reading.counter + 1;
        consumed = subst (Consumes (g.L.Link.left c.args.link.now) (g.L.Link.left c.read.new.self)) (ap (λ x. inv.taken ++ x) none ∙ append-nil inv.taken) both;
        appended = subst (λ (x : Option (List ℕ)). Appends (g.L.Link.sent c.args.link.now) x inv.written) (sym c.read.ensures.sent) inv.sent;
        counted = omega (arith, c.read.ensures.reads, inv.reads);
        served = Serves-closed c.args.limits.requests c.args.limits.reads c.reading.left (c.reading.counter + 1) inv.taken inv.next inv.written inv.ps inv.count (omega arith) inv.unended inv.goes;
      },
    )

pub returns-in-Err-clause-session : goal.returns-in-Err-clause-session
returns-in-Err-clause-session g c =
    let inv = c.reading.invariant in
    let piece = take c.in-Ok.n c.read.new.buf in
    let got = c.in-Err.ensures.taken in
    let start : got.0 ≡ inv.next = let e = sym got.3 ∙ inv.now in cc in
    let sent = subst (λ (x : Option (List ℕ)). Appends (g.L.Link.sent c.args.link.now) x inv.written) (sym c.read.ensures.sent) inv.sent in
    let consumed = subst (λ (x : Option (List ℕ)). Consumes (g.L.Link.left c.args.link.now) x (inv.taken ++ piece)) (sym c.take_piece-taken.ensures.left)
    (Consumes-trans (g.L.Link.left c.args.link.now) (g.L.Link.left c.reading.link) (g.L.Link.left c.read.new.self) inv.taken piece inv.consumed c.in-Ok.ensures.bytes.0) in
    let pairs = got.4 ∙ ap (λ x. x ++ got.1) inv.pairs ∙ append_assoc (g.D.Desk.pairs c.args.desk.now) inv.ps got.1 in
    let wrote = Appends-trans (g.L.Link.sent c.args.link.now) (g.L.Link.sent c.read.new.self) (g.L.Link.sent c.take_piece-taken.new.link) inv.written got.2 sent got.5 in
    let T : TakesPiece c.reading.left (inv.next ++ piece) got.1 got.2 c.take_piece-taken.new.left c.take_piece-taken.new.lines (Err c.in-Err.end) = rw start at got.6 in (
      inv.ps ++ got.1,
      pairs,
      record {
        taken = inv.taken ++ piece;
        written = inv.written ++ got.2;
        count = c.reading.counter + 1;
        consumed = consumed;
        appended = wrote;
        counted = omega (arith, c.take_piece-taken.ensures.reads, c.read.ensures.reads, inv.reads);
        served = Serves-then c.args.limits.requests c.args.limits.reads c.reading.left (c.reading.counter + 1) inv.taken piece inv.next inv.written got.2 inv.ps got.1 c.in-Err.end
            inv.count (omega arith) inv.goes T;
      },
    )

pub reading-preserved : goal.reading-preserved
reading-preserved g c =
    let inv = c.reading.invariant in
    let piece = take c.in-Ok.n c.read.new.buf in
    let got = c.in_default-taken.ensures.taken in
    let start : got.0 ≡ inv.next = let e = sym got.3 ∙ inv.now in cc in
    let sent = subst (λ (x : Option (List ℕ)). Appends (g.L.Link.sent c.args.link.now) x inv.written) (sym c.read.ensures.sent) inv.sent in
    let consumed = subst (λ (x : Option (List ℕ)). Consumes (g.L.Link.left c.args.link.now) x (inv.taken ++ piece)) (sym c.take_piece-taken.ensures.left)
    (Consumes-trans (g.L.Link.left c.args.link.now) (g.L.Link.left c.reading.link) (g.L.Link.left c.read.new.self) inv.taken piece inv.consumed c.in-Ok.ensures.bytes.0) in
    let pairs = got.4 ∙ ap (λ x. x ++ got.1) inv.pairs ∙ append_assoc (g.D.Desk.pairs c.args.desk.now) inv.ps got.1 in
    let wrote = Appends-trans (g.L.Link.sent c.args.link.now) (g.L.Link.sent c.read.new.self) (g.L.Link.sent c.take_piece-taken.new.link) inv.written got.2 sent got.5 in
    let T : TakesPiece c.reading.left (inv.next ++ piece) got.1 got.2 c.take_piece-taken.new.left c.take_piece-taken.new.lines (Ok c.in_default-taken.field-0) = rw start at got.6 in
    record {
      taken = inv.taken ++ piece;
      ps = inv.ps ++ got.1;
      written = inv.written ++ got.2;
      next = T.0;
      consumed = consumed;
      pairs = pairs;
      sent = wrote;
      now = T.3;
      unended = T.2;
      goes = AllAnswered-then inv.taken piece inv.next T.0 inv.written got.2 inv.ps got.1 inv.goes T.1;
      count = omega (arith, length-append inv.ps got.1, T.4, inv.count);
      reads = omega (arith, c.take_piece-taken.ensures.reads, c.read.ensures.reads, inv.reads);
      failures = c.in_default-taken.ensures.failures ∙ c.in-Ok.ensures.failures ∙ inv.failures;
      ends = c.take_piece-taken.ensures.ends ∙ c.in-Ok.ensures.ends.0 (omega arith) ∙ inv.ends;
    }

pub returns-clause-session : goal.returns-clause-session
returns-clause-session g c =
    let inv = c.reading.invariant in
    let worn : c.reading.counter ≡ c.args.limits.reads = omega arith in
    let W = Serves-worn c.args.limits.requests c.args.limits.reads c.reading.left c.reading.counter inv.taken inv.next inv.written inv.ps (g.L.Link.sent c.reading.link) (g.L.Link.sent c.refuse.new.link)
    c.refuse.result inv.count worn inv.unended inv.goes c.refuse.ensures.told in (
      inv.ps,
      inv.pairs,
      record {
        taken = inv.taken;
        written = inv.written ++ W.0;
        count = c.reading.counter;
        consumed = subst (λ (x : Option (List ℕ)). Consumes (g.L.Link.left c.args.link.now) x inv.taken) (sym c.refuse.ensures.left) inv.consumed;
        appended = Appends-trans (g.L.Link.sent c.args.link.now) (g.L.Link.sent c.reading.link) (g.L.Link.sent c.refuse.new.link) inv.written W.0 inv.sent W.1;
        counted = c.refuse.ensures.reads ∙ inv.reads;
        served = W.2;
      },
    )
