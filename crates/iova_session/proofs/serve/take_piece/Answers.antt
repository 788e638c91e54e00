use Rattle.std.proofs.Common.{Ok, Err, ◌∙◌, ◌-◌, ◌≤◌, ◌++◌, [], ℕ, refl, sym, ap, subst, take, drop, length, arith, length-take, length-drop, append_assoc, append-nil}
use Rattle.std.proofs.KnownBytes.{Appends-trans, Appends-nil}
use Rattle.iova_session.specs.declared.gathering.Stop.TheVariants as stops
use Rattle.iova_session.specs.declared.end.End.TheVariants as ends
use Rattle.iova_session.specs.Rounds.{Gathers, AsksRun, TakesPiece}
use Rattle.iova_session.proofs.Joins.{AllAnswered-kept}
use Rattle.iova_session.proofs.Gathered.{some_kept}
use Rattle.iova_session.proofs.Runs.{handed_on, taken_on}
use Rattle.iova_session.proofs.Taken.{Serves-cut, AllAnswered-more, AllAnswered-full, Serves-bye, Serves-bad, Serves-limit, Serves-whole, AllAnswered-whole, AllAnswered-further, lengths}
use Rattle.iova_session.proofs.serve.take_piece.Goals as goal

pub rounds-init : goal.rounds-init
rounds-init g c =
    let k = some_kept c.args.lines.now c.requires in
    record {
      fits = omega arith;
      left = refl;
      reads = refl;
      ends = refl;
      failures = refl;
      kept = k.0;
      ps = [];
      written = [];
      next = k.0;
      began = k.1;
      now = k.1;
      pairs = sym (append-nil (g.D.Desk.pairs c.args.desk.now));
      sent = Appends-nil (g.L.Link.sent c.args.link.now);
      goes = rw (append-nil k.0) (AllAnswered-kept k.0);
      count = omega arith;
    }

pub returns-in_err-ask_all-clause-taken : goal.returns-in_err-ask_all-clause-taken
returns-in_err-ask_all-clause-taken g c =
    let inv = c.rounds.invariant in
    let got = c.in_err-ask_all.ensures.asked in
    let end = c.in_err-ask_all.field-0.0 in
    let A : AsksRun c.take_requests-used.new.run.items got.0 got.1 (Err end) = rw c.as_slice.ensures.value at got.4 in
    let E = Serves-cut c.rounds.left _ inv.next _ got.1 _ _ _ got.0 end c.take_requests-used.ensures.within (rw inv.now at c.take_requests-used.ensures.gathered) A in
    taken_on _ _ _ _ _ _ _ inv.kept inv.ps got.0 inv.written got.1 inv.began inv.pairs got.2 inv.sent got.3
    (subst (TakesPiece c.args.left.now (inv.kept ++ c.args.piece.now) (inv.ps ++ got.0) (inv.written ++ got.1) (c.rounds.left - c.len.result) c.take_requests-used.new.lines) (sym (handed_on c.from_residual.result end c.from_residual.ensures.1))
    (Serves-whole c.args.left.now c.rounds.left c.rounds.at inv.kept c.args.piece.now inv.next inv.written got.1 inv.ps got.0 end inv.count inv.goes E))

pub rounds-preserved : goal.rounds-preserved
rounds-preserved g c =
    let inv = c.rounds.invariant in
    let run = c.take_requests-used.new.run.items in
    let used = c.take_requests-used.result.0 in
    let rest = take (length c.args.piece.now - c.rounds.at) (drop c.rounds.at c.args.piece.now) in
    let new = c.take_requests-used.new.lines in
    let got = c.in_ok-ask_all.ensures.asked in
    let pairs = got.2 ∙ ap (λ x. x ++ got.0) inv.pairs ∙ append_assoc (g.D.Desk.pairs c.args.desk.now) inv.ps got.0 in
    let sent = Appends-trans (g.L.Link.sent c.args.link.now) (g.L.Link.sent c.rounds.link) (g.L.Link.sent c.ask_all.new.link) inv.written got.1 inv.sent got.3 in
    let G : Gathers c.rounds.left inv.next rest run used stops.Full new = rw (inv.now, c.in-Full.is) at c.take_requests-used.ensures.gathered in
    let A : AsksRun run got.0 got.1 (Ok c.in_ok-ask_all.field-0) = rw c.as_slice.ensures.value at got.4 in
    let F = AllAnswered-full c.rounds.left used inv.next rest got.1 run new got.0 G A.0 A.1 in
    let within : length run ≤ c.rounds.left = c.take_requests-used.ensures.within in
    let fits : used ≤ length rest = c.take_requests-used.ensures.used in
    record {
      fits = omega (arith, length-take {A = ℕ}, length-drop {A = ℕ}, fits, inv.fits);
      left = c.ask_all.ensures.left ∙ inv.left;
      reads = c.ask_all.ensures.reads ∙ inv.reads;
      ends = c.ask_all.ensures.ends ∙ inv.ends;
      failures = c.in_ok-ask_all.ensures.failures ∙ inv.failures;
      kept = inv.kept;
      ps = inv.ps ++ got.0;
      written = inv.written ++ got.1;
      next = [];
      began = inv.began;
      now = G.2;
      pairs = pairs;
      sent = sent;
      goes = AllAnswered-further c.rounds.at used inv.kept c.args.piece.now inv.next [] inv.written got.1 inv.ps got.0 inv.fits inv.goes F;
      count = rw c.len.ensures.value (lengths inv.ps got.0 run c.args.left.now c.rounds.left inv.count A.0 within);
    }

pub returns-in-More-clause-taken : goal.returns-in-More-clause-taken
returns-in-More-clause-taken g c =
    let inv = c.rounds.invariant in
    let got = c.in_ok-ask_all.ensures.asked in
    let A : AsksRun c.take_requests-used.new.run.items got.0 got.1 (Ok c.in_ok-ask_all.field-0) = rw c.as_slice.ensures.value at got.4 in
    let M = AllAnswered-more c.rounds.left c.take_requests-used.result.0 inv.next _ got.1 _ _ got.0 (rw (inv.now, c.in-More.is) at c.take_requests-used.ensures.gathered) A.0 A.1 in
    taken_on _ _ _ _ _ _ _ inv.kept inv.ps got.0 inv.written got.1 inv.began inv.pairs got.2 inv.sent got.3 (
      M.0,
      AllAnswered-whole c.rounds.at inv.kept c.args.piece.now inv.next M.0 inv.written got.1 inv.ps got.0 inv.goes M.1,
      M.2,
      M.3,
      rw c.len.ensures.value (lengths inv.ps got.0 _ c.args.left.now c.rounds.left inv.count A.0 c.take_requests-used.ensures.within),
    )

pub returns-in-Bye-clause-taken : goal.returns-in-Bye-clause-taken
returns-in-Bye-clause-taken g c =
    let inv = c.rounds.invariant in
    let got = c.in_ok-ask_all.ensures.asked in
    let A : AsksRun c.take_requests-used.new.run.items got.0 got.1 (Ok c.in_ok-ask_all.field-0) = rw c.as_slice.ensures.value at got.4 in
    let E = Serves-bye c.rounds.left _ inv.next _ got.1 _ c.take_requests-used.new.lines got.0 c.take_requests-used.ensures.within (rw (inv.now, c.in-Bye.is) at c.take_requests-used.ensures.gathered) A.0 A.1 in
    taken_on _ _ _ _ _ _ _ inv.kept inv.ps got.0 inv.written got.1 inv.began inv.pairs got.2 inv.sent got.3
    (Serves-whole c.args.left.now c.rounds.left c.rounds.at inv.kept c.args.piece.now inv.next inv.written got.1 inv.ps got.0 ends.Bye inv.count inv.goes E)

pub returns-in-Bad-clause-taken : goal.returns-in-Bad-clause-taken
returns-in-Bad-clause-taken g c =
    let inv = c.rounds.invariant in
    let got = c.in_ok-ask_all.ensures.asked in
    let A : AsksRun c.take_requests-used.new.run.items got.0 got.1 (Ok c.in_ok-ask_all.field-0) = rw c.as_slice.ensures.value at got.4 in
    let R = Serves-bad c.rounds.left c.take_requests-used.result.0 inv.next _ got.1 _ c.take_requests-used.new.lines got.0 _ _ c.refuse.result c.take_requests-used.ensures.within (rw (inv.now, c.in-Bad.is) at c.take_requests-used.ensures.gathered) A.0 A.1 c.refuse.ensures.told in
    taken_on _ _ _ _ _ _ _ inv.kept inv.ps got.0 inv.written (got.1 ++ R.0) inv.began inv.pairs got.2 inv.sent (Appends-trans (g.L.Link.sent c.rounds.link) (g.L.Link.sent c.ask_all.new.link) (g.L.Link.sent c.refuse.new.link) got.1 R.0 got.3 R.1)
    (Serves-whole c.args.left.now c.rounds.left c.rounds.at inv.kept c.args.piece.now inv.next inv.written (got.1 ++ R.0) inv.ps got.0 c.refuse.result inv.count inv.goes R.2)

pub returns-in-Limit-clause-taken : goal.returns-in-Limit-clause-taken
returns-in-Limit-clause-taken g c =
    let inv = c.rounds.invariant in
    let got = c.in_ok-ask_all.ensures.asked in
    let A : AsksRun c.take_requests-used.new.run.items got.0 got.1 (Ok c.in_ok-ask_all.field-0) = rw c.as_slice.ensures.value at got.4 in
    let R = Serves-limit c.rounds.left c.take_requests-used.result.0 inv.next _ got.1 _ c.take_requests-used.new.lines got.0 _ _ c.refuse-in-Limit.result c.take_requests-used.ensures.within (rw (inv.now, c.in-Limit.is) at c.take_requests-used.ensures.gathered) A.0 A.1 c.refuse-in-Limit.ensures.told in
    taken_on _ _ _ _ _ _ _ inv.kept inv.ps got.0 inv.written (got.1 ++ R.0) inv.began inv.pairs got.2 inv.sent (Appends-trans (g.L.Link.sent c.rounds.link) (g.L.Link.sent c.ask_all.new.link) (g.L.Link.sent c.refuse-in-Limit.new.link) got.1 R.0 got.3 R.1)
    (Serves-whole c.args.left.now c.rounds.left c.rounds.at inv.kept c.args.piece.now inv.next inv.written (got.1 ++ R.0) inv.ps got.0 c.refuse-in-Limit.result inv.count inv.goes R.2)
