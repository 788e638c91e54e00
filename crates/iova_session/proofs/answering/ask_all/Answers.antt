use Rattle.std.proofs.Common.{◌≡◌, ◌∙◌, ◌+◌, ◌-◌, ◌≤◌, ◌++◌, [], sym, ap, subst, take, drop, length, arith, refl, length-take, length-drop, append_assoc, append-nil, inr}
use Rattle.std.proofs.KnownBytes.{Appends-nil}
use Rattle.std.specs.Io.KnownBytes.{Appends}
use Rattle.iova_proto.specs.declared.request.Request.{Request}
use Rattle.iova_session.specs.Pairs.{answers_of, answers_text}
use Rattle.iova_session.proofs.Texts.{requests_of-nil, none_told}
use Rattle.iova_session.proofs.Runs.{asked_rest, asked_more, told_more, told_part, all_taken, handed_on, AsksRun-cut}
use Rattle.iova_session.proofs.answering.ask_all.Goals as goal

pub asking-init : goal.asking-init
asking-init g c = record {
  fits = omega arith;
  left = refl;
  reads = refl;
  ends = refl;
  failures = refl;
  ps = [];
  pairs = sym (append-nil (g.D.Desk.pairs c.args.desk.now));
  sent = subst (Appends (g.L.Link.sent c.args.link.now) (g.L.Link.sent c.args.link.now)) none_told (Appends-nil (g.L.Link.sent c.args.link.now));
  front = requests_of-nil;
}

pub returns-in-Err-clause-asked : goal.returns-in-Err-clause-asked
returns-in-Err-clause-asked g c =
    let inv = c.asking.invariant in
    let text = answers_text (answers_of inv.ps) in (
      inv.ps,
      text,
      c.in-Err.ensures.err.1 ∙ inv.pairs,
      inv.sent,
      (inr refl, (drop c.asking.asked c.args.run.now, asked_rest c.args.run.now inv.ps c.asking.asked inv.front), (length text, all_taken text)),
    )

pub asking-preserved : goal.asking-preserved
asking-preserved g c =
    let inv = c.asking.invariant in
    let ok = c.in-Ok.ensures.ok in
    let fits : c.in-Ok.n ≤ length (take (length c.args.run.now - c.asking.asked) (drop c.asking.asked c.args.run.now)) = c.in-Ok.ensures.count.1 in
    let same : c.as_slice.result.now ≡ [] ++ answers_of ok.0 = c.as_slice.ensures.value ∙ ok.3 ∙ ap (λ x. x ++ answers_of ok.0) c.clear.ensures.items in record {
      fits = omega (arith, length-take {A = Request}, length-drop {A = Request}, fits, inv.fits);
      left = c.tell.ensures.left ∙ inv.left;
      reads = c.tell.ensures.reads ∙ inv.reads;
      ends = c.tell.ensures.ends ∙ inv.ends;
      failures = c.in_ok-tell.ensures.failures ∙ inv.failures;
      ps = inv.ps ++ ok.0;
      pairs = ok.1 ∙ ap (λ x. x ++ ok.0) inv.pairs ∙ append_assoc (g.D.Desk.pairs c.args.desk.now) inv.ps ok.0;
      sent = told_more (g.L.Link.sent c.args.link.now) (g.L.Link.sent c.asking.link) (g.L.Link.sent c.tell.new.link) inv.ps ok.0 c.as_slice.result.now
          inv.sent same c.in_ok-tell.ensures.ok;
      front = asked_more c.args.run.now inv.ps ok.0 c.asking.asked c.in-Ok.n inv.fits inv.front ok.2;
    }

pub returns-in_err-tell-clause-asked : goal.returns-in_err-tell-clause-asked
returns-in_err-tell-clause-asked g c =
    let inv = c.asking.invariant in
    let ok = c.in-Ok.ensures.ok in
    let cut = c.in_err-tell.ensures.err in
    let n = cut.1.0 in
    let same : c.as_slice.result.now ≡ [] ++ answers_of ok.0 = c.as_slice.ensures.value ∙ ok.3 ∙ ap (λ x. x ++ answers_of ok.0) c.clear.ensures.items in
    let more = drop (c.asking.asked + c.in-Ok.n) c.args.run.now in
    let front = asked_more c.args.run.now inv.ps ok.0 c.asking.asked c.in-Ok.n inv.fits inv.front ok.2 in
    let count = length (answers_text (answers_of inv.ps)) + n in (
      inv.ps ++ ok.0,
      take count (answers_text (answers_of (inv.ps ++ ok.0))),
      ok.1 ∙ ap (λ x. x ++ ok.0) inv.pairs ∙ append_assoc (g.D.Desk.pairs c.args.desk.now) inv.ps ok.0,
      told_part (g.L.Link.sent c.args.link.now) (g.L.Link.sent c.asking.link) (g.L.Link.sent c.tell.new.link) inv.ps ok.0 c.as_slice.result.now n
          inv.sent same cut.1.1,
      AsksRun-cut c.from_residual.result c.in_err-tell.field-0.0 c.args.run.now more (inv.ps ++ ok.0) (take count (answers_text (answers_of (inv.ps ++ ok.0)))) count
          (handed_on c.from_residual.result c.in_err-tell.field-0.0 c.from_residual.ensures.1)
          cut.0 (asked_rest c.args.run.now (inv.ps ++ ok.0) (c.asking.asked + c.in-Ok.n) front) refl,
    )
