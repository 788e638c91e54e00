use Rattle.std.proofs.Common.{◌∙◌, [], ◌++◌, refl, sym, subst}
use Rattle.iova_ask.specs.Asking.{Passes, lines_text}
use Rattle.iova_ask.proofs.Answering.{are_answers, leaves_all}
use Rattle.iova_ask.proofs.Copying.{Passes-read, Passes-refl, Passes-some, answered_on}
use Rattle.iova_ask.proofs.Lined.{lines_text-none}
use Rattle.iova_ask.proofs.answers.copy_answers.Goals as goal

pub copying-init : goal.copying-init
copying-init g c = record {
  copied = (
    [],
    leaves_all record { ranges = 0; answers = c.args.answers },
    subst (Passes (g.L.Link.left c.args.link.now) (g.L.Link.left c.args.link.now) (g.W.Write.contents c.args.writer.now) (g.W.Write.contents c.args.writer.now) c.args.held.now c.args.held.now)
        (sym lines_text-none) (Passes-refl (g.L.Link.left c.args.link.now) (g.W.Write.contents c.args.writer.now) c.args.held.now),
  );
  sent = refl;
}

pub returns-then-owed-eq0-2-clause-copied : goal.returns-then-owed-eq0-2-clause-copied
returns-then-owed-eq0-2-clause-copied g c =
    let on = answered_on record { ranges = 0; answers = c.args.answers } c.copying.owed c.answered-len.result.1 c.answered-len.result.0 _ _ _ _ _ _ _ _ _ c.copying.invariant.copied
    c.answered-len.ensures c.as_slice.ensures c.in-Ok.ensures.ok c.in-Ok.ensures.held in
    record {
      ls = on.0;
      answers = are_answers record { ranges = 0; answers = c.args.answers } c.answered-len.result.1 on.0 c.args.answers on.1 refl refl c.if-owed-eq0.true c.if-owed-eq0-2.true;
      passes = on.2;
    }

pub returns-then-as_slice-ge-MAX_LINE-clause-copied : goal.returns-then-as_slice-ge-MAX_LINE-clause-copied
returns-then-as_slice-ge-MAX_LINE-clause-copied g c =
    let on = answered_on record { ranges = 0; answers = c.args.answers } c.copying.owed c.answered-len.result.1 c.answered-len.result.0 _ _ _ _ _ _ _ _ _ c.copying.invariant.copied
    c.answered-len.ensures c.as_slice.ensures c.in-Ok.ensures.ok c.in-Ok.ensures.held in
    (_, lines_text on.0, on.2)

pub copying-preserved : goal.copying-preserved
copying-preserved g c =
    let on = answered_on record { ranges = 0; answers = c.args.answers } c.copying.owed c.answered-len.result.1 c.answered-len.result.0 _ _ _ _ _ _ _ _ _ c.copying.invariant.copied
    c.answered-len.ensures c.as_slice.ensures c.in-Ok.ensures.ok c.in-Ok.ensures.held in
    record {
      copied = (on.0, on.1, Passes-read _ _ _ _ _ _ _ _ _ _ on.2 c.in-Ok-read_link.ensures.ok c.in-Ok-add.ensures.ok);
      sent = c.in-Ok-read_link.ensures.sent ∙ c.copying.invariant.sent;
    }

pub returns-in-Err-clause-copied : goal.returns-in-Err-clause-copied
returns-in-Err-clause-copied g c =
    let some = c.in-Err.ensures.err in
    (_, _, Passes-some _ _ _ _ _ _ _ _ c.answered-len.result.0 some.0 c.copying.invariant.copied.2 some.1)

pub returns-in-Err-read_link-clause-copied : goal.returns-in-Err-read_link-clause-copied
returns-in-Err-read_link-clause-copied g c =
    let on = answered_on record { ranges = 0; answers = c.args.answers } c.copying.owed c.answered-len.result.1 c.answered-len.result.0 _ _ _ _ _ _ _ _ _ c.copying.invariant.copied
    c.answered-len.ensures c.as_slice.ensures c.in-Ok.ensures.ok c.in-Ok.ensures.held in
    let some = c.in-Err-read_link.ensures.err.1 in
    (c.write_held.new.held ++ some.0, lines_text on.0, Passes-read _ _ _ _ _ _ _ _ _ some.0 on.2 some.1 refl)

pub returns-in-Err-add-clause-copied : goal.returns-in-Err-add-clause-copied
returns-in-Err-add-clause-copied g c =
    let on = answered_on record { ranges = 0; answers = c.args.answers } c.copying.owed c.answered-len.result.1 c.answered-len.result.0 _ _ _ _ _ _ _ _ _ c.copying.invariant.copied
    c.answered-len.ensures c.as_slice.ensures c.in-Ok.ensures.ok c.in-Ok.ensures.held in
    (_, lines_text on.0, Passes-read _ _ _ _ _ _ _ _ _ _ on.2 c.in-Ok-read_link.ensures.ok refl)
