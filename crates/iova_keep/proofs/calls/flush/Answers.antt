use Rattle.std.proofs.Common.{◌∙◌, ap}
use Rattle.std.specs.Prelude.{Some}
use Rattle.iova_keep.proofs.Doing.{known_flush_refused, known_flush_done, known_flush_failed}
use Rattle.iova_keep.proofs.Flushing.{flushed_good, flushed_parts, flushed_rounds}
use Rattle.iova_keep.proofs.calls.flush.Goals as goal

pub returns-in-Err-clause-domain : goal.returns-in-Err-clause-domain
returns-in-Err-clause-domain g c = known_flush_refused _ _ c.begin-heard.result.begun c.in-Err.refusal _ _ (c.in-Some.is ∙ ap Some c.in-Err.ensures.is) c.begin-heard.ensures.domain

pub returns-then-ok-clause-domain : goal.returns-then-ok-clause-domain
returns-then-ok-clause-domain g c =
    let k = rw (c.number-2.ensures, c.begin-heard.ensures.same) at c.ask-ok.ensures.calls in
    known_flush_done _ _ _ c.in-Ok.no c.begin-heard.result.begun c.end-ended.result.reply c.ask-ok.result _ _ _ (c.in-Some.is ∙ ap Some c.in-Ok.ensures.is) c.if-ok.true k c.begin-heard.ensures.domain c.end-ended.ensures.domain

pub returns-else-ok-clause-domain : goal.returns-else-ok-clause-domain
returns-else-ok-clause-domain g c =
    let k = rw (c.number-2.ensures, c.begin-heard.ensures.same) at c.ask-ok.ensures.calls in
    known_flush_failed _ _ _ c.in-Ok.no c.begin-heard.result.begun c.end-ended.result.reply c.ask-ok.result _ _ _ (c.in-Some.is ∙ ap Some c.in-Ok.ensures.is) c.if-ok.false k c.begin-heard.ensures.domain c.end-ended.ensures.domain

pub returns-then-ok-clause-tally : goal.returns-then-ok-clause-tally
returns-then-ok-clause-tally g c =
    let begun = rw (c.in-Some.is ∙ ap Some c.in-Ok.ensures.is) at c.begin-heard.ensures.tally in
    flushed_good c.in-Ok.no c.ask-ok.result c.end-ended.result.reply _ _ _ _ c.number-2.result _ _ begun c.ask-ok.ensures.tally c.end-ended.ensures.tally c.ask-ok.ensures.calls

pub returns-then-ok-clause-parts : goal.returns-then-ok-clause-parts
returns-then-ok-clause-parts g c =
    let begun = rw (c.in-Some.is ∙ ap Some c.in-Ok.ensures.is) at c.begin-heard.ensures.tally in
    flushed_parts c.in-Ok.no c.ask-ok.result c.end-ended.result.reply _ _ _ _ begun c.ask-ok.ensures.tally c.end-ended.ensures.tally

pub returns-then-ok-clause-rounds : goal.returns-then-ok-clause-rounds
returns-then-ok-clause-rounds g c =
    let begun = rw (c.in-Some.is ∙ ap Some c.in-Ok.ensures.is) at c.begin-heard.ensures.tally in
    flushed_rounds c.in-Ok.no c.ask-ok.result c.end-ended.result.reply _ _ _ _ _ _ _ begun c.ask-ok.ensures.tally c.end-ended.ensures.tally (rw (c.number-2.ensures, c.begin-heard.ensures.same) at c.ask-ok.ensures.calls)

pub returns-else-ok-clause-tally : goal.returns-else-ok-clause-tally
returns-else-ok-clause-tally g c =
    let begun = rw (c.in-Some.is ∙ ap Some c.in-Ok.ensures.is) at c.begin-heard.ensures.tally in
    flushed_good c.in-Ok.no c.ask-ok.result c.end-ended.result.reply _ _ _ _ c.number-2.result _ _ begun c.ask-ok.ensures.tally c.end-ended.ensures.tally c.ask-ok.ensures.calls

pub returns-else-ok-clause-parts : goal.returns-else-ok-clause-parts
returns-else-ok-clause-parts g c =
    let begun = rw (c.in-Some.is ∙ ap Some c.in-Ok.ensures.is) at c.begin-heard.ensures.tally in
    flushed_parts c.in-Ok.no c.ask-ok.result c.end-ended.result.reply _ _ _ _ begun c.ask-ok.ensures.tally c.end-ended.ensures.tally

pub returns-else-ok-clause-rounds : goal.returns-else-ok-clause-rounds
returns-else-ok-clause-rounds g c =
    let begun = rw (c.in-Some.is ∙ ap Some c.in-Ok.ensures.is) at c.begin-heard.ensures.tally in
    flushed_rounds c.in-Ok.no c.ask-ok.result c.end-ended.result.reply _ _ _ _ _ _ _ begun c.ask-ok.ensures.tally c.end-ended.ensures.tally (rw (c.number-2.ensures, c.begin-heard.ensures.same) at c.ask-ok.ensures.calls)
