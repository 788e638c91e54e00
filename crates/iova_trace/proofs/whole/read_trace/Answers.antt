use Rattle.std.proofs.Common.{◌≡◌, ◌+◌, ◌<◌, ◌∙◌, ℕ, List, [], ◌∷◌, ◌++◌, Ok, Err, Some, inl, inr, refl, sym, ap, subst, length, arith}
use Rattle.std.proofs.lemmas.Bool.{eqb-true, eqb-false}
use Rattle.std.proofs.lemmas.Grind.{common_steps}
use Rattle.iova_trace.specs.declared.fault.ReplayFault.TheVariants.{BadTrace}
use Rattle.iova_line.specs.declared.line.Header.{Header}
use Rattle.iova_line.specs.declared.trace.Trace.{Trace}
use Rattle.iova_line.specs.Text.{header_text, step_text}
use Rattle.iova_trace.proofs.LineSteps.{IsTrace-more}
use Rattle.iova_text.proofs.LineEnds.{cut_once, no_line}
use Rattle.iova_trace.proofs.Readings.{trace_of, IsOnly, IsStuck, HasNoHeader, only_header, only_step, only_whole, only_not_refused, stuck_whole, stuck_refused, no_header_whole, no_header_refused, whole_header, whole_step, nil_of, no_lf_header, no_lf_step}
use Rattle.iova_trace.proofs.whole.read_trace.Goals as goal

pub returns-in_default-read_header-clause-whole : goal.returns-in_default-read_header-clause-whole
returns-in_default-read_header-clause-whole c = λ t is whole.
    let none : HasNoHeader c.args.text.now = λ b w more good e.
    c.in_default-read_header.ensures.all refl b w good
    (cut_once c.in-Some.line.now c.in-Some.rest.now (header_text b w) more c.in-Some.ensures.one (no_lf_header b w good) (sym c.in-Some.ensures.cut ∙ e)).0 in
    absurd (no_header_whole c.args.text.now t none is whole)

pub returns-in_default-read_header-clause-refused : goal.returns-in_default-read_header-clause-refused
returns-in_default-read_header-clause-refused c = λ number r.
    let none : HasNoHeader c.args.text.now = λ b w more good e.
    c.in_default-read_header.ensures.all refl b w good
    (cut_once c.in-Some.line.now c.in-Some.rest.now (header_text b w) more c.in-Some.ensures.one (no_lf_header b w good) (sym c.in-Some.ensures.cut ∙ e)).0 in
    inl (ap (λ (n : ℕ). Err (BadTrace n)) (sym (no_header_refused c.args.text.now number none r)))

pub loop-rest-init : goal.loop-rest-init
loop-rest-init c =
    let header = c.in-Some-read_header.header in
    let read = c.in-Some-read_header.ensures in
    let cut = c.in-Some.ensures in
    rw c.new-steps.ensures.items (record {
      good = record { header = read.good; steps = tt; few = omega arith };
      whole = whole_header c.args.text.now c.in-Some.line.now c.in-Some.rest.now header.bounds header.workers cut.cut read.spelled;
      only = only_header c.args.text.now c.in-Some.line.now c.in-Some.rest.now header.bounds header.workers cut.cut cut.one read.good read.spelled
          (λ b w good e.
          let is : Some header ≡ Some (record { bounds = b; workers = w }) = read.read b w good e in
          let same : header ≡ record { bounds = b; workers = w } = cc in
          (sym (ap (λ (h : Header). h.bounds) same), sym (ap (λ (h : Header). h.workers) same)));
    })

pub returns-in_default-cut_line-clause-err : goal.returns-in_default-cut_line-clause-err
returns-in_default-cut_line-clause-err c =
    let header = c.in-Some-read_header.header in
    let inv = c.loop-rest.invariant in
    let count : c.len-count.result ≡ length c.loop-rest.steps.items = omega (arith, c.len-count.ensures, c.loop-rest.steps.ok.0) in
    record {
      lines = Some (trace_of header.bounds header.workers c.loop-rest.steps.items);
      rest = c.loop-rest.rest.now;
      begins = record { good = inv.good; whole = inv.whole };
      number_is = ap (λ (n : ℕ). n + 2) count;
      bad = inr (c.in_default-cut_line.ensures.none, λ e. eqb-false (length c.loop-rest.rest.now) 0 (sym c.loop-rest-test.ensures) (ap length e));
    }

pub returns-in_default-cut_line-clause-whole : goal.returns-in_default-cut_line-clause-whole
returns-in_default-cut_line-clause-whole c = λ t is whole.
    let header = c.in-Some-read_header.header in
    let left = c.loop-rest.rest.now in
    let stuck : IsStuck c.loop-rest.steps.items left = λ s more lt step e. no_line left (step_text s) more c.in_default-cut_line.ensures.none e in
    absurd (stuck_whole c.args.text.now header.bounds header.workers c.loop-rest.steps.items left t c.loop-rest.invariant.only stuck
    (λ e. eqb-false (length left) 0 (sym c.loop-rest-test.ensures) (ap length e)) is whole)

pub returns-in_default-cut_line-clause-refused : goal.returns-in_default-cut_line-clause-refused
returns-in_default-cut_line-clause-refused c = λ number r.
    let header = c.in-Some-read_header.header in
    let left = c.loop-rest.rest.now in
    let count : c.len-count.result ≡ length c.loop-rest.steps.items = omega (arith, c.len-count.ensures, c.loop-rest.steps.ok.0) in
    let stuck : IsStuck c.loop-rest.steps.items left = λ s more lt step e. no_line left (step_text s) more c.in_default-cut_line.ensures.none e in
    let is = stuck_refused c.args.text.now header.bounds header.workers c.loop-rest.steps.items left number c.loop-rest.invariant.only stuck r in
    inl (ap (λ (n : ℕ). Err (BadTrace n)) (ap (λ (n : ℕ). n + 2) count ∙ sym is))

pub returns-in_default-next_step-clause-err : goal.returns-in_default-next_step-clause-err
returns-in_default-next_step-clause-err c =
    let header = c.in-Some-read_header.header in
    let inv = c.loop-rest.invariant in
    let count : c.len-count.result ≡ length c.loop-rest.steps.items = omega (arith, c.len-count.ensures, c.loop-rest.steps.ok.0) in
    record {
      lines = Some (trace_of header.bounds header.workers c.loop-rest.steps.items);
      rest = c.loop-rest.rest.now;
      begins = record { good = inv.good; whole = inv.whole };
      number_is = ap (λ (n : ℕ). n + 2) count;
      bad = inl (record {
        line = c.in-Some-cut_line.line.now;
        more = c.in-Some-cut_line.more.now;
        whole = c.in-Some-cut_line.ensures.cut;
        one = c.in-Some-cut_line.ensures.one;
        odd = λ may. c.in_default-next_step.ensures.all refl may.1 (omega (arith, count, may.0)) may.2 may.3;
      });
    }

pub returns-in_default-next_step-clause-whole : goal.returns-in_default-next_step-clause-whole
returns-in_default-next_step-clause-whole c = λ t is whole.
    let header = c.in-Some-read_header.header in
    let left = c.loop-rest.rest.now in
    let cut = c.in-Some-cut_line in
    let count : c.len-count.result ≡ length c.loop-rest.steps.items = omega (arith, c.len-count.ensures, c.loop-rest.steps.ok.0) in
    let stuck : IsStuck c.loop-rest.steps.items left = λ s more lt step e.
    let same = cut_once cut.line.now cut.more.now (step_text s) more cut.ensures.one (no_lf_step s step) (sym cut.ensures.cut ∙ e) in
    c.in_default-next_step.ensures.all refl s (omega (arith, count, lt)) step same.0 in
    absurd (stuck_whole c.args.text.now header.bounds header.workers c.loop-rest.steps.items left t c.loop-rest.invariant.only stuck
    (λ e. eqb-false (length left) 0 (sym c.loop-rest-test.ensures) (ap length e)) is whole)

pub returns-in_default-next_step-clause-refused : goal.returns-in_default-next_step-clause-refused
returns-in_default-next_step-clause-refused c = λ number r.
    let header = c.in-Some-read_header.header in
    let left = c.loop-rest.rest.now in
    let cut = c.in-Some-cut_line in
    let count : c.len-count.result ≡ length c.loop-rest.steps.items = omega (arith, c.len-count.ensures, c.loop-rest.steps.ok.0) in
    let stuck : IsStuck c.loop-rest.steps.items left = λ s more lt step e.
    let same = cut_once cut.line.now cut.more.now (step_text s) more cut.ensures.one (no_lf_step s step) (sym cut.ensures.cut ∙ e) in
    c.in_default-next_step.ensures.all refl s (omega (arith, count, lt)) step same.0 in
    let is = stuck_refused c.args.text.now header.bounds header.workers c.loop-rest.steps.items left number c.loop-rest.invariant.only stuck r in
    inl (ap (λ (n : ℕ). Err (BadTrace n)) (ap (λ (n : ℕ). n + 2) count ∙ sym is))

pub loop-rest-preserved : goal.loop-rest-preserved
loop-rest-preserved c =
    let header = c.in-Some-read_header.header in
    let inv = c.loop-rest.invariant in
    let steps = c.loop-rest.steps.items in
    let step = c.in-Some-next_step.step in
    let read = c.in-Some-next_step.ensures in
    let cut = c.in-Some-cut_line in
    let t = trace_of header.bounds header.workers steps in
    let items : c.push.new.self.items ≡ steps ++ step ∷ [] = grind (arith, common_steps) in
    let lt : length steps < 1000000 = omega (arith, c.len-count.ensures, c.loop-rest.steps.ok.0, read.room) in
    rw items (record {
      good = IsTrace-more t step inv.good read.spelled.0 lt;
      whole = whole_step c.args.text.now c.loop-rest.rest.now cut.line.now cut.more.now t step inv.whole cut.ensures.cut read.spelled.1;
      only = only_step c.args.text.now c.loop-rest.rest.now cut.line.now cut.more.now header.bounds header.workers steps step inv.only cut.ensures.cut
          cut.ensures.one lt read.spelled.0 read.spelled.1 (λ other is e. let same : Some step ≡ Some other = read.read other read.room is e in cc);
    })

pub returns-clause-whole : goal.returns-clause-whole
returns-clause-whole c = λ t is whole.
    let header = c.in-Some-read_header.header in
    let none = nil_of c.loop-rest.rest.now (eqb-true (length c.loop-rest.rest.now) 0 (sym c.loop-rest-test.ensures)) in
    let P : List ℕ → Type 0 = λ x. IsOnly c.args.text.now header.bounds header.workers c.loop-rest.steps.items x in
    rw c.new.ensures (inl (ap (λ (x : Trace). Ok x) (only_whole c.args.text.now header.bounds header.workers c.loop-rest.steps.items t
    (subst P none c.loop-rest.invariant.only) is whole)))

pub returns-clause-refused : goal.returns-clause-refused
returns-clause-refused c = λ number r.
    let header = c.in-Some-read_header.header in
    let none = nil_of c.loop-rest.rest.now (eqb-true (length c.loop-rest.rest.now) 0 (sym c.loop-rest-test.ensures)) in
    let P : List ℕ → Type 0 = λ x. IsOnly c.args.text.now header.bounds header.workers c.loop-rest.steps.items x in
    absurd (only_not_refused c.args.text.now header.bounds header.workers c.loop-rest.steps.items number (subst P none c.loop-rest.invariant.only) r)
