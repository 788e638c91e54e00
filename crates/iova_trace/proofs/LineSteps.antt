-- What one line more does to what stands in a trace.
use Rattle.std.proofs.Common.{ℕ, suc, ◌≡◌, ◌+◌, ◌<◌, inr, List, [], ◌∷◌, ◌++◌, Option, Some, None, length, take, refl, sym, ap, ◌∙◌, subst, arith, append_assoc, append-nil}
use Rattle.std.specs.Prelude.{flat_map, map}
use Rattle.std.specs.Io.KnownBytes.{Appends}
use Rattle.std.specs.List.{AllByRecursion}
use Rattle.std.proofs.lemmas.List.{length_push, take_all}
use Rattle.std.proofs.KnownBytes.{Appends-trans}
use Rattle.std.proofs.lemmas.List.Concat.{flat_map-append}
use Rattle.iova_model.specs.declared.step.Step.{Step}
use Rattle.iova_model.specs.declared.step.Reply.{Reply}
use Rattle.iova_model.specs.declared.step.Point.{Point}
use Rattle.iova_model.specs.declared.step.Point.TheVariants as point
use Rattle.iova_model.specs.State.{State, new_domain}
use Rattle.iova_model.specs.Next.{next}
use Rattle.iova_model.specs.Laws.{NewDomainsAreValid}
use Rattle.iova_model.specs.Transcript.{Pair, IsRun}
use Rattle.iova_model.specs.Promises.{PromisesAreKept, Runs}
use Rattle.iova_model.proofs.Runs.{run_none, run_more, run_keeps}
use Rattle.iova_line.specs.declared.line.Header.{Header}
use Rattle.iova_line.specs.declared.trace.Trace.{Trace}
use Rattle.iova_trace.specs.declared.fault.ReplayFault.TheVariants as fault
use Rattle.iova_trace.specs.declared.replay.ReplayState.{ReplayState}
use Rattle.iova_line.specs.Text.{IsHeader, header_text, step_text}
use Rattle.iova_trace.specs.Replies.{reply_text}
use Rattle.iova_line.specs.LineSteps.{IsStep}
use Rattle.iova_text.specs.Lines.{whole_line, IsOverlong}
use Rattle.iova_line.specs.Traces.{IsTrace, step_line, trace_text}
use Rattle.iova_trace.specs.Lines.{first_lines_text, count_steps, next_line_number, BeginsWithLines, AreFirstLines}
use Rattle.iova_trace.specs.Log.{log_header, log_line, pair_line}
use Rattle.iova_trace.specs.Replay.{IsReplayed, BreaksOff}
use Rattle.iova_trace.specs.Logged.{IsLogged}
use Rattle.iova_trace.specs.ReplayState.{HasTaken, number_at, Goes, Stops}

pub All-push : (P : Step → Type 0) (xs : List Step) (x : Step) → AllByRecursion P xs → P x → AllByRecursion P (xs ++ x ∷ [])
All-push P [] x a p = (p, tt)
All-push P (y ∷ xs) x a p = (a.0, All-push P xs x a.1 p)

-- a trace with a step more
abbrev pub with_step : Trace → Step → Trace
with_step t s = record t { steps = t.steps ++ s ∷ [] }

pub IsTrace-more : (t : Trace) (s : Step) → IsTrace t → IsStep s → length t.steps < 1000000 → IsTrace (with_step t s)
IsTrace-more t s good step lt = record {
  header = good.header;
  steps = All-push IsStep t.steps s good.steps step;
  few = omega (arith, length_push t.steps s);
}

pub trace_text-more : (t : Trace) (s : Step) → trace_text (with_step t s) ≡ trace_text t ++ step_line s
trace_text-more t s =
    let front = whole_line (header_text t.bounds t.workers) in
    ap (λ (x : List ℕ). front ++ x) (flat_map-append step_line t.steps (s ∷ []))
    ∙ (ap (λ (x : List ℕ). front ++ (flat_map step_line t.steps ++ x)) (append-nil (step_line s))
    ∙ sym (append_assoc front (flat_map step_line t.steps) (step_line s)))

-- the state so far is that of the lines so far
pub number_at-is : (lines : Option Trace) (d : Option State) (steps : ℕ) (text : List ℕ) → IsReplayed lines d text → steps ≡ count_steps lines
    → number_at d steps ≡ next_line_number lines
number_at-is None None steps text r e = refl
number_at-is None (Some d) steps text r e = absurd r
number_at-is (Some t) None steps text r e = absurd r
number_at-is (Some t) (Some d) steps text r e = ap (λ (n : ℕ). n + 2) e

no_lines : (lines : Option Trace) (d : Option State) (text : List ℕ) → d ≡ None → IsReplayed lines d text → (lines ≡ None) × (text ≡ [])
no_lines None d text e r = (refl, (let P : Option State → Type 0 = λ x. IsReplayed None x text in subst P e r))
no_lines (Some t) d text e r = absurd (let P : Option State → Type 0 = λ x. IsReplayed (Some t) x text in subst P e r)

-- A log grows

-- by all bytes of some
Appends-whole : (x y : Option (List ℕ)) (log : List ℕ) → Appends x y log → Appends x y (take (length log) log)
Appends-whole x y log a =
    let P : List ℕ → Type 0 = Appends x y in
    subst P (sym (take_all (length log) log (omega arith))) a

-- by some first bytes of those that come next
take_past : (xs ys : List ℕ) (n : ℕ) → take (length xs + n) (xs ++ ys) ≡ xs ++ take n ys
take_past [] ys n =
    let e : 0 + n ≡ n = omega arith in
    ap (λ (k : ℕ). take k ys) e
take_past (x ∷ xs) ys n =
    let e : length (x ∷ xs) + n ≡ suc (length xs + n) = omega arith in
    ap (λ (k : ℕ). take k (x ∷ (xs ++ ys))) e ∙ ap (λ (l : List ℕ). x ∷ l) (take_past xs ys n)

Appends-front : (x y z : Option (List ℕ)) (log more : List ℕ) (n : ℕ) → Appends x y log → Appends y z (take n more) → Appends x z (take (length log + n) (log ++ more))
Appends-front x y z log more n a b =
    let P : List ℕ → Type 0 = Appends x z in
    subst P (sym (take_past log more n)) (Appends-trans x y z log (take n more) a b)

-- the header
abbrev header_trace : Header → Trace
header_trace h = record { bounds = h.bounds; workers = h.workers; steps = [] }

-- what is run from a new domain keeps the promises
new_run_keeps : PromisesAreKept → NewDomainsAreValid → (t : Trace) (s : State) (replies : List Reply) → IsHeader t.bounds t.workers
    → IsRun (new_domain t.bounds t.workers) s t.steps [] replies → Runs (new_domain t.bounds t.workers) s t.steps [] replies
new_run_keeps law valid t s replies h run = run_keeps law (new_domain t.bounds t.workers) s t.steps [] replies (valid t.bounds t.workers h.extent h.some h.most) run

-- the log of a header alone
header_logged : (lines : Option Trace) (h : Header) (text log : List ℕ) → lines ≡ None → IsLogged lines text log
    → IsLogged (Some (header_trace h)) text (log ++ log_header h.bounds)
header_logged lines h text log is logged =
    let P : Option Trace → Type 0 = λ x. IsLogged x text log in
    let none = subst P is logged in
    ([], refl, none.0, ap (λ (x : List ℕ). x ++ log_header h.bounds) none.1 ∙ sym (append-nil (log_header h.bounds)))

-- the header's line has been taken
header_begins : (p : ReplayState) (taken written line kept : List ℕ) (x y : Option (List ℕ)) (h : Header) (st : HasTaken taken written x y p) → p.line ≡ []
    → p.domain ≡ None → IsHeader h.bounds h.workers → line ≡ header_text h.bounds h.workers → kept ≡ []
    → BeginsWithLines (taken ++ whole_line line) (Some (header_trace h)) kept
header_begins p taken written line kept x y h st empty none good is nothing =
    let first = no_lines st.lines p.domain st.text none st.replayed in
    let t = header_trace h in
    let whole : taken ≡ [] = st.begins.whole ∙ (ap (λ (l : Option Trace). first_lines_text l ++ p.line) first.0 ∙ empty) in
    let text : whole_line line ≡ trace_text t = ap whole_line is ∙ sym (append-nil (whole_line (header_text h.bounds h.workers))) in
    record {
      good = record { header = good; steps = tt; few = omega arith };
      whole = ap (λ (l : List ℕ). l ++ whole_line line) whole ∙ (text ∙ (sym (append-nil (trace_text t)) ∙ ap (λ (l : List ℕ). trace_text t ++ l) (sym nothing)));
    }

pub header_taken : PromisesAreKept → NewDomainsAreValid → (p q : ReplayState) (x y : Option (List ℕ)) (line : List ℕ) (h : Header) → p.line ≡ [] → p.domain ≡ None
    → IsHeader h.bounds h.workers → line ≡ header_text h.bounds h.workers
    → q.line ≡ p.line → q.steps ≡ p.steps → q.replies.items ≡ p.replies.items → q.domain ≡ Some (new_domain h.bounds h.workers)
    → Appends x y (log_header h.bounds) → Goes p x (whole_line line) [] q y
header_taken law valid p q x y line h empty none good is kept steps replies domain told taken written before st =
    let first = no_lines st.lines p.domain st.text none st.replayed in
    let t = header_trace h in
    record {
      lines = Some t;
      text = st.text;
      begins = header_begins p taken written line q.line before x h st empty none good is (kept ∙ empty);
      log = st.log ++ log_header h.bounds;
      logged = header_logged st.lines h st.text st.log first.0 st.logged;
      grown = Appends-trans before x y st.log (log_header h.bounds) st.grown told;
      replayed = (let P : Option State → Type 0 = λ d. IsReplayed (Some t) d st.text in
          subst P (sym domain) ([], new_run_keeps law valid t (new_domain h.bounds h.workers) [] good (run_none (new_domain h.bounds h.workers) []), first.1));
      steps = steps ∙ (st.steps ∙ ap count_steps first.0);
      gathered = st.gathered ∙ (ap (λ (x : List ℕ). written ++ x) (sym replies) ∙ ap (λ (x : List ℕ). x ++ q.replies.items) (sym (append-nil written)));
    }

-- a step: the lines, the replies and the text with it
pub record OneMore (lines : Option Trace) (d : State) (text : List ℕ) (s : Step) (m : Point) : Type 0 where
  pub trace : Trace
  pub is : lines ≡ Some trace
  pub replayed : IsReplayed (Some (with_step trace s)) (Some (next d s m).state) (text ++ reply_text (next d s m).reply)

one_more : PromisesAreKept → NewDomainsAreValid → (lines : Option Trace) (domain : Option State) (d : State) (text : List ℕ) (s : Step) (m : Point)
    → domain ≡ Some d → AreFirstLines lines → IsReplayed lines domain text → OneMore lines d text s m
one_more law valid None domain d text s m e good r = absurd (let P : Option State → Type 0 = λ x. IsReplayed None x text in subst P e r)
one_more law valid (Some t) domain d text s m e good r =
    let P : Option State → Type 0 = λ x. IsReplayed (Some t) x text in
    let run = subst P e r in
    let reply = (next d s m).reply in
    record {
      trace = t;
      is = refl;
      replayed = (
        run.0 ++ reply ∷ [],
        new_run_keeps law valid (with_step t s) (next d s m).state (run.0 ++ reply ∷ []) good.header
            (run_more (new_domain t.bounds t.workers) d (next d s m).state t.steps [] run.0 s m reply run.1.run refl refl),
        ap (λ (x : List ℕ). x ++ reply_text reply) run.2 ∙ (ap (λ (x : List ℕ). flat_map reply_text run.0 ++ x) (sym (append-nil (reply_text reply)))
            ∙ sym (flat_map-append reply_text run.0 (reply ∷ []))),
      );
    }

-- the lines with it
begins_one_more : (taken line : List ℕ) (lines : Option Trace) (t : Trace) (kept : List ℕ) (s : Step) → BeginsWithLines taken lines kept → lines ≡ Some t → kept ≡ []
    → length t.steps < 1000000 → IsStep s → line ≡ step_text s → BeginsWithLines (taken ++ whole_line line) (Some (with_step t s)) []
begins_one_more taken line lines t kept s b is none lt step spelled =
    let P : Option Trace → Type 0 = AreFirstLines in
    let whole : taken ≡ trace_text t = b.whole ∙ (ap (λ (x : Option Trace). first_lines_text x ++ kept) is ∙ (ap (λ (x : List ℕ). trace_text t ++ x) none ∙ append-nil (trace_text t))) in
    record {
      good = IsTrace-more t s (subst P is b.good) step lt;
      whole = ap (λ (x : List ℕ). x ++ whole_line line) whole ∙ (ap (λ (x : List ℕ). trace_text t ++ whole_line x) spelled
          ∙ (sym (trace_text-more t s) ∙ sym (append-nil (trace_text (with_step t s)))));
    }

-- their log with its line
flat_map_push : (f : Pair → List ℕ) (ps : List Pair) (p : Pair) → flat_map f (ps ++ p ∷ []) ≡ flat_map f ps ++ f p
flat_map_push f ps p = flat_map-append f ps (p ∷ []) ∙ ap (λ (l : List ℕ). flat_map f ps ++ l) (append-nil (f p))

steps_push : (ps : List Pair) (p : Pair) → map (λ x. x.step) (ps ++ p ∷ []) ≡ map (λ x. x.step) ps ++ p.step ∷ []
steps_push [] p = refl
steps_push (x ∷ ps) p = ap (λ l. x.step ∷ l) (steps_push ps p)

step_logged : (lines : Option Trace) (t : Trace) (text log : List ℕ) (s : Step) (r : Reply) → lines ≡ Some t → IsLogged lines text log
    → IsLogged (Some (with_step t s)) (text ++ reply_text r) (log ++ log_line s r)
step_logged lines t text log s r is logged =
    let P : Option Trace → Type 0 = λ x. IsLogged x text log in
    let all = subst P is logged in
    let p : Pair = record { step = s; point = point.Never; reply = r } in (
      all.0 ++ p ∷ [],
      steps_push all.0 p ∙ ap (λ l. l ++ s ∷ []) all.1,
      ap (λ (l : List ℕ). l ++ reply_text r) all.2 ∙ sym (flat_map_push (λ q. reply_text q.reply) all.0 p),
      ap (λ (l : List ℕ). l ++ log_line s r) all.3 ∙ (append_assoc (log_header t.bounds) (flat_map pair_line all.0) (log_line s r)
          ∙ ap (λ (l : List ℕ). log_header t.bounds ++ l) (sym (flat_map_push pair_line all.0 p))),
    )

pub step_taken : PromisesAreKept → NewDomainsAreValid → (p q : ReplayState) (x y : Option (List ℕ)) (line : List ℕ) (d : State) (s : Step) (m : Point) → p.line ≡ [] → p.domain ≡ Some d
    → p.steps < 1000000 → IsStep s → line ≡ step_text s
    → q.line ≡ p.line → q.steps ≡ p.steps + 1 → q.domain ≡ Some (next d s m).state
    → q.replies.items ≡ p.replies.items ++ reply_text (next d s m).reply
    → Appends x y (log_line s (next d s m).reply) → Goes p x (whole_line line) [] q y
step_taken law valid p q x y line d s m empty domain lt step spelled kept steps after replies told taken written before st =
    let more = one_more law valid st.lines p.domain d st.text s m domain st.begins.good st.replayed in
    let t = more.trace in
    let count : p.steps ≡ length t.steps = st.steps ∙ ap count_steps more.is in
    let reply = reply_text (next d s m).reply in
    let begins = begins_one_more taken line st.lines t p.line s st.begins more.is empty (omega (arith, count, lt)) step spelled in
    record {
      lines = Some (with_step t s);
      text = st.text ++ reply;
      log = st.log ++ log_line s (next d s m).reply;
      logged = step_logged st.lines t st.text st.log s (next d s m).reply more.is st.logged;
      grown = Appends-trans before x y st.log (log_line s (next d s m).reply) st.grown told;
      begins = record { good = begins.good; whole = begins.whole ∙ ap (λ (x : List ℕ). trace_text (with_step t s) ++ x) (sym (kept ∙ empty)) };
      replayed = (let P : Option State → Type 0 = λ x. IsReplayed (Some (with_step t s)) x (st.text ++ reply) in subst P (sym after) more.replayed);
      steps = omega (arith, steps, count, length_push t.steps s);
      gathered = ap (λ (x : List ℕ). x ++ reply) st.gathered ∙ (append_assoc written p.replies.items reply
          ∙ (ap (λ (x : List ℕ). written ++ x) (sym replies) ∙ ap (λ (x : List ℕ). x ++ q.replies.items) (sym (append-nil written))));
    }

-- A log at a line that is not taken

-- what was kept is not written, and the line is none that was replied to
stays_broken : (p : ReplayState) (taken written bytes : List ℕ) (x y : Option (List ℕ)) → HasTaken taken written x y p
    → BreaksOff (taken ++ bytes) (written ++ p.replies.items)
stays_broken p taken written bytes x y st = record {
  lines = st.lines;
  rest = p.line ++ bytes;
  state = p.domain;
  text = st.text;
  begins = record { good = st.begins.good; whole = ap (λ (l : List ℕ). l ++ bytes) st.begins.whole ∙ append_assoc (first_lines_text st.lines) p.line bytes };
  replayed = st.replayed;
  unwritten = [];
  begun = st.gathered ∙ sym (append-nil (written ++ p.replies.items));
}

-- the header's line of the log is not all written
pub header_cut : (p : ReplayState) (x y : Option (List ℕ)) (line : List ℕ) (h : Header) (n : ℕ) → p.line ≡ [] → p.domain ≡ None
    → IsHeader h.bounds h.workers → line ≡ header_text h.bounds h.workers → Appends x y (take n (log_header h.bounds))
    → Stops p x (whole_line line) p.replies.items y fault.WriteFault
header_cut p x y line h n empty none good is told taken written before st =
    let first = no_lines st.lines p.domain st.text none st.replayed in
    let told_all = log_header h.bounds in (
      stays_broken p taken written (whole_line line) before x st,
      record {
        lines = Some (header_trace h);
        rest = [];
        text = st.text;
        unwritten = [];
        log = st.log ++ told_all;
        count = length st.log + n;
        begins = header_begins p taken written line [] before x h st empty none good is refl;
        logged = header_logged st.lines h st.text st.log first.0 st.logged;
        begun = st.gathered ∙ sym (append-nil (written ++ p.replies.items));
        grown = Appends-front before x y st.log told_all n st.grown told;
      },
    )

-- a step was run, and its line of the log or its reply is not kept
pub step_cut : PromisesAreKept → NewDomainsAreValid → (p : ReplayState) (x y : Option (List ℕ)) (line : List ℕ) (d : State) (s : Step) (m : Point) (n : ℕ)
    → p.line ≡ [] → p.domain ≡ Some d → p.steps < 1000000 → IsStep s → line ≡ step_text s → Appends x y (take n (log_line s (next d s m).reply))
    → Stops p x (whole_line line) p.replies.items y fault.WriteFault
step_cut law valid p x y line d s m n empty domain lt step spelled told taken written before st =
    let more = one_more law valid st.lines p.domain d st.text s m domain st.begins.good st.replayed in
    let t = more.trace in
    let r = (next d s m).reply in
    let count : p.steps ≡ length t.steps = st.steps ∙ ap count_steps more.is in (
      stays_broken p taken written (whole_line line) before x st,
      record {
        lines = Some (with_step t s);
        rest = [];
        text = st.text ++ reply_text r;
        unwritten = reply_text r;
        log = st.log ++ log_line s r;
        count = length st.log + n;
        begins = begins_one_more taken line st.lines t p.line s st.begins more.is empty (omega (arith, count, lt)) step spelled;
        logged = step_logged st.lines t st.text st.log s r more.is st.logged;
        begun = ap (λ (l : List ℕ). l ++ reply_text r) st.gathered;
        grown = Appends-front before x y st.log (log_line s r) n st.grown told;
      },
    )

pub step_lost : PromisesAreKept → NewDomainsAreValid → (p : ReplayState) (x y : Option (List ℕ)) (line : List ℕ) (d : State) (s : Step) (m : Point)
    → p.line ≡ [] → p.domain ≡ Some d → p.steps < 1000000 → IsStep s → line ≡ step_text s → Appends x y (log_line s (next d s m).reply)
    → Stops p x (whole_line line) p.replies.items y fault.NoMemory
step_lost law valid p x y line d s m empty domain lt step spelled told =
    step_cut law valid p x y line d s m (length (log_line s (next d s m).reply)) empty domain lt step spelled (Appends-whole x y (log_line s (next d s m).reply) told)

-- a line that is too long
pub overlong : (p : ReplayState) (x : Option (List ℕ)) (bytes : List ℕ) (number : ℕ) → IsOverlong (p.line ++ bytes) → number ≡ number_at p.domain p.steps
    → Stops p x bytes p.replies.items x (fault.BadTrace number)
overlong p x bytes number long is taken written before st =
    let rest = p.line ++ bytes in
    let P : List ℕ → Type 0 = IsReplayed st.lines p.domain in
    let Q : List ℕ → Type 0 = λ l. IsLogged st.lines l st.log in
    let begins : BeginsWithLines (taken ++ bytes) st.lines rest =
    record { good = st.begins.good; whole = ap (λ (l : List ℕ). l ++ bytes) st.begins.whole ∙ append_assoc (first_lines_text st.lines) p.line bytes } in (
      record {
        lines = st.lines;
        rest = rest;
        state = p.domain;
        begins = begins;
        replayed = subst P st.gathered st.replayed;
        number_is = is ∙ number_at-is st.lines p.domain p.steps st.text st.replayed st.steps;
        bad = inr long;
      },
      record { lines = st.lines; rest = rest; log = st.log; begins = begins; logged = subst Q st.gathered st.logged; grown = st.grown },
    )
