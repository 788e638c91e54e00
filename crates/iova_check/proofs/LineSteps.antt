-- What one line more does to what stands in a text.
use Rattle.std.proofs.Common.{ℕ, ◌≡◌, ◌≢◌, ◌+◌, ◌<◌, ◌≤◌, ◌⊎◌, inl, inr, List, [], ◌∷◌, ◌++◌, Option, Some, None, length, take, drop, refl, sym, ap, ◌∙◌, subst, arith, false, append_assoc, append-nil, length-append, length-take}
use Rattle.std.specs.List.{list_all}
use Rattle.std.proofs.lemmas.List.{take-append-drop, drop_all}
use Rattle.std.proofs.lemmas.Bool.{and_parts, and_from}
use Rattle.iova_check.specs.declared.allowed.LogBounds.{LogBounds}
use Rattle.iova_check.specs.declared.event.Event.{Event}
use Rattle.iova_check.specs.declared.event.Event.TheVariants.{Other}
use Rattle.iova_check.specs.declared.event.OtherLine.TheVariants.{Plain}
use Rattle.iova_check.specs.declared.checker.Checker.{Checker}
use Rattle.iova_check.specs.declared.fault.CheckFault.TheVariants as fault
use Rattle.iova_check.specs.declared.run.CheckState.{CheckState}
use Rattle.iova_check.specs.declared.source.Form.{Form}
use Rattle.iova_check.specs.declared.source.Form.TheVariants as form
use Rattle.iova_check.specs.declared.source.Source.{Source}
use Rattle.iova_text.specs.Lines.{is_not_lf, HasNoLf, whole_line, IsUnended}
use Rattle.iova_check.specs.AllowedBounds.{bounds_asked}
use Rattle.iova_check.specs.Text.{IsHeader, IsEvent, header_text, event_text}
use Rattle.iova_check.specs.Trace.{event_said}
use Rattle.iova_check.specs.Logs.{LogLines, events_text, IsLog, IsTrace, AreLinesOf, AreLines, IsOfLog, IsCutOff, AreFirstLines, first_lines_text, next_line_number, MayFollow}
use Rattle.iova_check.specs.Checking.{HasChecked, ChecksNext}
use Rattle.iova_check.specs.Runs.{IsChecked, IsDone, StopsAtCut}
use Rattle.iova_check.specs.CheckState.{IsFront, IsKeptOf, IsRestOf, IsOpen, IsBegun, HasTaken, number_at, Goes, Stops, is_last}
use Rattle.iova_text.proofs.Cuts.{list_all-append}
use Rattle.iova_check.proofs.TraceWords.{long_says}

-- What is kept of a line

front_empty : (kept rest : List ℕ) → kept ≡ [] → IsFront kept rest → rest ≡ []
front_empty kept rest none h = elim h.all_or_long [
  | inl all ↦ h.whole ∙ (ap (λ (x : List ℕ). x ++ h.dropped) none ∙ all)
  | inr long ↦ let no : length kept ≡ 0 = ap length none in absurd (omega (arith, long, no))
]

-- nothing is kept of nothing alone
pub rest_empty : (f : Form) (kept rest : List ℕ) → kept ≡ [] → IsRestOf f kept rest → rest ≡ []
rest_empty form.Log kept rest none h = h.0 ∙ none
rest_empty (form.Trace domain) kept rest none h = front_empty kept rest none h

pub rest_one : (f : Form) (kept rest : List ℕ) → IsRestOf f kept rest → HasNoLf rest
rest_one form.Log kept rest h = ap (list_all is_not_lf) h.0 ∙ h.1.one
rest_one (form.Trace domain) kept rest h = h.one

pub rest_kept : (f : Form) (kept rest : List ℕ) → IsRestOf f kept rest → IsKeptOf f kept rest
rest_kept form.Log kept rest h = h.0
rest_kept (form.Trace domain) kept rest h = h

-- of a line all may be kept
pub all_kept : (f : Form) (line : List ℕ) → HasNoLf line → IsKeptOf f line line
all_kept form.Log line one = refl
all_kept (form.Trace domain) line one = record { dropped = []; whole = sym (append-nil line); one = one; all_or_long = inl refl }

nothing_rest : (f : Form) → IsRestOf f [] []
nothing_rest form.Log = (refl, record { one = refl; short = omega arith })
nothing_rest (form.Trace domain) = record { dropped = []; whole = refl; one = refl; all_or_long = inl refl }

pub no_rest : (f : Form) (kept : List ℕ) → kept ≡ [] → IsRestOf f kept []
no_rest f kept none = let P : List ℕ → Type 0 = λ x. IsRestOf f x [] in subst P (sym none) (nothing_rest f)

-- what is said by what is kept of a line the whole line says
pub front_says : (domain : Option ℕ) (kept line : List ℕ) → IsFront kept line → event_said domain kept ≡ event_said domain line
front_says domain kept line h = elim h.all_or_long [
  | inl all ↦ ap (event_said domain) (sym (h.whole ∙ (ap (λ (x : List ℕ). kept ++ x) all ∙ append-nil kept)))
  | inr long ↦
      let more : 1024 ≤ length line = omega (arith, ap length h.whole, length-append kept h.dropped, long) in
      long_says domain kept long ∙ sym (long_says domain line more)
]

-- Checkers

-- what is known is of the lines so far
pub number_at-is : (lines : Option LogLines) (c : Option Checker) (text : List ℕ) → IsChecked lines c text → number_at c ≡ next_line_number lines
number_at-is None None text r = refl
number_at-is None (Some c) text r = absurd r
number_at-is (Some l) None text r = absurd r
number_at-is (Some l) (Some c) text r = r.follows.line

pub no_lines : (lines : Option LogLines) (c : Option Checker) (text : List ℕ) → c ≡ None → IsChecked lines c text → (lines ≡ None) × (text ≡ [])
no_lines None c text e r = (refl, (let P : Option Checker → Type 0 = λ x. IsChecked None x text in subst P e r))
no_lines (Some l) c text e r = absurd (let P : Option Checker → Type 0 = λ x. IsChecked (Some l) x text in subst P e r)

-- Lines

pub with_line : LogLines → Event → List ℕ → LogLines
with_line l e line = record { bounds = l.bounds; past = e ∷ l.past; text = l.text ++ whole_line line }

log_more : (asked : LogBounds) (l : LogLines) (e : Event) (line : List ℕ) → IsEvent e → line ≡ event_text e → IsLog asked l → IsLog asked (with_line l e line)
unfolding with_line
log_more asked l e line event spelled h = record {
  first = h.first;
  last = h.last;
  events = e ∷ h.events;
  header = h.header;
  good = (event, h.good);
  under = h.under;
  say = ap (λ (x : List Event). e ∷ x) h.say;
  are = ap (λ (x : List ℕ). x ++ whole_line line) h.are ∙ (append_assoc (whole_line (header_text h.first h.last)) (events_text h.events) (whole_line line)
      ∙ ap (λ (x : List ℕ). whole_line (header_text h.first h.last) ++ (events_text h.events ++ whole_line x)) spelled);
}

pub log_grows : (source : Source) (e : Event) (line : List ℕ) → source.form ≡ form.Log → IsEvent e → line ≡ event_text e
    → (l : LogLines) → AreLines source l → AreLines source (with_line l e line)
log_grows source e line is event spelled l h =
    let P : Form → Type 0 = λ f. AreLinesOf f source.asked l in
    let Q : Form → Type 0 = λ f. AreLinesOf f source.asked (with_line l e line) in
    subst Q (sym is) (log_more source.asked l e line event spelled (subst P is h))

trace_more : (asked : LogBounds) (domain : Option ℕ) (l : LogLines) (e : Event) (line : List ℕ) → HasNoLf line → e ≡ event_said domain line
    → IsTrace asked domain l → IsTrace asked domain (with_line l e line)
unfolding with_line
trace_more asked domain l e line one says h = record { under = h.under; say = (l.text, line, h.say, one, says, refl) }

pub trace_grows : (source : Source) (domain : Option ℕ) (e : Event) (line : List ℕ) → source.form ≡ form.Trace domain → HasNoLf line
    → e ≡ event_said domain line → (l : LogLines) → AreLines source l → AreLines source (with_line l e line)
trace_grows source domain e line is one says l h =
    let P : Form → Type 0 = λ f. AreLinesOf f source.asked l in
    let Q : Form → Type 0 = λ f. AreLinesOf f source.asked (with_line l e line) in
    subst Q (sym is) (trace_more source.asked domain l e line one says (subst P is h))

-- the header

header_lines : Source → ℕ → ℕ → List ℕ → LogLines
header_lines source first last line = record { bounds = bounds_asked source.asked first last; past = Other Plain ∷ []; text = whole_line line }

header_good : (source : Source) (first last : ℕ) (line : List ℕ) → source.form ≡ form.Log → IsHeader first last → line ≡ header_text first last
    → AreLines source (header_lines source first last line)
unfolding header_lines
header_good source first last line is header spelled =
    let l = header_lines source first last line in
    let Q : Form → Type 0 = λ f. AreLinesOf f source.asked l in
    let h : IsLog source.asked l = record {
      first = first;
      last = last;
      events = [];
      header = header;
      good = tt;
      under = refl;
      say = refl;
      are = ap whole_line spelled ∙ sym (append-nil (whole_line (header_text first last)));
    } in
    subst Q (sym is) h

open_log : (f : Form) (c : Option Checker) → f ≡ form.Log → IsOpen f c
open_log f c is = let P : Form → Type 0 = λ x. IsOpen x c in subst P (sym is) tt

-- the kept findings, after more were gathered
gathered_more : (text written before after more : List ℕ) → text ≡ written ++ before → after ≡ before ++ more → text ++ more ≡ (written ++ []) ++ after
gathered_more text written before after more is appended =
    ap (λ (x : List ℕ). x ++ more) is ∙ (append_assoc written before more
    ∙ (ap (λ (x : List ℕ). written ++ x) (sym appended) ∙ ap (λ (x : List ℕ). x ++ after) (sym (append-nil written))))

pub header_taken : (source : Source) (p q : CheckState) (line : List ℕ) (first last : ℕ) (fresh c : Checker) → source.form ≡ form.Log
    → p.line.items ≡ [] → p.checker ≡ None → IsHeader first last → line ≡ header_text first last
    → q.line.items ≡ p.line.items → q.checker ≡ Some c → HasChecked (bounds_asked source.asked first last) [] fresh []
    → ChecksNext fresh (Other Plain) p.findings.items c q.findings.items → Goes source p (whole_line line) [] q
unfolding header_lines
header_taken source p q line first last fresh c log empty none header spelled kept checker known next taken written st =
    let lines = no_lines st.lines p.checker st.text none st.checked in
    let l = header_lines source first last line in
    let more = next.more in
    let nothing : st.rest ≡ [] = rest_empty source.form p.line.items st.rest empty st.kept in
    let start : taken ≡ [] = st.begins.whole ∙ (ap (λ (x : Option LogLines). first_lines_text x ++ st.rest) lines.0 ∙ nothing) in
    record {
      lines = Some l;
      text = st.text ++ more;
      rest = [];
      begins = record {
        good = header_good source first last line log header spelled;
        whole = ap (λ (x : List ℕ). x ++ whole_line line) start ∙ sym (append-nil (whole_line line));
      };
      kept = no_rest source.form q.line.items (kept ∙ empty);
      opened = open_log source.form q.checker log;
      checked = (let P : Option Checker → Type 0 = λ x. IsChecked (Some l) x (st.text ++ more) in
          let Q : List ℕ → Type 0 = λ x. HasChecked (bounds_asked source.asked first last) (Other Plain ∷ []) c (x ++ more) in
          subst P (sym checker) (subst Q (sym lines.1) (next.checks (bounds_asked source.asked first last) [] [] known)));
      gathered = gathered_more st.text written p.findings.items q.findings.items more st.gathered next.appended;
    }

-- a line more

pub record OneMore (lines : Option LogLines) (old : Checker) (text : List ℕ) (e : Event) (line : List ℕ) (new : Checker) (more : List ℕ) : Type 0 where
  pub front : LogLines
  pub is : lines ≡ Some front
  pub checked : IsChecked (Some (with_line front e line)) (Some new) (text ++ more)

one_more : (lines : Option LogLines) (checker : Option Checker) (old new : Checker) (text before after line : List ℕ) (e : Event)
    → checker ≡ Some old → IsChecked lines checker text → (next : ChecksNext old e before new after) → OneMore lines old text e line new next.more
unfolding with_line
one_more None checker old new text before after line e is r next = absurd (let P : Option Checker → Type 0 = λ x. IsChecked None x text in subst P is r)
one_more (Some l) checker old new text before after line e is r next =
    let P : Option Checker → Type 0 = λ x. IsChecked (Some l) x text in
    record { front = l; is = refl; checked = next.checks l.bounds l.past text (subst P is r) }

open_some : (f : Form) (c : Checker) → IsOpen f (Some c)
open_some form.Log c = tt
open_some (form.Trace domain) c = tt

pub line_taken : (source : Source) (p q : CheckState) (line : List ℕ) (old new : Checker) (e : Event)
    → ((l : LogLines) → AreLines source l → AreLines source (with_line l e line))
    → p.line.items ≡ [] → p.checker ≡ Some old → ChecksNext old e p.findings.items new q.findings.items
    → q.line.items ≡ p.line.items → q.checker ≡ Some new → Goes source p (whole_line line) [] q
unfolding with_line
line_taken source p q line old new e grows empty checker next kept after taken written st =
    let one = one_more st.lines p.checker old new st.text p.findings.items q.findings.items line e checker st.checked next in
    let l = one.front in
    let wider = with_line l e line in
    let more = next.more in
    let nothing : st.rest ≡ [] = rest_empty source.form p.line.items st.rest empty st.kept in
    let P : Option LogLines → Type 0 = AreFirstLines source in
    let whole : taken ≡ l.text =
    st.begins.whole ∙ (ap (λ (x : Option LogLines). first_lines_text x ++ st.rest) one.is ∙ (ap (λ (x : List ℕ). l.text ++ x) nothing ∙ append-nil l.text)) in
    record {
      lines = Some wider;
      text = st.text ++ more;
      rest = [];
      begins = record {
        good = grows l (subst P one.is st.begins.good);
        whole = ap (λ (x : List ℕ). x ++ whole_line line) whole ∙ sym (append-nil (l.text ++ whole_line line));
      };
      kept = no_rest source.form q.line.items (kept ∙ empty);
      opened = (let Q : Option Checker → Type 0 = IsOpen source.form in subst Q (sym after) (open_some source.form new));
      checked = (let Q : Option Checker → Type 0 = λ x. IsChecked (Some wider) x (st.text ++ more) in subst Q (sym after) one.checked);
      gathered = gathered_more st.text written p.findings.items q.findings.items more st.gathered next.appended;
    }

-- Bytes that end no line

HasNoLf-left : (xs ys : List ℕ) → HasNoLf (xs ++ ys) → HasNoLf xs
HasNoLf-left [] ys a = refl
HasNoLf-left (x ∷ xs) ys a =
    let parts = and_parts (is_not_lf x) (list_all is_not_lf (xs ++ ys)) a in
    and_from (is_not_lf x) (list_all is_not_lf xs) parts.0 (HasNoLf-left xs ys parts.1)

HasNoLf-take : (n : ℕ) (bytes : List ℕ) → HasNoLf bytes → HasNoLf (take n bytes)
HasNoLf-take n bytes all = HasNoLf-left (take n bytes) (drop n bytes) (ap (list_all is_not_lf) (take-append-drop n bytes) ∙ all)

-- what has come of a line, and more of it
rest_taken : (source : Source) (p q : CheckState) (bytes : List ℕ) → ((rest : List ℕ) → IsRestOf source.form p.line.items rest → IsRestOf source.form q.line.items (rest ++ bytes))
    → q.checker ≡ p.checker → q.findings.items ≡ p.findings.items → Goes source p bytes [] q
rest_taken source p q bytes more checker findings taken written st = record {
  lines = st.lines;
  text = st.text;
  rest = st.rest ++ bytes;
  begins = record {
    good = st.begins.good;
    whole = ap (λ (x : List ℕ). x ++ bytes) st.begins.whole ∙ append_assoc (first_lines_text st.lines) st.rest bytes;
  };
  kept = more st.rest st.kept;
  opened = (let P : Option Checker → Type 0 = IsOpen source.form in subst P (sym checker) st.opened);
  checked = (let P : Option Checker → Type 0 = λ x. IsChecked st.lines x st.text in subst P (sym checker) st.checked);
  gathered = st.gathered ∙ (ap (λ (x : List ℕ). written ++ x) (sym findings) ∙ ap (λ (x : List ℕ). x ++ q.findings.items) (sym (append-nil written)));
}

pub part_kept : (source : Source) (p q : CheckState) (bytes : List ℕ) → source.form ≡ form.Log → HasNoLf bytes
    → length p.line.items + length bytes < 128 → q.line.items ≡ p.line.items ++ bytes
    → q.checker ≡ p.checker → q.findings.items ≡ p.findings.items → Goes source p bytes [] q
part_kept source p q bytes log one short line checker findings =
    let P : Form → Type 0 = λ f. (rest : List ℕ) → IsRestOf f p.line.items rest → IsRestOf f q.line.items (rest ++ bytes) in
    let U : List ℕ → Type 0 = IsUnended in
    let more : (rest : List ℕ) → IsRestOf form.Log p.line.items rest → IsRestOf form.Log q.line.items (rest ++ bytes) = λ rest h. (
      ap (λ (x : List ℕ). x ++ bytes) h.0 ∙ sym line,
      subst U (sym line) (record { one = list_all-append is_not_lf p.line.items bytes h.1.one one; short = omega (arith, length-append p.line.items bytes) }),
    ) in
    rest_taken source p q bytes (subst P (sym log) more) checker findings

front_all : (kept bytes rest : List ℕ) (n : ℕ) → HasNoLf bytes → IsFront kept rest → rest ≡ kept → (length bytes ≤ n) ⊎ (1024 ≤ length kept + n)
    → n ≤ length bytes → IsFront (kept ++ take n bytes) (rest ++ bytes)
front_all kept bytes rest n one h same fits within = record {
  dropped = drop n bytes;
  whole = ap (λ (x : List ℕ). x ++ bytes) same ∙ (ap (λ (x : List ℕ). kept ++ x) (sym (take-append-drop n bytes)) ∙ sym (append_assoc kept (take n bytes) (drop n bytes)));
  one = list_all-append is_not_lf rest bytes h.one one;
  all_or_long = elim fits [
    | inl short ↦ inl (drop_all n bytes short)
    | inr long ↦ inr (omega (arith, length-append kept (take n bytes), length-take n bytes, long, within))
  ];
}

front_long : (kept bytes rest : List ℕ) (n : ℕ) → HasNoLf bytes → IsFront kept rest → 1024 ≤ length kept → n ≡ 0
    → IsFront (kept ++ take n bytes) (rest ++ bytes)
front_long kept bytes rest n one h long none =
    let same : kept ++ take n bytes ≡ kept = ap (λ (k : ℕ). kept ++ take k bytes) none ∙ append-nil kept in
    let P : List ℕ → Type 0 = λ x. IsFront x (rest ++ bytes) in
    let wider : IsFront kept (rest ++ bytes) = record {
      dropped = h.dropped ++ bytes;
      whole = ap (λ (x : List ℕ). x ++ bytes) h.whole ∙ append_assoc kept h.dropped bytes;
      one = list_all-append is_not_lf rest bytes h.one one;
      all_or_long = inr long;
    } in
    subst P (sym same) wider

front_more : (kept bytes rest : List ℕ) (n : ℕ) → HasNoLf bytes → (length bytes ≤ n) ⊎ (1024 ≤ length kept + n)
    → n ≤ length bytes → n + length kept ≤ 1024 → IsFront kept rest → IsFront (kept ++ take n bytes) (rest ++ bytes)
front_more kept bytes rest n one fits within room h = elim h.all_or_long [
  | inl all ↦ front_all kept bytes rest n one h (h.whole ∙ (ap (λ (x : List ℕ). kept ++ x) all ∙ append-nil kept)) fits within
  | inr long ↦ front_long kept bytes rest n one h long (omega (arith, long, room))
]

pub front_kept : (source : Source) (domain : Option ℕ) (p q : CheckState) (bytes : List ℕ) (n : ℕ) → source.form ≡ form.Trace domain → HasNoLf bytes
    → (length bytes ≤ n) ⊎ (1024 ≤ length p.line.items + n) → n ≤ length bytes → n + length p.line.items ≤ 1024
    → q.line.items ≡ p.line.items ++ take n bytes → q.checker ≡ p.checker → q.findings.items ≡ p.findings.items → Goes source p bytes [] q
front_kept source domain p q bytes n trace one fits within room line checker findings =
    let P : Form → Type 0 = λ f. (rest : List ℕ) → IsRestOf f p.line.items rest → IsRestOf f q.line.items (rest ++ bytes) in
    let more : (rest : List ℕ) → IsRestOf (form.Trace domain) p.line.items rest → IsRestOf (form.Trace domain) q.line.items (rest ++ bytes) = λ rest h.
    let Q : List ℕ → Type 0 = λ x. IsFront x (rest ++ bytes) in
    subst Q (sym line) (front_more p.line.items bytes rest n one fits within room h) in
    rest_taken source p q bytes (subst P (sym trace) more) checker findings

-- Refusals

of_log : (f : Form) → f ≡ form.Log → IsOfLog f
of_log f is = let P : Form → Type 0 = IsOfLog in subst P (sym is) tt

-- memory is refused
pub no_memory : (source : Source) (p : CheckState) (bytes : List ℕ) → Stops source p bytes p.findings.items fault.NoMemory
no_memory source p bytes taken written st = record {
  lines = st.lines;
  rest = st.rest ++ bytes;
  checker = p.checker;
  text = st.text;
  begins = record {
    good = st.begins.good;
    whole = ap (λ (x : List ℕ). x ++ bytes) st.begins.whole ∙ append_assoc (first_lines_text st.lines) st.rest bytes;
  };
  checked = st.checked;
  unwritten = [];
  begun = st.gathered ∙ sym (append-nil (written ++ p.findings.items));
}

-- a line that may not stand there
pub bad_line : (source : Source) (p : CheckState) (line : List ℕ) (number : ℕ) → source.form ≡ form.Log → HasNoLf line → p.line.items ≡ []
    → ((lines : Option LogLines) (text : List ℕ) → IsChecked lines p.checker text → ¬ MayFollow lines line) → number ≡ number_at p.checker
    → Stops source p (whole_line line) p.findings.items (fault.BadLog number)
bad_line source p line number log one empty bad is taken written st =
    let nothing : st.rest ≡ [] = rest_empty source.form p.line.items st.rest empty st.kept in
    let P : List ℕ → Type 0 = IsChecked st.lines p.checker in
    record {
      lines = st.lines;
      rest = st.rest ++ whole_line line;
      checker = p.checker;
      begins = record {
        good = st.begins.good;
        whole = ap (λ (x : List ℕ). x ++ whole_line line) st.begins.whole ∙ append_assoc (first_lines_text st.lines) st.rest (whole_line line);
      };
      checked = subst P st.gathered st.checked;
      number_is = is ∙ number_at-is st.lines p.checker st.text st.checked;
      of_log = of_log source.form log;
      bad = inl (record {
        line = line;
        more = [];
        whole = ap (λ (x : List ℕ). x ++ whole_line line) nothing ∙ sym (append-nil (whole_line line));
        one = one;
        odd = bad st.lines st.text st.checked;
      });
    }

pub bad_event : (checker : Option Checker) (c : Checker) (line : List ℕ) → checker ≡ Some c → ((e : Event) → IsEvent e → line ≢ event_text e)
    → (lines : Option LogLines) (text : List ℕ) → IsChecked lines checker text → ¬ MayFollow lines line
bad_event checker c line is none None text r = absurd (let P : Option Checker → Type 0 = λ x. IsChecked None x text in subst P is r)
bad_event checker c line is none (Some l) text r = λ may. none may.0 may.1 may.2

pub bad_header : (checker : Option Checker) (line : List ℕ) → checker ≡ None → ((first last : ℕ) → IsHeader first last → line ≢ header_text first last)
    → (lines : Option LogLines) (text : List ℕ) → IsChecked lines checker text → ¬ MayFollow lines line
bad_header checker line is none None text r = λ may. none may.0 may.1 may.2 may.3
bad_header checker line is none (Some l) text r = absurd (let P : Option Checker → Type 0 = λ x. IsChecked (Some l) x text in subst P is r)

-- too many bytes that end no line
log_rest : (f : Form) (kept rest : List ℕ) → f ≡ form.Log → IsRestOf f kept rest → (rest ≡ kept) × IsUnended kept
log_rest f kept rest is h = let P : Form → Type 0 = λ x. IsRestOf x kept rest in subst P is h

pub overlong : (source : Source) (p : CheckState) (bytes : List ℕ) (number : ℕ) → source.form ≡ form.Log → HasNoLf bytes
    → 128 ≤ length p.line.items + length bytes → number ≡ number_at p.checker → Stops source p bytes p.findings.items (fault.BadLog number)
overlong source p bytes number log more long is taken written st =
    let kept = log_rest source.form p.line.items st.rest log st.kept in
    let rest = st.rest ++ bytes in
    let one : HasNoLf st.rest = rest_one source.form p.line.items st.rest st.kept in
    let whole : HasNoLf rest = list_all-append is_not_lf st.rest bytes one more in
    let P : List ℕ → Type 0 = IsChecked st.lines p.checker in
    record {
      lines = st.lines;
      rest = rest;
      checker = p.checker;
      begins = record { good = st.begins.good; whole = ap (λ (x : List ℕ). x ++ bytes) st.begins.whole ∙ append_assoc (first_lines_text st.lines) st.rest bytes };
      checked = subst P st.gathered st.checked;
      number_is = is ∙ number_at-is st.lines p.checker st.text st.checked;
      of_log = of_log source.form log;
      bad = inr (record { one = HasNoLf-take 128 rest whole; long = omega (arith, length-append st.rest bytes, long, ap length kept.0) });
    }

-- The beginning and the end

pub begun_stands : (source : Source) (p : CheckState) → IsBegun source.form source.asked p.checker → p.line.items ≡ [] → p.findings.items ≡ [] → HasTaken source [] [] p
begun_stands source p begun empty none = go source.form source.asked p.checker begun refl (refl, refl)
  where
    stands : (lines : Option LogLines) → AreFirstLines source lines → first_lines_text lines ≡ [] → IsOpen source.form p.checker → IsChecked lines p.checker []
        → HasTaken source [] [] p
    stands lines good text opened checked = record {
      lines = lines;
      text = [];
      rest = [];
      begins = record { good = good; whole = sym (append-nil (first_lines_text lines) ∙ text) };
      kept = no_rest source.form p.line.items empty;
      opened = opened;
      checked = checked;
      gathered = sym none;
    }

    go : (f : Form) (asked : LogBounds) (c : Option Checker) → IsBegun f asked c → source.form ≡ f → (p.checker ≡ c) × (source.asked ≡ asked) → HasTaken source [] [] p
    go form.Log asked c h is same =
        let P : Option Checker → Type 0 = λ x. IsChecked None x [] in
        stands None tt refl (open_log source.form p.checker is) (subst P (sym (same.0 ∙ h)) refl)
    go (form.Trace domain) asked None h is same = absurd h
    go (form.Trace domain) asked (Some c) h is same =
        let bounds = bounds_asked asked 0 1099511627775 in
        let l : LogLines = record { bounds = bounds; past = []; text = [] } in
        let P : Form → Type 0 = λ x. AreLinesOf x source.asked l in
        let A : LogBounds → Type 0 = λ x. bounds ≡ bounds_asked x 0 1099511627775 in
        let O : Option Checker → Type 0 = IsOpen source.form in
        let Q : Option Checker → Type 0 = λ x. IsChecked (Some l) x [] in
        stands (Some l) (subst P (sym is) (record { under = subst A (sym same.1) refl; say = refl })) refl
        (subst O (sym same.0) (open_some source.form c)) (subst Q (sym same.0) h)

not_last : (f : Form) (kept : List ℕ) → is_last f kept ≡ false → (kept ≡ []) ⊎ IsOfLog f
not_last form.Log kept h = inr tt
not_last (form.Trace domain) [] h = inl refl
not_last (form.Trace domain) (b ∷ kept) h = absurd cc

is_log : (f : Form) → IsOfLog f → f ≡ form.Log
is_log form.Log h = refl
is_log (form.Trace domain) h = absurd h

-- the text ends in a log's line, or has no line
cut_lines : (lines : Option LogLines) (rest : List ℕ) → HasNoLf rest → ((l : LogLines) → lines ≡ Some l → rest ≢ []) → IsCutOff lines rest
cut_lines None rest one some = one
cut_lines (Some l) rest one some = (one, some l refl)

pub ends_cut : (source : Source) (taken written : List ℕ) (p : CheckState) (number : ℕ) → HasTaken source taken written p → p.findings.items ≡ []
    → IsOfLog source.form → number ≡ number_at p.checker → (p.line.items ≢ []) ⊎ (p.checker ≡ None) → StopsAtCut source taken written number
ends_cut source taken written p number st none log is why =
    let kept = log_rest source.form p.line.items st.rest (is_log source.form log) st.kept in
    let P : List ℕ → Type 0 = IsChecked st.lines p.checker in
    record {
      lines = st.lines;
      rest = st.rest;
      checker = p.checker;
      begins = st.begins;
      checked = subst P (st.gathered ∙ (ap (λ (x : List ℕ). written ++ x) none ∙ append-nil written)) st.checked;
      number_is = is ∙ number_at-is st.lines p.checker st.text st.checked;
      of_log = log;
      cut = cut_lines st.lines st.rest (rest_one source.form p.line.items st.rest st.kept) (λ l some. elim why [
        | inl more ↦ λ empty. more (sym kept.0 ∙ empty)
        | inr unread ↦ let lines = no_lines st.lines p.checker st.text unread st.checked in
            let both : Some l ≡ None = sym some ∙ lines.0 in absurd cc
      ]);
    }

done_lines : (source : Source) (lines : Option LogLines) (checker : Option Checker) (c : Checker) (taken rest written : List ℕ) → checker ≡ Some c
    → IsChecked lines checker written → AreFirstLines source lines → taken ≡ first_lines_text lines → IsDone source taken written c
done_lines source None checker c taken rest written is r good whole = absurd (let P : Option Checker → Type 0 = λ x. IsChecked None x written in subst P is r)
done_lines source (Some l) checker c taken rest written is r good whole = record {
  lines = l;
  good = good;
  whole = whole;
  checked = (let P : Option Checker → Type 0 = λ x. IsChecked (Some l) x written in subst P is r);
}

pub ends_done : (source : Source) (taken written : List ℕ) (p : CheckState) (c : Checker) → HasTaken source taken written p → p.findings.items ≡ []
    → p.line.items ≡ [] → p.checker ≡ Some c → IsDone source taken written c
ends_done source taken written p c st none empty is =
    let nothing : st.rest ≡ [] = rest_empty source.form p.line.items st.rest empty st.kept in
    let P : List ℕ → Type 0 = IsChecked st.lines p.checker in
    done_lines source st.lines p.checker c taken st.rest written is
    (subst P (st.gathered ∙ (ap (λ (x : List ℕ). written ++ x) none ∙ append-nil written)) st.checked) st.begins.good
    (st.begins.whole ∙ (ap (λ (x : List ℕ). first_lines_text st.lines ++ x) nothing ∙ append-nil (first_lines_text st.lines)))

-- in a line that is kept only a log's text is cut off
pub last_is_log : (f : Form) (kept : List ℕ) → is_last f kept ≡ false → kept ≢ [] → IsOfLog f
last_is_log f kept h some = elim (not_last f kept h) [ inl none ↦ absurd (some none) | inr log ↦ log ]

-- without a checker only a log is
pub open_is_log : (f : Form) (checker : Option Checker) → checker ≡ None → IsOpen f checker → IsOfLog f
open_is_log form.Log checker is h = tt
open_is_log (form.Trace domain) checker is h = let P : Option Checker → Type 0 = IsOpen (form.Trace domain) in absurd (subst P is h)
