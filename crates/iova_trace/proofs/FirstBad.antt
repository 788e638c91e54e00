-- The first bad line of a text has one number, and what comes after it does not change it.
use Rattle.std.proofs.Common.{ℕ, suc, ◌≡◌, ◌+◌, ◌<◌, ◌≤◌, ◌^◌, ◌==◌, ◌⊎◌, inl, inr, Bool, true, false, List, [], ◌∷◌, ◌++◌, Option, Some, None, length, length-append, map, decimal, codes, refl, sym, ap, ◌∙◌, subst, arith, append_assoc, append-nil}
use Rattle.std.specs.Prelude.{flat_map}
use Rattle.std.specs.List.{AllByRecursion}
use Rattle.std.proofs.lemmas.Bool.{cond_both}
use Rattle.iova_range.specs.Bounds.{Extent, first_profile}
use Rattle.iova_model.specs.declared.step.Step.{Step}
use Rattle.iova_model.specs.declared.step.Step.TheVariants as step
use Rattle.iova_line.specs.declared.line.Verb.{Verb}
use Rattle.iova_line.specs.declared.line.Verb.TheVariants as verb
use Rattle.iova_line.specs.declared.trace.Trace.{Trace}
use Rattle.iova_text.specs.Words.{spaced_words}
use Rattle.iova_line.specs.Text.{verb_text, verb_of, outcome_text, arguments_of, step_text, NumbersFit, header_numbers, header_text, IsHeader}
use Rattle.iova_line.specs.LineSteps.{IsStep}
use Rattle.iova_text.specs.Lines.{HasNoLf, whole_line, IsOverlong}
use Rattle.iova_line.specs.Traces.{step_line, trace_text, IsTrace}
use Rattle.iova_trace.specs.Lines.{first_lines_text, BeginsWithLines, IsOther, IsBad, IsCutOff, MayFollow, IsRefused, next_line_number}
use Rattle.iova_trace.specs.Replay.{StopsAtBad}
use Rattle.iova_text.proofs.LineEnds.{cut_once, no_line, lf_within, odd_more, overlong_more, first_lf}
use Rattle.iova_text.proofs.WordTexts.{IsShort, short_decimal, short_kind, short_words}
use Rattle.iova_trace.proofs.Readings.{IsEnd, end_at, no_lf_step, no_lf_header, header_fits}

-- no step that may be the one after so many begins the bytes
abbrev IsStuckAt : ℕ → List ℕ → Type 0
IsStuckAt count left = (s : Step) (more : List ℕ) → count < 1000000 → IsStep s → left ≡ whole_line (step_text s) ++ more → ⊥

stuck_at : (t : Trace) (rest : List ℕ) → IsEnd (Some t) rest → IsStuckAt (length t.steps) rest
stuck_at t rest end s more lt is e =
    let P : List ℕ → Type 0 = IsEnd (Some t) in
    end_at (Some t) (step_text s) more (no_lf_step s is) (lt, s, is, refl) (subst P e end)

-- two readings of bytes have as many steps, and the same rest
same_steps : (count : ℕ) (ss ms : List Step) (r q : List ℕ) → AllByRecursion IsStep ss → AllByRecursion IsStep ms
    → count + length ss ≤ 1000000 → count + length ms ≤ 1000000 → flat_map step_line ss ++ r ≡ flat_map step_line ms ++ q
    → IsStuckAt (count + length ss) r → IsStuckAt (count + length ms) q → (length ss ≡ length ms) × (r ≡ q)
same_steps count [] [] r q a b few most e stop end = (refl, e)
same_steps count [] (m ∷ ms) r q a b few most e stop end =
    absurd (stop m (flat_map step_line ms ++ q) (omega arith) b.0 (e ∙ append_assoc (step_line m) (flat_map step_line ms) q))
same_steps count (s ∷ ss) [] r q a b few most e stop end =
    absurd (end s (flat_map step_line ss ++ r) (omega arith) a.0 (sym e ∙ append_assoc (step_line s) (flat_map step_line ss) r))
same_steps count (s ∷ ss) (m ∷ ms) r q a b few most e stop end =
    let both = cut_once (step_text s) (flat_map step_line ss ++ r) (step_text m) (flat_map step_line ms ++ q) (no_lf_step s a.0) (no_lf_step m b.0)
    (sym (append_assoc (step_line s) (flat_map step_line ss) r) ∙ (e ∙ append_assoc (step_line m) (flat_map step_line ms) q)) in
    let rest = same_steps (count + 1) ss ms r q a.1 b.1 (omega arith) (omega arith) both.1
    (λ x more lt is f. stop x more (omega arith) is f) (λ x more lt is f. end x more (omega arith) is f) in
    (ap suc rest.0, rest.1)

same_lines : (text : List ℕ) (f g : Option Trace) (r q : List ℕ) → BeginsWithLines text f r → BeginsWithLines text g q → IsEnd f r → IsEnd g q
    → (next_line_number f ≡ next_line_number g) × (r ≡ q)
same_lines text None None r q a b stop end = (refl, sym a.whole ∙ b.whole)
same_lines text None (Some t) r q a b stop end =
    let header = header_text t.bounds t.workers in
    let whole = sym a.whole ∙ (b.whole ∙ append_assoc (whole_line header) (flat_map step_line t.steps) q) in
    let P : List ℕ → Type 0 = IsEnd None in
    absurd (end_at None header (flat_map step_line t.steps ++ q) (no_lf_header t.bounds t.workers b.good.header) (t.bounds, t.workers, b.good.header, refl)
    (subst P whole stop))
same_lines text (Some t) None r q a b stop end =
    let header = header_text t.bounds t.workers in
    let whole = sym b.whole ∙ (a.whole ∙ append_assoc (whole_line header) (flat_map step_line t.steps) r) in
    let P : List ℕ → Type 0 = IsEnd None in
    absurd (end_at None header (flat_map step_line t.steps ++ r) (no_lf_header t.bounds t.workers a.good.header) (t.bounds, t.workers, a.good.header, refl)
    (subst P whole end))
same_lines text (Some t) (Some u) r q a b stop end =
    let first = header_text t.bounds t.workers in
    let other = header_text u.bounds u.workers in
    let whole = sym (append_assoc (whole_line first) (flat_map step_line t.steps) r) ∙ (sym a.whole ∙ (b.whole ∙ append_assoc (whole_line other) (flat_map step_line u.steps) q)) in
    let both = cut_once first (flat_map step_line t.steps ++ r) other (flat_map step_line u.steps ++ q)
    (no_lf_header t.bounds t.workers a.good.header) (no_lf_header u.bounds u.workers b.good.header) whole in
    let same = same_steps 0 t.steps u.steps r q a.good.steps b.good.steps (omega (arith, a.good.few)) (omega (arith, b.good.few)) both.1
    (λ s more lt is e. stuck_at t r stop s more (omega arith) is e) (λ s more lt is e. stuck_at u q end s more (omega arith) is e) in
    (ap (λ (n : ℕ). n + 2) same.0, same.1)

pub unique_number : (text : List ℕ) (n m : ℕ) → IsRefused text n → IsRefused text m → n ≡ m
unique_number text n m a b =
    a.number_is ∙ ((same_lines text a.lines b.lines a.rest b.rest a.begins b.begins (inl a.bad) (inl b.bad)).0 ∙ sym b.number_is)

-- a trace is not refused
pub refused_none : (text : List ℕ) (n : ℕ) (t : Trace) → IsRefused text n → IsTrace t → text ≡ trace_text t → ⊥
refused_none text n t a is whole = go a.lines a.begins a.bad
  where
    go : (lines : Option Trace) → BeginsWithLines text lines a.rest → IsOther lines a.rest ⊎ IsCutOff lines a.rest → ⊥
    go lines begins bad =
        let mine : BeginsWithLines text (Some t) [] = record { good = is; whole = whole ∙ sym (append-nil (trace_text t)) } in
        let same = same_lines text (Some t) lines [] a.rest mine begins (inr (refl, λ e. cc)) (inl bad) in
        none lines same.0 same.1 bad
      where
        none : (lines : Option Trace) → next_line_number (Some t) ≡ next_line_number lines → [] ≡ a.rest → IsOther lines a.rest ⊎ IsCutOff lines a.rest → ⊥
        none None number empty bad = omega arith
        none (Some u) number empty (inl other) = no_line [] other.line other.more refl (empty ∙ other.whole)
        none (Some u) number empty (inr cut) = cut.1 (sym empty)

-- A line that is too long is none of a trace's.

short_outcome : (b : Bool) → IsShort (outcome_text b)
short_outcome true = omega arith
short_outcome false = omega arith

short_verb : (v : Verb) → length (verb_text v) ≤ 20
short_verb verb.Reserve = omega arith
short_verb verb.Open = omega arith
short_verb verb.Alloc = omega arith
short_verb verb.Unmap = omega arith
short_verb verb.Begin = omega arith
short_verb verb.End = omega arith
short_verb verb.Drain = omega arith
short_verb verb.Close = omega arith
short_verb verb.CloseOne = omega arith

short_arguments : (s : Step) → NumbersFit s → AllByRecursion IsShort (arguments_of s) × (length (arguments_of s) ≤ 4)
short_arguments (step.Reserve lo hi) f = ((short_decimal lo f.0, (short_decimal hi f.1, tt)), omega arith)
short_arguments (step.Open worker sac) f = ((short_decimal worker f, (short_kind sac, tt)), omega arith)
short_arguments (step.Alloc worker client frames limit) f =
    ((short_decimal worker f.0, (short_decimal client f.1, (short_decimal frames f.2, (short_decimal limit f.3, tt)))), omega arith)
short_arguments (step.Unmap worker client lo) f = ((short_decimal worker f.0, (short_decimal client f.1, (short_decimal lo f.2, tt))), omega arith)
short_arguments step.Begin f = (tt, omega arith)
short_arguments (step.End number ok) f = ((short_decimal number f, (short_outcome ok, tt)), omega arith)
short_arguments (step.Drain ring by) f = ((short_decimal ring f.0, (short_decimal by f.1, tt)), omega arith)
short_arguments (step.Close worker client) f = ((short_decimal worker f.0, (short_decimal client f.1, tt)), omega arith)
short_arguments (step.CloseOne worker client) f = ((short_decimal worker f.0, (short_decimal client f.1, tt)), omega arith)

short_step : (s : Step) → NumbersFit s → length (step_text s) < 128
short_step s f =
    let a = short_arguments s f in
    omega (arith, length-append (verb_text (verb_of s)) (spaced_words (arguments_of s)), short_verb (verb_of s), short_words (arguments_of s) a.0, a.1)

short_numbers : (ns : List ℕ) → AllByRecursion (λ n. n < 2 ^ 64) ns → AllByRecursion IsShort (map decimal ns)
short_numbers [] a = tt
short_numbers (n ∷ ns) a = (short_decimal n a.0, short_numbers ns a.1)

few_numbers : (bounds : Extent) (workers : ℕ) → length (map decimal (header_numbers bounds workers)) ≤ 5
few_numbers bounds workers =
    let P : List ℕ → Type 0 = λ ns. length (map decimal ns) ≤ 5 in
    cond_both (bounds.profile.mag == first_profile.mag) (1 ∷ bounds.start ∷ bounds.last ∷ workers ∷ []) (2 ∷ bounds.start ∷ bounds.last ∷ workers ∷ bounds.profile.depot ∷ []) P
    (λ e. omega arith) (λ e. omega arith)

short_header : (bounds : Extent) (workers : ℕ) → IsHeader bounds workers → length (header_text bounds workers) < 128
short_header bounds workers is =
    let words = map decimal (header_numbers bounds workers) in
    omega (
      arith,
      length-append (codes "iovatrace") (spaced_words words),
      short_words words (short_numbers (header_numbers bounds workers) (header_fits bounds workers is)),
      few_numbers bounds workers,
    )

short_line : (lines : Option Trace) (line : List ℕ) → MayFollow lines line → length line < 128
short_line None line may = omega (arith, short_header may.0 may.1 may.2, ap length may.3)
short_line (Some t) line may = omega (arith, short_step may.1 may.2.fits, ap length may.3)

overlong_is_bad : (lines : Option Trace) (rest more : List ℕ) → IsOverlong rest → IsOther lines (rest ++ more) ⊎ IsCutOff lines (rest ++ more)
overlong_is_bad lines rest more long = go lines (first_lf (rest ++ more))
  where
    go : (lines : Option Trace) → HasNoLf (rest ++ more) ⊎ ((line : List ℕ) × (left : List ℕ) × ((rest ++ more) ≡ whole_line line ++ left) × HasNoLf line)
        → IsOther lines (rest ++ more) ⊎ IsCutOff lines (rest ++ more)
    go None (inl none) = inr none
    go (Some t) (inl none) = inr (none, λ e. omega (arith, length-append rest more, ap length e, long.long))
    go lines (inr (line, left, e, one)) = inl (record {
      line = line;
      more = left;
      whole = e;
      one = one;
      odd = λ may. lf_within (rest ++ more) line left (short_line lines line may) e (overlong_more rest more long).one;
    })

-- Where a replay stops at a bad line, the whole input is refused with that number, whatever comes after.
pub stops_refused : (taken written more : List ℕ) (n : ℕ) → StopsAtBad taken written n → IsRefused (taken ++ more) n
stops_refused taken written more n s = record {
  lines = s.lines;
  rest = s.rest ++ more;
  begins = record { good = s.begins.good; whole = ap (λ (x : List ℕ). x ++ more) s.begins.whole ∙ append_assoc (first_lines_text s.lines) s.rest more };
  number_is = s.number_is;
  bad = go s.bad;
}
  where
    go : IsBad s.lines s.rest → IsOther s.lines (s.rest ++ more) ⊎ IsCutOff s.lines (s.rest ++ more)
    go (inl other) = inl (odd_more (λ line. ¬ MayFollow s.lines line) s.rest more other)
    go (inr long) = overlong_is_bad s.lines s.rest more long
