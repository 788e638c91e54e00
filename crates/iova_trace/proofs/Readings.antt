-- The text of a trace is read in one way.
use Rattle.std.proofs.Common.{ℕ, ◌≡◌, ◌+◌, ◌<◌, ◌≤◌, ◌^◌, ◌==◌, ◌⊎◌, inl, inr, Bool, true, false, List, [], ◌∷◌, ◌++◌, Option, Some, None, length, length-append, map, decimal, codes, refl, sym, ap, ◌∙◌, subst, arith, append_assoc, append-nil}
use Rattle.std.specs.Prelude.{flat_map}
use Rattle.std.specs.List.{AllByRecursion}
use Rattle.std.proofs.lemmas.Bool.{cond_both}
use Rattle.iova_range.specs.Bounds.{Extent, Capacities, IsProfile, first_profile}
use Rattle.iova_model.specs.declared.step.Step.{Step}
use Rattle.iova_model.specs.declared.step.Step.TheVariants as step
use Rattle.iova_line.specs.declared.line.Verb.{Verb}
use Rattle.iova_line.specs.declared.line.Verb.TheVariants as verb
use Rattle.iova_line.specs.declared.trace.Trace.{Trace}
use Rattle.iova_text.specs.Words.{spaced_words}
use Rattle.iova_line.specs.Text.{verb_text, verb_of, outcome_text, arguments_of, step_text, NumbersFit, header_numbers, header_text, IsHeader}
use Rattle.iova_line.specs.LineSteps.{IsStep}
use Rattle.iova_text.specs.Lines.{is_not_lf, HasNoLf, whole_line}
use Rattle.iova_line.specs.Traces.{step_line, trace_text, IsTrace}
use Rattle.iova_trace.specs.Lines.{BeginsWithLines, IsOther, IsCutOff, MayFollow, IsRefused, next_line_number}
use Rattle.iova_text.proofs.LineEnds.{cut_once, no_line}
use Rattle.iova_text.proofs.WordTexts.{no_lf_decimal, no_lf_kind, no_lf_words}
use Rattle.iova_text.proofs.Cuts.{list_all-append}
use Rattle.iova_trace.proofs.LineSteps.{with_step, trace_text-more}

-- No line of a trace has an LF.

no_lf_verb : (v : Verb) → HasNoLf (verb_text v)
no_lf_verb verb.Reserve = refl
no_lf_verb verb.Open = refl
no_lf_verb verb.Alloc = refl
no_lf_verb verb.Unmap = refl
no_lf_verb verb.Begin = refl
no_lf_verb verb.End = refl
no_lf_verb verb.Drain = refl
no_lf_verb verb.Close = refl
no_lf_verb verb.CloseOne = refl

no_lf_outcome : (b : Bool) → HasNoLf (outcome_text b)
no_lf_outcome true = refl
no_lf_outcome false = refl

no_lf_arguments : (s : Step) → NumbersFit s → AllByRecursion HasNoLf (arguments_of s)
no_lf_arguments (step.Reserve lo hi) f = (no_lf_decimal lo f.0, (no_lf_decimal hi f.1, tt))
no_lf_arguments (step.Open worker sac) f = (no_lf_decimal worker f, (no_lf_kind sac, tt))
no_lf_arguments (step.Alloc worker client frames limit) f = (no_lf_decimal worker f.0, (no_lf_decimal client f.1, (no_lf_decimal frames f.2, (no_lf_decimal limit f.3, tt))))
no_lf_arguments (step.Unmap worker client lo) f = (no_lf_decimal worker f.0, (no_lf_decimal client f.1, (no_lf_decimal lo f.2, tt)))
no_lf_arguments step.Begin f = tt
no_lf_arguments (step.End number ok) f = (no_lf_decimal number f, (no_lf_outcome ok, tt))
no_lf_arguments (step.Drain ring by) f = (no_lf_decimal ring f.0, (no_lf_decimal by f.1, tt))
no_lf_arguments (step.Close worker client) f = (no_lf_decimal worker f.0, (no_lf_decimal client f.1, tt))
no_lf_arguments (step.CloseOne worker client) f = (no_lf_decimal worker f.0, (no_lf_decimal client f.1, tt))

pub no_lf_step : (s : Step) → IsStep s → HasNoLf (step_text s)
no_lf_step s is = list_all-append is_not_lf (verb_text (verb_of s)) (spaced_words (arguments_of s)) (no_lf_verb (verb_of s)) (no_lf_words (arguments_of s) (no_lf_arguments s is.fits))

no_lf_numbers : (ns : List ℕ) → AllByRecursion (λ n. n < 2 ^ 64) ns → AllByRecursion HasNoLf (map decimal ns)
no_lf_numbers [] a = tt
no_lf_numbers (n ∷ ns) a = (no_lf_decimal n a.0, no_lf_numbers ns a.1)

profile_fits : (p : Capacities) → IsProfile p → (p.top < 2 ^ 40) × (p.depot ≤ 32)
profile_fits p (inl e) = (omega (arith, ap (λ (q : Capacities). q.top) e), omega (arith, ap (λ (q : Capacities). q.depot) e))
profile_fits p (inr e) = (omega (arith, ap (λ (q : Capacities). q.top) e.1), e.0)

pub header_fits : (bounds : Extent) (workers : ℕ) → IsHeader bounds workers → AllByRecursion (λ n. n < 2 ^ 64) (header_numbers bounds workers)
header_fits bounds workers is =
    let P : List ℕ → Type 0 = AllByRecursion (λ n. n < 2 ^ 64) in
    let sizes = profile_fits bounds.profile is.extent.profile in
    let one : 1 < 2 ^ 64 = omega arith in
    let two : 2 < 2 ^ 64 = omega arith in
    let last : bounds.last < 2 ^ 64 = omega (arith, is.extent.bounds.below_top, sizes.0) in
    let start : bounds.start < 2 ^ 64 = omega (arith, is.extent.bounds.in_order, last) in
    let few : workers < 2 ^ 64 = omega (arith, is.most) in
    let depot : bounds.profile.depot < 2 ^ 64 = omega (arith, sizes.1) in
    cond_both (bounds.profile.mag == first_profile.mag) (1 ∷ bounds.start ∷ bounds.last ∷ workers ∷ []) (2 ∷ bounds.start ∷ bounds.last ∷ workers ∷ bounds.profile.depot ∷ []) P
    (λ e. (one, (start, (last, (few, tt))))) (λ e. (two, (start, (last, (few, (depot, tt))))))

pub no_lf_header : (bounds : Extent) (workers : ℕ) → IsHeader bounds workers → HasNoLf (header_text bounds workers)
no_lf_header bounds workers is =
    list_all-append is_not_lf (codes "iovatrace") (spaced_words (map decimal (header_numbers bounds workers))) refl
    (no_lf_words (map decimal (header_numbers bounds workers)) (no_lf_numbers (header_numbers bounds workers) (header_fits bounds workers is)))

-- what ends a reading: a bad line, the end in a line, or the end after a trace
abbrev pub IsEnd : Option Trace → List ℕ → Type 0
IsEnd lines rest = (IsOther lines rest ⊎ IsCutOff lines rest) ⊎ ((rest ≡ []) × (lines ≡ None → ⊥))

pub record IsReading (bytes : List ℕ) (lines : Option Trace) (rest : List ℕ) : Type 0 where
  pub begins : BeginsWithLines bytes lines rest
  pub end : IsEnd lines rest

-- no line stands after the lines of a reading
pub end_at : (lines : Option Trace) (line more : List ℕ) → HasNoLf line → MayFollow lines line → IsEnd lines (whole_line line ++ more) → ⊥
end_at lines line more one may (inl (inl other)) =
    let same = cut_once line more other.line other.more one other.one other.whole in
    let P : List ℕ → Type 0 = MayFollow lines in
    other.odd (subst P same.0 may)
end_at None line more one may (inl (inr cut)) = no_line (whole_line line ++ more) line more cut refl
end_at (Some t) line more one may (inl (inr cut)) = no_line (whole_line line ++ more) line more cut.0 refl
end_at lines line more one may (inr end) = no_line [] line more refl (sym end.0)

-- the trace of a header and steps
abbrev pub trace_of : Extent → ℕ → List Step → Trace
trace_of bounds workers steps = record { bounds = bounds; workers = workers; steps = steps }

-- every reading goes on from these steps, with these bytes
pub record GoesOn (bounds : Extent) (workers : ℕ) (steps : List Step) (left : List ℕ) (lines : Option Trace) (rest : List ℕ) : Type 0 where
  pub more : List Step
  pub is : lines ≡ Some (trace_of bounds workers (steps ++ more))
  pub whole : left ≡ flat_map step_line more ++ rest
  pub each : AllByRecursion IsStep more
  pub few : length (steps ++ more) ≤ 1000000
  pub end : IsEnd lines rest

abbrev pub IsOnly : List ℕ → Extent → ℕ → List Step → List ℕ → Type 0
IsOnly text bounds workers steps left = (lines : Option Trace) (rest : List ℕ) → IsReading text lines rest → GoesOn bounds workers steps left lines rest

-- the header's line is read
pub only_header : (text line rest : List ℕ) (bounds : Extent) (workers : ℕ) → text ≡ whole_line line ++ rest → HasNoLf line → IsHeader bounds workers
    → line ≡ header_text bounds workers
    → ((b : Extent) (w : ℕ) → IsHeader b w → line ≡ header_text b w → (b ≡ bounds) × (w ≡ workers)) → IsOnly text bounds workers [] rest
only_header text line rest bounds workers whole one good is read None left r =
    let P : List ℕ → Type 0 = IsEnd None in
    absurd (end_at None line rest one (bounds, workers, good, is) (subst P (sym r.begins.whole ∙ whole) r.end))
only_header text line rest bounds workers whole one good is read (Some t) left r =
    let header = header_text t.bounds t.workers in
    let lines = flat_map step_line t.steps in
    let both = cut_once line rest header (lines ++ left) one (no_lf_header t.bounds t.workers r.begins.good.header)
    (sym whole ∙ (r.begins.whole ∙ append_assoc (whole_line header) lines left)) in
    let same = read t.bounds t.workers r.begins.good.header both.0 in
    record {
      more = t.steps;
      is = ap (λ (b : Extent). Some (trace_of b t.workers t.steps)) same.0 ∙ ap (λ (w : ℕ). Some (trace_of bounds w t.steps)) same.1;
      whole = both.1;
      each = r.begins.good.steps;
      few = r.begins.good.few;
      end = r.end;
    }

-- a step's line is read
pub only_step : (text left line more : List ℕ) (bounds : Extent) (workers : ℕ) (steps : List Step) (s : Step) → IsOnly text bounds workers steps left
    → left ≡ whole_line line ++ more → HasNoLf line → length steps < 1000000 → IsStep s → line ≡ step_text s
    → ((other : Step) → IsStep other → line ≡ step_text other → s ≡ other) → IsOnly text bounds workers (steps ++ s ∷ []) more
only_step text left line more bounds workers steps s only whole one lt is spelled read lines rest r = let g = only lines rest r in go g.more g.is g.whole g.each g.few g.end
  where
    go : (ms : List Step) → lines ≡ Some (trace_of bounds workers (steps ++ ms)) → left ≡ flat_map step_line ms ++ rest → AllByRecursion IsStep ms
        → length (steps ++ ms) ≤ 1000000 → IsEnd lines rest → GoesOn bounds workers (steps ++ s ∷ []) more lines rest
    go [] at cut each few end =
        let t = trace_of bounds workers (steps ++ []) in
        let P : Option Trace → Type 0 = λ x. IsEnd x rest in
        let Q : List ℕ → Type 0 = IsEnd (Some t) in
        let room : length (steps ++ []) < 1000000 = omega (arith, ap length (append-nil steps), lt) in
        absurd (end_at (Some t) line more one (room, s, is, spelled) (subst Q (sym cut ∙ whole) (subst P at end)))
    go (m ∷ ms) at cut each few end =
        let both = cut_once line more (step_text m) (flat_map step_line ms ++ rest) one (no_lf_step m each.0)
        (sym whole ∙ (cut ∙ append_assoc (step_line m) (flat_map step_line ms) rest)) in
        let same : steps ++ m ∷ ms ≡ (steps ++ s ∷ []) ++ ms =
        ap (λ (x : Step). steps ++ x ∷ ms) (sym (read m each.0 both.0)) ∙ sym (append_assoc steps (s ∷ []) ms) in
        record {
          more = ms;
          is = at ∙ ap (λ (x : List Step). Some (trace_of bounds workers x)) same;
          whole = both.1;
          each = each.1;
          few = (let P : List Step → Type 0 = λ x. length x ≤ 1000000 in subst P same few);
          end = end;
        }

-- what is read of a whole trace, and of a refused one
pub reads_trace : (text : List ℕ) (t : Trace) → IsTrace t → text ≡ trace_text t → IsReading text (Some t) []
reads_trace text t is whole = record {
  begins = record { good = is; whole = whole ∙ sym (append-nil (trace_text t)) };
  end = inr (refl, λ e. cc);
}

pub reads_refused : (text : List ℕ) (number : ℕ) (r : IsRefused text number) → IsReading text r.lines r.rest
reads_refused text number r = record { begins = r.begins; end = inl r.bad }

-- where all is read, it is the one trace
pub only_whole : (text : List ℕ) (bounds : Extent) (workers : ℕ) (steps : List Step) (t : Trace) → IsOnly text bounds workers steps []
    → IsTrace t → text ≡ trace_text t → trace_of bounds workers steps ≡ t
only_whole text bounds workers steps t only is whole = let g = only (Some t) [] (reads_trace text t is whole) in go g.more g.is g.whole
  where
    go : (ms : List Step) → Some t ≡ Some (trace_of bounds workers (steps ++ ms)) → [] ≡ flat_map step_line ms ++ [] → trace_of bounds workers steps ≡ t
    go [] at none =
        let same : t ≡ trace_of bounds workers (steps ++ []) = cc in
        sym (same ∙ ap (λ (x : List Step). trace_of bounds workers x) (append-nil steps))
    go (m ∷ ms) at none = absurd (no_line [] (step_text m) (flat_map step_line ms ++ []) refl (none ∙ append_assoc (step_line m) (flat_map step_line ms) []))

-- a bad line is none that is not there
ended : {lines : Option Trace} {rest : List ℕ} {t : Trace} → lines ≡ Some t → [] ≡ rest → IsOther lines rest ⊎ IsCutOff lines rest → ⊥
ended at none (inl other) = no_line [] other.line other.more refl (none ∙ other.whole)
ended {lines} {rest} {t} at none (inr cut) = let P : Option Trace → Type 0 = λ x. IsCutOff x rest in (subst P at cut).1 (sym none)

pub only_not_refused : (text : List ℕ) (bounds : Extent) (workers : ℕ) (steps : List Step) (number : ℕ) → IsOnly text bounds workers steps []
    → IsRefused text number → ⊥
only_not_refused text bounds workers steps number only r =
    let g = only r.lines r.rest (reads_refused text number r) in
    go g.more g.is g.whole g.end
  where
    go : (ms : List Step) → r.lines ≡ Some (trace_of bounds workers (steps ++ ms)) → [] ≡ flat_map step_line ms ++ r.rest → IsEnd r.lines r.rest → ⊥
    go [] at none end = ended at none r.bad
    go (m ∷ ms) at none end = no_line [] (step_text m) (flat_map step_line ms ++ r.rest) refl (none ∙ append_assoc (step_line m) (flat_map step_line ms) r.rest)

-- the rest begins with no step that may stand there
abbrev pub IsStuck : List Step → List ℕ → Type 0
IsStuck steps left = (s : Step) (more : List ℕ) → length steps < 1000000 → IsStep s → left ≡ whole_line (step_text s) ++ more → ⊥

-- then no more steps are read
stuck_ends : (bounds : Extent) (workers : ℕ) (steps : List Step) (left : List ℕ) (lines : Option Trace) (rest : List ℕ) → GoesOn bounds workers steps left lines rest
    → IsStuck steps left → (lines ≡ Some (trace_of bounds workers steps)) × (left ≡ rest)
stuck_ends bounds workers steps left lines rest g stuck = go g.more g.is g.whole g.each g.few
  where
    go : (ms : List Step) → lines ≡ Some (trace_of bounds workers (steps ++ ms)) → left ≡ flat_map step_line ms ++ rest → AllByRecursion IsStep ms
        → length (steps ++ ms) ≤ 1000000 → (lines ≡ Some (trace_of bounds workers steps)) × (left ≡ rest)
    go [] at cut each few = (at ∙ ap (λ (x : List Step). Some (trace_of bounds workers x)) (append-nil steps), cut)
    go (m ∷ ms) at cut each few =
        let room : length steps < 1000000 = omega (arith, length-append steps (m ∷ ms), few) in
        absurd (stuck m (flat_map step_line ms ++ rest) room each.0 (cut ∙ append_assoc (step_line m) (flat_map step_line ms) rest))

pub stuck_whole : (text : List ℕ) (bounds : Extent) (workers : ℕ) (steps : List Step) (left : List ℕ) (t : Trace) → IsOnly text bounds workers steps left
    → IsStuck steps left → (left ≡ [] → ⊥) → IsTrace t → text ≡ trace_text t → ⊥
stuck_whole text bounds workers steps left t only stuck some is whole =
    some (stuck_ends bounds workers steps left (Some t) [] (only (Some t) [] (reads_trace text t is whole)) stuck).1

pub stuck_refused : (text : List ℕ) (bounds : Extent) (workers : ℕ) (steps : List Step) (left : List ℕ) (number : ℕ) → IsOnly text bounds workers steps left
    → IsStuck steps left → IsRefused text number → number ≡ length steps + 2
stuck_refused text bounds workers steps left number only stuck r =
    r.number_is ∙ ap next_line_number (stuck_ends bounds workers steps left r.lines r.rest (only r.lines r.rest (reads_refused text number r)) stuck).0

-- a text whose first line is no header
abbrev pub HasNoHeader : List ℕ → Type 0
HasNoHeader text = (bounds : Extent) (workers : ℕ) (more : List ℕ) → IsHeader bounds workers → text ≡ whole_line (header_text bounds workers) ++ more → ⊥

pub no_header_whole : (text : List ℕ) (t : Trace) → HasNoHeader text → IsTrace t → text ≡ trace_text t → ⊥
no_header_whole text t none is whole = none t.bounds t.workers (flat_map step_line t.steps) is.header whole

pub no_header_refused : (text : List ℕ) (number : ℕ) → HasNoHeader text → IsRefused text number → number ≡ 1
no_header_refused text number none r = go r.lines r.begins r.number_is
  where
    go : (lines : Option Trace) → BeginsWithLines text lines r.rest → number ≡ next_line_number lines → number ≡ 1
    go None b e = e
    go (Some t) b e =
        absurd (none t.bounds t.workers (flat_map step_line t.steps ++ r.rest) b.good.header
        (b.whole ∙ append_assoc (whole_line (header_text t.bounds t.workers)) (flat_map step_line t.steps) r.rest))

-- the lines so far, and one more
pub whole_header : (text line rest : List ℕ) (bounds : Extent) (workers : ℕ) → text ≡ whole_line line ++ rest → line ≡ header_text bounds workers
    → text ≡ trace_text (trace_of bounds workers []) ++ rest
whole_header text line rest bounds workers whole is =
    whole ∙ (ap (λ (x : List ℕ). whole_line x ++ rest) is ∙ ap (λ (x : List ℕ). x ++ rest) (sym (append-nil (whole_line (header_text bounds workers)))))

pub whole_step : (text left line more : List ℕ) (t : Trace) (s : Step) → text ≡ trace_text t ++ left → left ≡ whole_line line ++ more → line ≡ step_text s
    → text ≡ trace_text (with_step t s) ++ more
whole_step text left line more t s whole cut is =
    whole ∙ (ap (λ (x : List ℕ). trace_text t ++ x) cut ∙ (ap (λ (x : List ℕ). trace_text t ++ (whole_line x ++ more)) is
    ∙ (sym (append_assoc (trace_text t) (step_line s) more) ∙ ap (λ (x : List ℕ). x ++ more) (sym (trace_text-more t s)))))

pub nil_of : (xs : List ℕ) → length xs ≡ 0 → xs ≡ []
nil_of [] e = refl
nil_of (x ∷ xs) e = absurd (omega arith)
