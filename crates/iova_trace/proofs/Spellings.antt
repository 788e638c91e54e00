-- A trace has one spelling, and a spelling one trace, as its steps have.
use Rattle.std.proofs.Common.{ℕ, ◌≡◌, ◌<◌, ◌^◌, inl, inr, List, [], ◌∷◌, length, get_or, map, flat_map, decimal, codes, refl, sym, ap, ◌∙◌, arith}
use Rattle.std.specs.List.{AllByRecursion}
use Rattle.iova_range.specs.Bounds.{Capacities, Extent, IsProfile, second_profile}
use Rattle.iova_text.specs.Reading.{is_not_space}
use Rattle.iova_text.specs.Words.{spaced_words}
use Rattle.iova_text.proofs.Cuts.{run_once, stops-spaced_words}
use Rattle.iova_text.proofs.WordTexts.{same_front}
use Rattle.iova_text.proofs.LineEnds.{cut_once, no_line}
use Rattle.iova_model.specs.declared.step.Step.{Step}
use Rattle.iova_line.specs.declared.trace.Trace.{Trace}
use Rattle.iova_line.specs.LineSteps.{IsStep}
use Rattle.iova_line.specs.Traces.{IsTrace, step_line, trace_text}
use Rattle.iova_line.specs.Text.{step_text, header_numbers, header_text, IsHeader}
use Rattle.iova_line.proofs.StepSpellings.{same_step}
use Rattle.iova_trace.proofs.Headers.{header_numbers-first, header_numbers-second}
use Rattle.iova_trace.proofs.Readings.{header_fits, no_lf_header, no_lf_step}

-- numbers to the end
same_numbers : (ns ms : List ℕ) → AllByRecursion (λ n. n < 2 ^ 64) ns → AllByRecursion (λ n. n < 2 ^ 64) ms
    → spaced_words (map decimal ns) ≡ spaced_words (map decimal ms) → ns ≡ ms
same_numbers [] [] a b e = refl
same_numbers [] (m ∷ ms) a b e = absurd (omega (arith, ap length e))
same_numbers (n ∷ ns) [] a b e = absurd (omega (arith, ap length e))
same_numbers (n ∷ ns) (m ∷ ms) a b e =
    let both = same_front n m (map decimal ns) (map decimal ms) a.0 b.0 e in
    let first : n ≡ m = both.0 in
    let rest : ns ≡ ms = same_numbers ns ms a.1 b.1 both.1 in
    cc

-- the steps of two traces

pub same_steps : (ss ts : List Step) → AllByRecursion IsStep ss → AllByRecursion IsStep ts → flat_map step_line ss ≡ flat_map step_line ts → ss ≡ ts
same_steps [] [] a b e = refl
same_steps [] (t ∷ ts) a b e = absurd (no_line [] (step_text t) (flat_map step_line ts) refl e)
same_steps (s ∷ ss) [] a b e = absurd (no_line [] (step_text s) (flat_map step_line ss) refl (sym e))
same_steps (s ∷ ss) (t ∷ ts) a b e =
    let both = cut_once (step_text s) (flat_map step_line ss) (step_text t) (flat_map step_line ts) (no_lf_step s a.0) (no_lf_step t b.0) e in
    let first : s ≡ t = same_step s t a.0.fits b.0.fits both.0 in
    let rest : ss ≡ ts = same_steps ss ts a.1 b.1 both.1 in
    cc

-- the headers of two traces

same_extent : (b c : Extent) → b.start ≡ c.start → b.last ≡ c.last → b.profile ≡ c.profile → b ≡ c
same_extent b c starts lasts profiles =
    ap (λ (x : ℕ). record { start = x; last = b.last; profile = b.profile }) starts
    ∙ (ap (λ (x : ℕ). record { start = c.start; last = x; profile = b.profile }) lasts
    ∙ ap (λ (x : Capacities). record { start = c.start; last = c.last; profile = x }) profiles)

abbrev head_of : List ℕ → ℕ
head_of ns = get_or ns 0 0

same_numbered : (b c : Extent) (w v : ℕ) → IsProfile b.profile → IsProfile c.profile → header_numbers b w ≡ header_numbers c v → (b ≡ c) × (w ≡ v)
same_numbered b c w v (inl p) (inl q) e =
    let both : 1 ∷ b.start ∷ b.last ∷ w ∷ [] ≡ 1 ∷ c.start ∷ c.last ∷ v ∷ [] = sym (header_numbers-first b w p) ∙ (e ∙ header_numbers-first c v q) in
    let starts : b.start ≡ c.start = ap (λ (x : List ℕ). get_or x 1 0) both in
    let lasts : b.last ≡ c.last = ap (λ (x : List ℕ). get_or x 2 0) both in
    (same_extent b c starts lasts (p ∙ sym q), ap (λ (x : List ℕ). get_or x 3 0) both)
same_numbered b c w v (inl p) (inr q) e =
    let both : 1 ∷ b.start ∷ b.last ∷ w ∷ [] ≡ 2 ∷ c.start ∷ c.last ∷ v ∷ c.profile.depot ∷ [] =
    sym (header_numbers-first b w p) ∙ (e ∙ header_numbers-second c v q.1) in
    absurd (omega (arith, ap head_of both))
same_numbered b c w v (inr p) (inl q) e =
    let both : 2 ∷ b.start ∷ b.last ∷ w ∷ b.profile.depot ∷ [] ≡ 1 ∷ c.start ∷ c.last ∷ v ∷ [] =
    sym (header_numbers-second b w p.1) ∙ (e ∙ header_numbers-first c v q) in
    absurd (omega (arith, ap head_of both))
same_numbered b c w v (inr p) (inr q) e =
    let both : 2 ∷ b.start ∷ b.last ∷ w ∷ b.profile.depot ∷ [] ≡ 2 ∷ c.start ∷ c.last ∷ v ∷ c.profile.depot ∷ [] =
    sym (header_numbers-second b w p.1) ∙ (e ∙ header_numbers-second c v q.1) in
    let starts : b.start ≡ c.start = ap (λ (x : List ℕ). get_or x 1 0) both in
    let lasts : b.last ≡ c.last = ap (λ (x : List ℕ). get_or x 2 0) both in
    let depots : b.profile.depot ≡ c.profile.depot = ap (λ (x : List ℕ). get_or x 4 0) both in
    (same_extent b c starts lasts (p.1 ∙ (ap second_profile depots ∙ sym q.1)), ap (λ (x : List ℕ). get_or x 3 0) both)

pub same_header : (b c : Extent) (w v : ℕ) → IsHeader b w → IsHeader c v → header_text b w ≡ header_text c v → (b ≡ c) × (w ≡ v)
same_header b c w v is good e =
    let cut = run_once is_not_space (codes "iovatrace") (spaced_words (map decimal (header_numbers b w))) (codes "iovatrace") (spaced_words (map decimal (header_numbers c v)))
    refl (stops-spaced_words (map decimal (header_numbers b w))) refl (stops-spaced_words (map decimal (header_numbers c v))) e in
    same_numbered b c w v is.extent.profile good.extent.profile
    (same_numbers (header_numbers b w) (header_numbers c v) (header_fits b w is) (header_fits c v good) cut.1)

pub same_trace : (t u : Trace) → IsTrace t → IsTrace u → trace_text t ≡ trace_text u → t ≡ u
same_trace t u a b e =
    let both = cut_once (header_text t.bounds t.workers) (flat_map step_line t.steps) (header_text u.bounds u.workers) (flat_map step_line u.steps)
    (no_lf_header t.bounds t.workers a.header) (no_lf_header u.bounds u.workers b.header) e in
    let headers = same_header t.bounds u.bounds t.workers u.workers a.header b.header both.0 in
    let steps = same_steps t.steps u.steps a.steps b.steps both.1 in
    ap (λ (x : Extent). record { bounds = x; workers = t.workers; steps = t.steps }) headers.0
    ∙ (ap (λ (x : ℕ). record { bounds = u.bounds; workers = x; steps = t.steps }) headers.1
    ∙ ap (λ (x : List Step). record { bounds = u.bounds; workers = u.workers; steps = x }) steps)
