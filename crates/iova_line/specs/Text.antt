-- The text of a trace: a line for its header, and one for each step. All of it is ASCII, a line
-- ends by LF, and the words of a line have one space between them.
use Rattle.std.specs.Prelude.{ℕ, ◌<◌, ◌≤◌, ◌^◌, ◌==◌, Bool, true, false, List, [], ◌∷◌, codes, decimal, if◌then◌else◌}
use Rattle.iova_range.specs.Bounds.{Extent, IsExtent, first_profile}
use Rattle.iova_text.specs.Words.{line_text, numbers_line, kind_text}
use Rattle.iova_range.specs.declared.limits.TheConstants.{MAX_WORKERS}
use Rattle.iova_model.specs.declared.step.Step.{Step}
use Rattle.iova_model.specs.declared.step.Step.TheVariants as step
use Rattle.iova_line.specs.declared.line.Verb.{Verb}
use Rattle.iova_line.specs.declared.line.Verb.TheVariants as verb

-- Steps

abbrev pub verb_text : Verb → List ℕ
verb_text verb.Reserve = codes "reserve"
verb_text verb.Open = codes "open"
verb_text verb.Alloc = codes "alloc"
verb_text verb.Unmap = codes "unmap"
verb_text verb.Begin = codes "begin"
verb_text verb.End = codes "end"
verb_text verb.Drain = codes "drain"
verb_text verb.Close = codes "close"
verb_text verb.CloseOne = codes "closeone"

abbrev pub verb_of : Step → Verb
verb_of (step.Reserve lo hi) = verb.Reserve
verb_of (step.Open worker sac) = verb.Open
verb_of (step.Alloc worker client frames limit) = verb.Alloc
verb_of (step.Unmap worker client lo) = verb.Unmap
verb_of step.Begin = verb.Begin
verb_of (step.End number ok) = verb.End
verb_of (step.Drain ring by) = verb.Drain
verb_of (step.Close worker client) = verb.Close
verb_of (step.CloseOne worker client) = verb.CloseOne

abbrev pub outcome_text : Bool → List ℕ
outcome_text true = codes "ok"
outcome_text false = codes "fail"

abbrev pub arguments_of : Step → List (List ℕ)
arguments_of (step.Reserve lo hi) = decimal lo ∷ decimal hi ∷ []
arguments_of (step.Open worker sac) = decimal worker ∷ kind_text sac ∷ []
arguments_of (step.Alloc worker client frames limit) =
    decimal worker ∷ decimal client ∷ decimal frames ∷ decimal limit ∷ []
arguments_of (step.Unmap worker client lo) = decimal worker ∷ decimal client ∷ decimal lo ∷ []
arguments_of step.Begin = []
arguments_of (step.End number ok) = decimal number ∷ outcome_text ok ∷ []
arguments_of (step.Drain ring by) = decimal ring ∷ decimal by ∷ []
arguments_of (step.Close worker client) = decimal worker ∷ decimal client ∷ []
arguments_of (step.CloseOne worker client) = decimal worker ∷ decimal client ∷ []

-- a step's line without its LF
abbrev pub step_text : Step → List ℕ
step_text s = line_text (verb_text (verb_of s)) (arguments_of s)

-- its numbers are those of 64 bits
abbrev pub NumbersFit : Step → Type 0
NumbersFit (step.Reserve lo hi) = (lo < 2 ^ 64) × (hi < 2 ^ 64)
NumbersFit (step.Open worker sac) = worker < 2 ^ 64
NumbersFit (step.Alloc worker client frames limit) =
    (worker < 2 ^ 64) × (client < 2 ^ 64) × (frames < 2 ^ 64) × (limit < 2 ^ 64)
NumbersFit (step.Unmap worker client lo) = (worker < 2 ^ 64) × (client < 2 ^ 64) × (lo < 2 ^ 64)
NumbersFit step.Begin = Unit {0}
NumbersFit (step.End number ok) = number < 2 ^ 64
NumbersFit (step.Drain ring by) = (ring < 2 ^ 64) × (by < 2 ^ 64)
NumbersFit (step.Close worker client) = (worker < 2 ^ 64) × (client < 2 ^ 64)
NumbersFit (step.CloseOne worker client) = (worker < 2 ^ 64) × (client < 2 ^ 64)

-- The header

-- the version, the bounds, the worker count, and in the second version the depot's limit: version 1
-- is the first profile
abbrev pub header_numbers : Extent → ℕ → List ℕ
header_numbers bounds workers =
    if bounds.profile.mag == first_profile.mag
    then 1 ∷ bounds.start ∷ bounds.last ∷ workers ∷ []
    else 2 ∷ bounds.start ∷ bounds.last ∷ workers ∷ bounds.profile.depot ∷ []

-- the header's line without its LF
abbrev pub header_text : Extent → ℕ → List ℕ
header_text bounds workers = numbers_line (codes "iovatrace") (header_numbers bounds workers)

-- the header's words after its version, in the first version and in the second
abbrev pub first_words : Extent → ℕ → List (List ℕ)
first_words bounds workers = decimal bounds.start ∷ decimal bounds.last ∷ decimal workers ∷ []

abbrev pub second_words : Extent → ℕ → List (List ℕ)
second_words bounds workers =
    decimal bounds.start ∷ decimal bounds.last ∷ decimal workers ∷ decimal bounds.profile.depot ∷ []

-- good bounds, and a worker count that a domain can have
pub record IsHeader (bounds : Extent) (workers : ℕ) : Type 0 where
  pub extent : IsExtent bounds
  pub some : 1 ≤ workers
  pub most : workers ≤ MAX_WORKERS
