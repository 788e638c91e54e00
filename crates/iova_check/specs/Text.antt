-- The text of a log: a line for its header, and one for each event. All of it is ASCII, a line ends
-- by LF, and the words of a line have one space between them.
use Rattle.std.specs.Prelude.{ℕ, ◌<◌, ◌≤◌, ◌^◌, Bool, true, false, List, [], ◌∷◌, Option, Some, None, decimal, codes}
use Rattle.iova_range.specs.Frames.{Frames}
use Rattle.iova_range.specs.declared.limits.TheConstants.{WIDE_TOP}
use Rattle.iova_text.specs.Words.{line_text}
use Rattle.iova_check.specs.declared.event.Event.{Event}
use Rattle.iova_check.specs.declared.event.Event.TheVariants as event
use Rattle.iova_check.specs.History.{IsRange, IsScope}
use Rattle.iova_check.specs.declared.line.LogVerb.{LogVerb}
use Rattle.iova_check.specs.declared.line.LogVerb.TheVariants as verb

abbrev pub verb_text : LogVerb → List ℕ
verb_text verb.Map = codes "map"
verb_text verb.Unmap = codes "unmap"
verb_text verb.Use = codes "use"
verb_text verb.Begin = codes "begin"
verb_text verb.End = codes "end"

-- the first word of an event's line, where a line of a log may say it
abbrev pub verb_of : Event → Option LogVerb
verb_of (event.Map r) = Some verb.Map
verb_of (event.Unmap r) = Some verb.Unmap
verb_of (event.Use r) = Some verb.Use
verb_of (event.Begin number range) = Some verb.Begin
verb_of (event.End number ok) = Some verb.End
verb_of (event.Flush range) = None
verb_of (event.Other what) = None

abbrev pub word_of : Option LogVerb → List ℕ
word_of None = []
word_of (Some v) = verb_text v

abbrev pub outcome_text : Bool → List ℕ
outcome_text true = codes "ok"
outcome_text false = codes "fail"

-- the first frame, and how many there are
abbrev pub range_words : Frames → List (List ℕ)
range_words r = decimal r.lo ∷ decimal r.len ∷ []

-- nothing for every frame
abbrev pub scope_words : Option Frames → List (List ℕ)
scope_words None = []
scope_words (Some r) = range_words r

abbrev pub arguments_of : Event → List (List ℕ)
arguments_of (event.Map r) = range_words r
arguments_of (event.Unmap r) = range_words r
arguments_of (event.Use r) = range_words r
arguments_of (event.Begin number range) = decimal number ∷ scope_words range
arguments_of (event.End number ok) = decimal number ∷ outcome_text ok ∷ []
arguments_of (event.Flush range) = []
arguments_of (event.Other what) = []

-- an event's line without its LF
abbrev pub event_text : Event → List ℕ
event_text e = line_text (word_of (verb_of e)) (arguments_of e)

-- an event that a line of a log may say
abbrev pub IsEvent : Event → Type 0
IsEvent (event.Map r) = IsRange r
IsEvent (event.Unmap r) = IsRange r
IsEvent (event.Use r) = IsRange r
IsEvent (event.Begin number range) = (number < 2 ^ 64) × IsScope range
IsEvent (event.End number ok) = number < 2 ^ 64
IsEvent (event.Flush range) = ⊥
IsEvent (event.Other what) = ⊥

-- The header

-- the version, and the first and the last frame that may be mapped
abbrev pub header_words : ℕ → ℕ → List (List ℕ)
header_words first last = decimal 1 ∷ decimal first ∷ decimal last ∷ []

-- the header's line without its LF
abbrev pub header_text : ℕ → ℕ → List ℕ
header_text first last = line_text (codes "iovalog") (header_words first last)

-- frame 0 is never given out, there is a frame, and none is above the greatest
pub record IsHeader (first last : ℕ) : Type 0 where
  pub above_zero : 1 ≤ first
  pub in_order : first ≤ last
  pub below_top : last ≤ WIDE_TOP
