-- What stands in the bytes of a log or of a kernel's trace: their lines, and of a log the first bad
-- one.
use Rattle.std.specs.Prelude.{ℕ, ◌≡◌, ◌≢◌, ◌⊎◌, List, [], ◌∷◌, ◌++◌, Option, Some, None}
use Rattle.std.specs.List.{AllByRecursion}
use Rattle.iova_text.specs.Lines.{HasNoLf, whole_line, IsOverlong, BeginsOdd}
use Rattle.iova_check.specs.declared.event.Event.{Event}
use Rattle.iova_check.specs.declared.event.Event.TheVariants.{Other}
use Rattle.iova_check.specs.declared.event.OtherLine.TheVariants.{Plain}
use Rattle.iova_check.specs.declared.allowed.LogBounds.{LogBounds}
use Rattle.iova_check.specs.AllowedBounds.{AllowedBounds, bounds_asked}
use Rattle.iova_check.specs.declared.source.Form.{Form}
use Rattle.iova_check.specs.declared.source.Form.TheVariants as form
use Rattle.iova_check.specs.declared.source.Source.{Source}
use Rattle.iova_check.specs.Trace.{event_said}
use Rattle.iova_range.specs.declared.limits.TheConstants.{WIDE_TOP}
use Rattle.iova_check.specs.Text.{header_text, event_text, IsHeader, IsEvent}
use Rattle.iova_check.specs.History.{next_line}

-- lines: the frames that may be mapped, what each line says, the newest one first, and their bytes
pub record LogLines : Type 0 where
  pub bounds : AllowedBounds
  pub past : List Event
  pub text : List ℕ

-- a line for each, the newest one last
abbrev pub events_text : List Event → List ℕ
events_text [] = []
events_text (e ∷ past) = events_text past ++ whole_line (event_text e)

-- The lines are a log: a header, which says nothing of frames or flushes, and a line for each
-- event.
pub record IsLog (asked : LogBounds) (l : LogLines) : Type 0 where
  pub first : ℕ
  pub last : ℕ
  pub events : List Event
  pub header : IsHeader first last
  pub good : AllByRecursion IsEvent events
  pub under : l.bounds ≡ bounds_asked asked first last
  pub say : l.past ≡ events ++ Other Plain ∷ []
  pub are : l.text ≡ whole_line (header_text first last) ++ events_text events

-- the bytes are lines, each of which says its event
abbrev pub AreSaid : Option ℕ → List Event → List ℕ → Type 0
AreSaid domain [] text = text ≡ []
AreSaid domain (e ∷ past) text =
    (before : List ℕ) × (line : List ℕ) × AreSaid domain past before × HasNoLf line
    × (e ≡ event_said domain line) × (text ≡ before ++ whole_line line)

-- The lines are a kernel's trace, in which any frame up to the greatest may be mapped where
-- nothing else is asked for.
pub record IsTrace (asked : LogBounds) (domain : Option ℕ) (l : LogLines) : Type 0 where
  pub under : l.bounds ≡ bounds_asked asked 0 WIDE_TOP
  pub say : AreSaid domain l.past l.text

abbrev pub AreLinesOf : Form → LogBounds → LogLines → Type 0
AreLinesOf form.Log asked l = IsLog asked l
AreLinesOf (form.Trace domain) asked l = IsTrace asked domain l

abbrev pub AreLines : Source → LogLines → Type 0
AreLines source l = AreLinesOf source.form source.asked l

-- a log is read
abbrev pub IsOfLog : Form → Type 0
IsOfLog form.Log = Unit {0}
IsOfLog (form.Trace domain) = ⊥

-- The good lines at the front of some bytes: none, or some.

abbrev pub AreFirstLines : Source → Option LogLines → Type 0
AreFirstLines source None = Unit {0}
AreFirstLines source (Some l) = AreLines source l

abbrev pub first_lines_text : Option LogLines → List ℕ
first_lines_text None = []
first_lines_text (Some l) = l.text

-- the number of the line after these lines
abbrev pub next_line_number : Option LogLines → ℕ
next_line_number None = 1
next_line_number (Some l) = next_line l.past

-- this line, which is without its LF, may stand after them in a log
abbrev pub MayFollow : Option LogLines → List ℕ → Type 0
MayFollow None line =
    (first : ℕ) × (last : ℕ) × IsHeader first last × (line ≡ header_text first last)
MayFollow (Some l) line = (e : Event) × IsEvent e × (line ≡ event_text e)

-- the bytes are these lines and a rest
pub record BeginsWithLines (source : Source) (bytes : List ℕ) (lines : Option LogLines)
    (rest : List ℕ) : Type 0 where
  pub good : AreFirstLines source lines
  pub whole : bytes ≡ first_lines_text lines ++ rest

-- The first bad line

-- the rest begins with a line that may not stand there
abbrev pub IsOther : Option LogLines → List ℕ → Type 0
IsOther lines rest = BeginsOdd (λ line. ¬ MayFollow lines line) rest

-- the rest begins with a line that may not stand there, or with one that is too long
abbrev pub IsBad : Option LogLines → List ℕ → Type 0
IsBad lines rest = IsOther lines rest ⊎ IsOverlong rest

-- where the bytes of a log end here, they end in a line without its LF, or have no header
abbrev pub IsCutOff : Option LogLines → List ℕ → Type 0
IsCutOff None rest = HasNoLf rest
IsCutOff (Some l) rest = HasNoLf rest × (rest ≢ [])
