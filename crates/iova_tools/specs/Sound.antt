-- What the end of a check without a fault says of the text that was read.
use Rattle.std.specs.Prelude.{ℕ, ◌≡◌, ◌≢◌, Bool, true, false, List, [], Option, Some, None}
use Rattle.std.specs.Borrow.{Bor}
use Rattle.std.specs.Io.KnownBytes.{Consumes, IsAtEnd}
use Rattle.iova_range.specs.Frames.{Frames}
use Rattle.iova_range.specs.Bounds.{second_profile}
use Rattle.iova_range.specs.declared.limits.TheConstants.{MAX_DEPOT, WIDE_TOP}
use Rattle.iova_check.specs.declared.source.Form.{Form}
use Rattle.iova_check.specs.declared.source.Form.TheVariants as form
use Rattle.iova_check.specs.declared.source.Source.{Source}
use Rattle.iova_check.specs.Counting.{count_lines, is_lost, is_map, is_too_long}
use Rattle.iova_check.specs.Findings.{told_outside}
use Rattle.iova_check.specs.Logs.{AreLines, LogLines}
use Rattle.iova_check.specs.Promise.{IsKeptAt, IsLine, maps}
use Rattle.iova_check.specs.Runs.{AreRead}
use Rattle.iova_command.specs.declared.check_plan.CheckPlan.{CheckPlan}
use Rattle.iova_regions.specs.Regions.{IsReadWell}
use Rattle.iova_regions.specs.declared.region.Counted.TheVariants as counted

-- Some line maps frames. Each frame of such a line may be mapped, and the promise is kept for it
-- there. No line says that events were lost, and none was too long to be read.
pub record IsSound (l : LogLines) : Type 0 where
  pub kept : (f n : ℕ) → IsLine (maps f) l.past n → IsKeptAt l.past f n
  pub within : (f n : ℕ) → IsLine (maps f) l.past n → told_outside l.bounds f ≡ None
  pub some : count_lines is_map l.past ≢ 0
  pub none_lost : count_lines is_lost l.past ≡ 0
  pub none_too_long : count_lines is_too_long l.past ≡ 0

-- The reader's bytes were taken to their end. They are the lines of a log, one for each event; or
-- those of a kernel's trace, whose last line may be without its LF. Of a trace a line is the event
-- that it says: what says nothing of frames or flushes is passed over, and an invalidation that was
-- submitted stands for a flush that begins and ends well there.
pub record ReadsSound (source : Source) (input left : Option (List ℕ)) : Type 0 where
  pub lines : LogLines
  pub taken : List ℕ
  pub takes : Consumes input left taken
  pub end : IsAtEnd left
  pub reads : AreRead source.form taken left lines.text
  pub are : AreLines source lines
  pub sound : IsSound lines

-- a kernel's trace, of which the flushes of this domain count, or a log
abbrev pub form_of : Bool → Option ℕ → Form
form_of true domain = form.Trace domain
form_of false domain = form.Log

-- what the plan asks for, and these windows
pub record IsAskedBy (plan : CheckPlan) (windows : List Frames) (source : Source) : Type 0 where
  pub form : source.form ≡ form_of plan.ftrace plan.did
  pub first : source.asked.first ≡ plan.first
  pub last : source.asked.last ≡ plan.last
  pub kept_out : source.asked.windows.now ≡ windows

-- a text was read to its end as the plan asks for it, and is sound
pub record ChecksSound (plan : CheckPlan) (windows : List Frames)
    (input left : Option (List ℕ)) : Type 0 where
  pub source : Source
  pub asked : IsAskedBy plan windows source
  pub reads : ReadsSound source input left

-- The windows of a check: none where no file of reserved regions is named, else those of all its
-- regions that a kernel doesn't map itself.
abbrev pub AreKeptOut : Option (Bor (List ℕ)) → List Frames → Type 0
AreKeptOut None windows = windows ≡ []
AreKeptOut (Some path) windows =
    (text : List ℕ) × IsReadWell counted.NotDirect
    (record { start = 1; last = WIDE_TOP; profile = second_profile MAX_DEPOT }) text [] windows
