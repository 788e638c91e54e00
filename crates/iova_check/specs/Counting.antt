-- What is counted of a log.
use Rattle.std.specs.Prelude.{ℕ, zero, suc, ◌≡◌, ◌+◌, ◌-◌, ◌^◌, Bool, true, false, List, [], ◌∷◌, Option, is_some, if◌then◌else◌}
use Rattle.iova_check.specs.declared.event.Event.{Event}
use Rattle.iova_check.specs.declared.event.Event.TheVariants as event
use Rattle.iova_check.specs.declared.event.OtherLine.{OtherLine}
use Rattle.iova_check.specs.declared.event.OtherLine.TheVariants as other
use Rattle.iova_check.specs.declared.finding.Finding.{Finding}
use Rattle.iova_check.specs.declared.finding.Kind.{Kind}
use Rattle.iova_check.specs.declared.stage.Stage.{Stage}
use Rattle.iova_check.specs.Findings.{since_of}
use Rattle.iova_check.specs.declared.counts.LogCounts.{LogCounts}

-- the line says that events were lost
abbrev pub tells_lost : OtherLine → Bool
tells_lost other.Plain = false
tells_lost other.Lost = true
tells_lost other.TooLong = false

-- the line is too long to be read
abbrev pub is_long : OtherLine → Bool
is_long other.Plain = false
is_long other.Lost = false
is_long other.TooLong = true

-- the counts with a line more, which has so many findings
abbrev pub counts_after : LogCounts → Event → ℕ → LogCounts
counts_after c (event.Map r) found =
    record {
      maps = c.maps + 1;
      unmaps = c.unmaps;
      flushes = c.flushes;
      uses = c.uses;
      others = c.others;
      lost = c.lost;
      too_long = c.too_long;
      findings = c.findings + found;
    }
counts_after c (event.Unmap r) found =
    record {
      maps = c.maps;
      unmaps = c.unmaps + 1;
      flushes = c.flushes;
      uses = c.uses;
      others = c.others;
      lost = c.lost;
      too_long = c.too_long;
      findings = c.findings + found;
    }
counts_after c (event.Use r) found =
    record {
      maps = c.maps;
      unmaps = c.unmaps;
      flushes = c.flushes;
      uses = c.uses + 1;
      others = c.others;
      lost = c.lost;
      too_long = c.too_long;
      findings = c.findings + found;
    }
counts_after c (event.Begin number range) found =
    record {
      maps = c.maps;
      unmaps = c.unmaps;
      flushes = c.flushes + 1;
      uses = c.uses;
      others = c.others;
      lost = c.lost;
      too_long = c.too_long;
      findings = c.findings + found;
    }
counts_after c (event.End number ok) found =
    record {
      maps = c.maps;
      unmaps = c.unmaps;
      flushes = c.flushes;
      uses = c.uses;
      others = c.others;
      lost = c.lost;
      too_long = c.too_long;
      findings = c.findings + found;
    }
counts_after c (event.Flush range) found =
    record {
      maps = c.maps;
      unmaps = c.unmaps;
      flushes = c.flushes + 1;
      uses = c.uses;
      others = c.others;
      lost = c.lost;
      too_long = c.too_long;
      findings = c.findings + found;
    }
counts_after c (event.Other what) found =
    record {
      maps = c.maps;
      unmaps = c.unmaps;
      flushes = c.flushes;
      uses = c.uses;
      others = c.others + 1;
      lost = c.lost + (if tells_lost what then 1 else 0);
      too_long = c.too_long + (if is_long what then 1 else 0);
      findings = c.findings + found;
    }

abbrev pub is_map : Event → Bool
is_map (event.Map r) = true
is_map (event.Unmap r) = false
is_map (event.Use r) = false
is_map (event.Begin number range) = false
is_map (event.End number ok) = false
is_map (event.Flush range) = false
is_map (event.Other what) = false

abbrev pub is_unmap : Event → Bool
is_unmap (event.Map r) = false
is_unmap (event.Unmap r) = true
is_unmap (event.Use r) = false
is_unmap (event.Begin number range) = false
is_unmap (event.End number ok) = false
is_unmap (event.Flush range) = false
is_unmap (event.Other what) = false

abbrev pub is_use : Event → Bool
is_use (event.Map r) = false
is_use (event.Unmap r) = false
is_use (event.Use r) = true
is_use (event.Begin number range) = false
is_use (event.End number ok) = false
is_use (event.Flush range) = false
is_use (event.Other what) = false

-- a flush begins at it
abbrev pub is_flush : Event → Bool
is_flush (event.Map r) = false
is_flush (event.Unmap r) = false
is_flush (event.Use r) = false
is_flush (event.Begin number range) = true
is_flush (event.End number ok) = false
is_flush (event.Flush range) = true
is_flush (event.Other what) = false

abbrev pub is_other : Event → Bool
is_other (event.Map r) = false
is_other (event.Unmap r) = false
is_other (event.Use r) = false
is_other (event.Begin number range) = false
is_other (event.End number ok) = false
is_other (event.Flush range) = false
is_other (event.Other what) = true

-- the line says that events were lost
abbrev pub is_lost : Event → Bool
is_lost (event.Map r) = false
is_lost (event.Unmap r) = false
is_lost (event.Use r) = false
is_lost (event.Begin number range) = false
is_lost (event.End number ok) = false
is_lost (event.Flush range) = false
is_lost (event.Other what) = tells_lost what

-- the line was too long to be read
abbrev pub is_too_long : Event → Bool
is_too_long (event.Map r) = false
is_too_long (event.Unmap r) = false
is_too_long (event.Use r) = false
is_too_long (event.Begin number range) = false
is_too_long (event.End number ok) = false
is_too_long (event.Flush range) = false
is_too_long (event.Other what) = is_long what

-- how many lines pass
abbrev pub count_lines : (Event → Bool) → List Event → ℕ
count_lines passes [] = 0
count_lines passes (e ∷ past) = (if passes e then 1 else 0) + count_lines passes past

-- the lines of each kind among these, and as many findings
pub record IsCounted (past : List Event) (found : ℕ) (c : LogCounts) : Type 0 where
  pub maps : c.maps ≡ count_lines is_map past
  pub unmaps : c.unmaps ≡ count_lines is_unmap past
  pub flushes : c.flushes ≡ count_lines is_flush past
  pub uses : c.uses ≡ count_lines is_use past
  pub others : c.others ≡ count_lines is_other past
  pub lost : c.lost ≡ count_lines is_lost past
  pub too_long : c.too_long ≡ count_lines is_too_long past
  pub findings : c.findings ≡ found

-- how many of three there are
abbrev pub how_many : List (Option Finding) → ℕ
how_many [] = 0
how_many (f ∷ fs) = (if is_some f then 1 else 0) + how_many fs

-- how many numbers below one pass
unfoldable pub count_below : (ℕ → Bool) → ℕ → ℕ
count_below passes zero = 0
count_below passes (suc n) = (if passes n then 1 else 0) + count_below passes n

-- how many frames that a line can name have a finding of this kind, where they are at these stages
abbrev pub frames_told : Kind → (ℕ → Stage) → ℕ
frames_told kind at = count_below (λ f. is_some (since_of kind (at f))) (2 ^ 64 - 1)
