-- The calls of a sink.
use Rattle.std.specs.Prelude.{ℕ, ◌+◌, Bool, true, false, List, [], ◌∷◌, ◌++◌, Option, Some, None, Result, is_ok, if◌then◌else◌}
use Rattle.std.specs.declared.snapshot.Snapshot.{Snapshot}
use Rattle.iova_range.specs.Frames.{Frames}
use Rattle.iova_sink.specs.declared.sink.SinkFault.{SinkFault}

-- One call: a flush of a domain, and whether it was good; or that a client of a domain is gone,
-- which had these ranges, and what was answered.
pub data Call : Type 0 where
  Invalidation : (domain number : ℕ) → (ok : Bool) → Call
  Gone : (domain client : ℕ) → (ranges : List Frames) → (answer : Result Unit SinkFault) → Call

-- one call more
abbrev pub with_call : List Call → ℕ → ℕ → Bool → List Call
with_call calls domain number ok = calls ++ Invalidation domain number ok ∷ []

abbrev pub with_gone : List Call → ℕ → ℕ → List Frames → Result Unit SinkFault → List Call
with_gone calls domain client ranges answer = calls ++ Gone domain client ranges answer ∷ []

-- the last call, by what is kept of it
abbrev pub last_call : Option (List Frames) → ℕ → ℕ → Bool → Result Unit SinkFault → Call
last_call None domain number ok answer = Invalidation domain number ok
last_call (Some ranges) domain client ok answer = Gone domain client ranges answer

-- the calls that are kept as a snapshot of those before the last
abbrev pub calls_after : Option (Snapshot (List Call)) → Call → List Call
calls_after None last = []
calls_after (Some before) last = before.value ++ last ∷ []

-- 1 for a flush that ended well, else 0
abbrev pub good_in : Call → ℕ
good_in (Invalidation domain number ok) = if ok then 1 else 0
good_in (Gone domain client ranges answer) = 0

-- 1 for a call that failed, else 0
abbrev pub failed_in : Call → ℕ
failed_in (Invalidation domain number ok) = if ok then 0 else 1
failed_in (Gone domain client ranges answer) = if is_ok answer then 0 else 1

-- how many invalidations were good
abbrev pub good_calls : List Call → ℕ
good_calls [] = 0
good_calls (c ∷ cs) = good_in c + good_calls cs

-- how many calls failed
abbrev pub failed_calls : List Call → ℕ
failed_calls [] = 0
failed_calls (c ∷ cs) = failed_in c + failed_calls cs

-- the last invalidation that was good, oldest first, with what is to be answered where none is
abbrev pub last_good_or : Option Call → List Call → Option Call
last_good_or last [] = last
last_good_or last (Invalidation domain number ok ∷ cs) =
    last_good_or (if ok then Some (Invalidation domain number ok) else last) cs
last_good_or last (Gone domain client ranges answer ∷ cs) = last_good_or last cs

abbrev pub last_good : List Call → Option Call
last_good cs = last_good_or None cs

-- whether the last invalidation failed, with what is to be answered where there was none
abbrev pub last_failed_or : Bool → List Call → Bool
last_failed_or before [] = before
last_failed_or before (Invalidation domain number ok ∷ cs) =
    last_failed_or (if ok then false else true) cs
last_failed_or before (Gone domain client ranges answer ∷ cs) = last_failed_or before cs

abbrev pub is_last_failed : List Call → Bool
is_last_failed cs = last_failed_or false cs
