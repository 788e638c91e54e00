-- What was recorded, as a trace, and what its replay writes.
use Rattle.std.specs.Prelude.{ℕ, ◌≡◌, ◌≢◌, List, map, flat_map, ◌≤◌, ◌++◌}
use Rattle.std.specs.List.{AllByRecursion}
use Rattle.iova_range.specs.Bounds.{Extent}
use Rattle.iova_range.specs.declared.refusal.Refusal.TheVariants as refusal
use Rattle.iova_model.specs.declared.step.Reply.{Reply}
use Rattle.iova_model.specs.declared.step.Reply.TheVariants as reply
use Rattle.iova_model.specs.State.{State, new_domain}
use Rattle.iova_model.specs.Transcript.{Pair, IsTranscript, after}
use Rattle.iova_line.specs.Traces.{IsTrace, trace_text}
use Rattle.iova_trace.specs.Replay.{IsDone}
use Rattle.iova_trace.specs.Replies.{reply_text}
use Rattle.iova_range.specs.declared.limits.TheConstants.{MAX_STEPS}
use Rattle.iova_line.specs.Recorded.{trace_of, HasRecorded}

-- no reply tells that memory was refused
abbrev pub HadMemory : List Reply → Type 0
HadMemory replies = AllByRecursion (λ r. r ≢ reply.Refused refusal.NoMemory) replies

-- These are the lines of some replies. Where memory was refused neither when they were stored nor
-- now, they are the stored ones, and the same state is left.
pub record PrintsStored (stored : List Reply) (left : State) (written : List ℕ)
    (state : State) : Type 0 where
  pub replies : List Reply
  pub whole : written ≡ flat_map reply_text replies
  pub alike : HadMemory stored → HadMemory replies → (replies ≡ stored) × (state ≡ left)

-- A replay of the text of a transcript from the new domain that is done to its end.
abbrev pub RecordsReplay : Type 0
RecordsReplay =
    (bounds : Extent) (workers : ℕ) (pairs : List Pair) (written : List ℕ) (state : State)
    (steps : ℕ)
    → IsTranscript (new_domain bounds workers) pairs → IsTrace (trace_of bounds workers pairs)
    → IsDone (trace_text (trace_of bounds workers pairs)) written state steps
    → PrintsStored (map (λ p. p.reply) pairs) (after (new_domain bounds workers) pairs) written
    state

-- A text that was appended so, of no more steps than a trace may have, is replayed to the replies
-- that are stored and the state that they leave, where the replay is done to its end and memory was
-- refused neither then nor now.
abbrev pub TranscriptsReplay : Type 0
TranscriptsReplay =
    (bounds : Extent) (workers n steps : ℕ) (pairs : List Pair) (old new text written : List ℕ)
    (state : State)
    → HasRecorded bounds workers pairs old new n → new ≡ old ++ text → n ≤ MAX_STEPS
    → IsDone text written state steps
    → PrintsStored (map (λ p. p.reply) pairs) (after (new_domain bounds workers) pairs) written
    state
