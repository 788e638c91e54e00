-- The log of a replay: what its steps and their replies say of frames and flushes, in the form that
-- a check of logs reads.
use Rattle.std.specs.Prelude.{ℕ, List, [], ◌∷◌, ◌++◌, flat_map, decimal, codes}
use Rattle.iova_range.specs.Bounds.{Extent}
use Rattle.iova_text.specs.Words.{line_text, numbers_line}
use Rattle.iova_text.specs.Lines.{whole_line}
use Rattle.iova_model.specs.declared.step.Step.{Step}
use Rattle.iova_model.specs.declared.step.Step.TheVariants as step
use Rattle.iova_model.specs.declared.step.Reply.{Reply}
use Rattle.iova_model.specs.declared.step.Reply.TheVariants as reply
use Rattle.iova_model.specs.Transcript.{Pair}
use Rattle.iova_line.specs.Text.{outcome_text}

-- the header's line with its LF: the version, and the first and the last frame
abbrev pub log_header : Extent → List ℕ
log_header bounds =
    whole_line (numbers_line (codes "iovalog") (1 ∷ bounds.start ∷ bounds.last ∷ []))

-- the line of a flush that has ended, by the step that ended it
abbrev pub end_line : Step → List ℕ
end_line (step.End number ok) =
    whole_line (line_text (codes "end") (decimal number ∷ outcome_text ok ∷ []))
end_line (step.Reserve lo hi) = []
end_line (step.Open worker sac) = []
end_line (step.Alloc worker client frames limit) = []
end_line (step.Unmap worker client lo) = []
end_line step.Begin = []
end_line (step.Drain ring by) = []
end_line (step.Close worker client) = []
end_line (step.CloseOne worker client) = []

-- The line of a step with this reply, or nothing. What was given is mapped, and what went into
-- a ring is unmapped, by whichever step; a flush begins and ends by its number.
abbrev pub log_line : Step → Reply → List ℕ
log_line s (reply.Given r) = whole_line (numbers_line (codes "map") (r.lo ∷ r.len ∷ []))
log_line s (reply.Queued r) = whole_line (numbers_line (codes "unmap") (r.lo ∷ r.len ∷ []))
log_line s (reply.Begun number) = whole_line (numbers_line (codes "begin") (number ∷ []))
log_line s reply.Ended = end_line s
log_line s (reply.Reserved r) = []
log_line s (reply.Opened serial) = []
log_line s reply.Empty = []
log_line s (reply.Drained n) = []
log_line s (reply.Marked left) = []
log_line s (reply.Refused r) = []

abbrev pub pair_line : Pair → List ℕ
pair_line p = log_line p.step p.reply

-- the header's line, and the lines of the steps with their replies
abbrev pub log_text : Extent → List Pair → List ℕ
log_text bounds pairs = log_header bounds ++ flat_map pair_line pairs
