-- The text of answers.
use Rattle.std.specs.Prelude.{ℕ, List, [], ◌∷◌, ◌++◌, length, codes, decimal, flat_map}
use Rattle.iova_range.specs.Frames.{Frames}
use Rattle.iova_range.specs.declared.stat.Stat.{Stat}
use Rattle.iova_text.specs.Lines.{whole_line}
use Rattle.iova_text.specs.Words.{line_text, numbers_line, refusal_line}
use Rattle.iova_proto.specs.declared.answer.Answer.{Answer}
use Rattle.iova_proto.specs.declared.answer.Answer.TheVariants as answer

abbrev pub stat_numbers : Stat → List ℕ
stat_numbers s =
    s.free ∷ s.reserved ∷ s.client ∷ s.magazine ∷ s.depot ∷ s.ring ∷ s.start ∷ s.finish ∷ []

-- the first line of an answer's text, with its LF
abbrev pub first_line : Answer → List ℕ
first_line (answer.Opened serial) = whole_line (numbers_line (codes "opened") (serial ∷ []))
first_line (answer.Given r) = whole_line (numbers_line (codes "given") (r.lo ∷ r.len ∷ []))
first_line (answer.Queued r) = whole_line (numbers_line (codes "queued") (r.lo ∷ r.len ∷ []))
first_line (answer.Freed r) = whole_line (numbers_line (codes "freed") (r.lo ∷ r.len ∷ []))
first_line (answer.Held ranges) = whole_line (numbers_line (codes "held") (length ranges ∷ []))
first_line (answer.Flushed number freed) =
    whole_line (numbers_line (codes "flushed") (number ∷ freed ∷ []))
first_line (answer.Stat stat) = whole_line (numbers_line (codes "stat") (stat_numbers stat))
first_line answer.Bye = whole_line (codes "bye")
first_line (answer.Refused r) = whole_line (refusal_line r)

-- the ranges that have a line of their own after it
abbrev pub listed_ranges : Answer → List Frames
listed_ranges (answer.Opened serial) = []
listed_ranges (answer.Given r) = []
listed_ranges (answer.Queued r) = []
listed_ranges (answer.Freed r) = []
listed_ranges (answer.Held ranges) = ranges
listed_ranges (answer.Flushed number freed) = []
listed_ranges (answer.Stat stat) = []
listed_ranges answer.Bye = []
listed_ranges (answer.Refused r) = []

abbrev pub range_line : Frames → List ℕ
range_line r = whole_line (line_text (decimal r.lo) (decimal r.len ∷ []))

-- an answer's text
abbrev pub answer_text : Answer → List ℕ
answer_text a = first_line a ++ flat_map range_line (listed_ranges a)
