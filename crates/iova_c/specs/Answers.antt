-- What C is answered, of each reply.
use Rattle.std.specs.Prelude.{ℕ, ◌*◌, ◌^◌, ◌<◌, ◌==◌, if◌then◌else◌}
use Rattle.iova_model.specs.declared.step.Reply.{Reply}
use Rattle.iova_model.specs.declared.step.Reply.TheVariants as reply
use Rattle.iova_range.specs.Refusals.{refusal_number}
use Rattle.iova_range.specs.Frames.{Frames}
use Rattle.iova_c.specs.declared.answer.RangeAnswer.{RangeAnswer}
use Rattle.iova_c.specs.declared.answer.PackedAnswer.{PackedAnswer}
use Rattle.iova_c.specs.declared.answer.NumberAnswer.{NumberAnswer}
use Rattle.iova_c.specs.declared.answer.MappingAnswer.{MappingAnswer}

-- the range of a reply, empty where it has none
abbrev pub range_answer : Reply → RangeAnswer
range_answer (reply.Reserved range) = record { refused = 0; lo = range.lo; len = range.len }
range_answer (reply.Given range) = record { refused = 0; lo = range.lo; len = range.len }
range_answer (reply.Queued range) = record { refused = 0; lo = range.lo; len = range.len }
range_answer (reply.Refused refusal) = record { refused = refusal_number refusal; lo = 0; len = 0 }
range_answer (reply.Opened number) = record { refused = 0; lo = 0; len = 0 }
range_answer reply.Empty = record { refused = 0; lo = 0; len = 0 }
range_answer (reply.Begun number) = record { refused = 0; lo = 0; len = 0 }
range_answer reply.Ended = record { refused = 0; lo = 0; len = 0 }
range_answer (reply.Drained number) = record { refused = 0; lo = 0; len = 0 }
range_answer (reply.Marked number) = record { refused = 0; lo = 0; len = 0 }

-- the answer of a range that comes in two registers: a length of 0 has a refusal's number before it
abbrev pub unpacked : PackedAnswer → RangeAnswer
unpacked packed =
    if packed.len == 0 then record { refused = packed.lo; lo = 0; len = 0 }
    else record { refused = 0; lo = packed.lo; len = packed.len }

-- the number of a reply, 0 where it has none
abbrev pub number_answer : Reply → NumberAnswer
number_answer (reply.Opened number) = record { refused = 0; number = number }
number_answer (reply.Begun number) = record { refused = 0; number = number }
number_answer (reply.Drained number) = record { refused = 0; number = number }
number_answer (reply.Marked number) = record { refused = 0; number = number }
number_answer (reply.Refused refusal) = record { refused = refusal_number refusal; number = 0 }
number_answer (reply.Reserved range) = record { refused = 0; number = 0 }
number_answer (reply.Given range) = record { refused = 0; number = 0 }
number_answer (reply.Queued range) = record { refused = 0; number = 0 }
number_answer reply.Empty = record { refused = 0; number = 0 }
number_answer reply.Ended = record { refused = 0; number = 0 }

-- 0, or the number of the refusal
abbrev pub word_answer : Reply → ℕ
word_answer (reply.Refused refusal) = refusal_number refusal
word_answer (reply.Reserved range) = 0
word_answer (reply.Opened number) = 0
word_answer (reply.Given range) = 0
word_answer (reply.Queued range) = 0
word_answer reply.Empty = 0
word_answer (reply.Begun number) = 0
word_answer reply.Ended = 0
word_answer (reply.Drained number) = 0
word_answer (reply.Marked number) = 0

-- the addresses of a range, in bytes, of which a frame has so many
abbrev pub mapping_of : ℕ → Frames → MappingAnswer
mapping_of granule range =
    record { refused = 0; address = range.lo * granule; bytes = range.len * granule }

-- the range of a reply to `Alloc` or `Unmap`, in bytes
abbrev pub mapping_answer : ℕ → Reply → MappingAnswer
mapping_answer granule (reply.Given range) = mapping_of granule range
mapping_answer granule (reply.Queued range) = mapping_of granule range
mapping_answer granule (reply.Refused refusal) =
    record { refused = refusal_number refusal; address = 0; bytes = 0 }
mapping_answer granule (reply.Reserved range) = record { refused = 0; address = 0; bytes = 0 }
mapping_answer granule (reply.Opened number) = record { refused = 0; address = 0; bytes = 0 }
mapping_answer granule reply.Empty = record { refused = 0; address = 0; bytes = 0 }
mapping_answer granule (reply.Begun number) = record { refused = 0; address = 0; bytes = 0 }
mapping_answer granule reply.Ended = record { refused = 0; address = 0; bytes = 0 }
mapping_answer granule (reply.Drained number) = record { refused = 0; address = 0; bytes = 0 }
mapping_answer granule (reply.Marked number) = record { refused = 0; address = 0; bytes = 0 }

-- the range's first address and its length in bytes are below 2^64
abbrev pub FitsInBytes : ℕ → Frames → Type 0
FitsInBytes granule range = (range.lo * granule < 2 ^ 64) × (range.len * granule < 2 ^ 64)

abbrev pub HasAddresses : ℕ → Reply → Type 0
HasAddresses granule (reply.Given range) = FitsInBytes granule range
HasAddresses granule (reply.Queued range) = FitsInBytes granule range
HasAddresses granule (reply.Refused refusal) = Unit {0}
HasAddresses granule (reply.Reserved range) = Unit {0}
HasAddresses granule (reply.Opened number) = Unit {0}
HasAddresses granule reply.Empty = Unit {0}
HasAddresses granule (reply.Begun number) = Unit {0}
HasAddresses granule reply.Ended = Unit {0}
HasAddresses granule (reply.Drained number) = Unit {0}
HasAddresses granule (reply.Marked number) = Unit {0}
