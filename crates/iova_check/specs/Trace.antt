-- The text of a kernel's trace: what a line of it says, by its last seven words.
use Rattle.std.specs.Prelude.{ℕ, ◌+◌, ◌-◌, ◌*◌, ◌/◌, ◌%◌, ◌^◌, ◌==◌, ◌&&◌, ◌||◌, Bool, false, not, nat_lt, nat_le, List, [], ◌∷◌, length, take, drop, Option, Some, None, is_some, if◌then◌else◌, codes}
use Rattle.std.specs.Char.{is_ascii_digit}
use Rattle.std.specs.List.{list_all}
use Rattle.std.specs.Str.{bytes_eq}
use Rattle.iova_range.specs.Frames.{Frames}
use Rattle.iova_range.specs.declared.limits.TheConstants.{FRAME_BYTES, MAX_TRACE_LINE}
use Rattle.iova_check.specs.declared.event.Event.{Event}
use Rattle.iova_check.specs.declared.event.Event.TheVariants as event
use Rattle.iova_check.specs.declared.event.OtherLine.TheVariants as other

-- Words

-- the bytes before the first blank
abbrev pub word_at_front : List ℕ → List ℕ
word_at_front [] = []
word_at_front (b ∷ bytes) = if b == 32 then [] else b ∷ word_at_front bytes

-- the bytes from the first blank on
abbrev pub from_blank : List ℕ → List ℕ
from_blank [] = []
from_blank (b ∷ bytes) = if b == 32 then b ∷ bytes else from_blank bytes

-- the words that have a blank before them
abbrev pub spaced_words : List ℕ → List (List ℕ)
spaced_words [] = []
spaced_words
    (b ∷ bytes) = if b == 32 then word_at_front bytes ∷ spaced_words bytes else spaced_words bytes

-- the last seven of them, or all where there are fewer
abbrev pub last_seven : List (List ℕ) → List (List ℕ)
last_seven words = drop (length words - 7) words

-- Numbers

abbrev pub hex_digit : ℕ → Option ℕ
hex_digit b =
    if nat_le 48 b && nat_le b 57 then Some (b - 48)
    else (if nat_le 97 b && nat_le b 102 then Some (b - 87) else None)

-- what digits behind a number make of it
abbrev pub hex_more : ℕ → Option ℕ → Option ℕ
hex_more n None = None
hex_more n (Some digit) = Some (n * 16 + digit)

abbrev pub hex_from : Option ℕ → List ℕ → Option ℕ
hex_from None digits = None
hex_from (Some n) [] = Some n
hex_from (Some n) (b ∷ digits) = hex_from (hex_more n (hex_digit b)) digits

-- of 1 to 16 digits
abbrev pub hex_number : List ℕ → Option ℕ
hex_number digits =
    if nat_le 1 (length digits) && nat_le (length digits) 16 then hex_from (Some 0) digits else None

-- what stands in the word behind these bytes
abbrev pub after : List ℕ → List ℕ → Option (List ℕ)
after prefix word =
    if nat_le (length prefix) (length word) && bytes_eq (take (length prefix) word) prefix
    then Some (drop (length prefix) word) else None

abbrev pub hex_of : Option (List ℕ) → Option ℕ
hex_of None = None
hex_of (Some digits) = hex_number digits

abbrev pub hex_after : List ℕ → List ℕ → Option ℕ
hex_after prefix word = hex_of (after prefix word)

abbrev pub are_digits : Option (List ℕ) → Bool
are_digits None = false
are_digits (Some digits) = nat_le 1 (length digits) && list_all is_ascii_digit digits

abbrev pub are_digits_after : List ℕ → List ℕ → Bool
are_digits_after prefix word = are_digits (after prefix word)

abbrev pub decimal_digit : ℕ → Option ℕ
decimal_digit b = if nat_le 48 b && nat_le b 57 then Some (b - 48) else None

-- what digits behind a number make of it
abbrev pub decimal_more : ℕ → Option ℕ → Option ℕ
decimal_more n None = None
decimal_more n (Some digit) = Some (n * 10 + digit)

abbrev pub decimal_from : Option ℕ → List ℕ → Option ℕ
decimal_from None digits = None
decimal_from (Some n) [] = Some n
decimal_from (Some n) (b ∷ digits) = decimal_from (decimal_more n (decimal_digit b)) digits

-- of 1 to 19 digits
abbrev pub decimal_number : List ℕ → Option ℕ
decimal_number digits =
    if nat_le 1 (length digits) && nat_le (length digits) 19 then decimal_from (Some 0) digits
    else None

abbrev pub number_of : Option (List ℕ) → Option ℕ
number_of None = None
number_of (Some digits) = decimal_number digits

abbrev pub number_after : List ℕ → List ℕ → Option ℕ
number_after prefix word = number_of (after prefix word)

-- Maps and unmaps

-- the frames, of 4,096 bytes each, of the bytes from `start` on and before `behind`: none where
-- there is no byte
abbrev pub frames_between : ℕ → ℕ → Option Frames
frames_between start behind =
    if nat_lt start behind then Some (record
    { lo = start / FRAME_BYTES; len = ((behind - 1) / FRAME_BYTES - start / FRAME_BYTES) + 1 })
    else None

-- those of so many bytes from `start` on: none where the byte behind them has no address of 64 bits
abbrev pub frames_within : ℕ → ℕ → Option Frames
frames_within start size =
    if nat_lt (start + size) (2 ^ 64) then frames_between start (start + size) else None

abbrev pub frames_of : Option ℕ → Option ℕ → Option Frames
frames_of None behind = None
frames_of (Some start) None = None
frames_of (Some start) (Some behind) = frames_between start behind

-- iova=0x<hex> - 0x<hex> paddr=0x<hex> size=<digits>
abbrev pub mapped_frames : List ℕ → List ℕ → List ℕ → List ℕ → List ℕ → Option Frames
mapped_frames a b c d e =
    if bytes_eq b (codes "-") && (is_some (hex_after (codes "paddr=0x") d)
    && are_digits_after (codes "size=") e)
    then frames_of (hex_after (codes "iova=0x") a) (hex_after (codes "0x") c) else None

abbrev pub frames_from : Option ℕ → Option ℕ → Option Frames
frames_from None size = None
frames_from (Some start) None = None
frames_from (Some start) (Some size) = frames_within start size

-- iova=0x<hex> - 0x<hex> size=<digits> unmapped_size=<number>: what was unmapped, which may be less
-- than what was asked for, or more
abbrev pub unmapped_frames : List ℕ → List ℕ → List ℕ → List ℕ → List ℕ → Option Frames
unmapped_frames a b c d e =
    if bytes_eq b (codes "-") && (is_some (hex_after (codes "0x") c)
    && are_digits_after (codes "size=") d)
    then frames_from (hex_after (codes "iova=0x") a) (number_after (codes "unmapped_size=") e)
    else None

abbrev pub map_said : Option Frames → Event
map_said None = event.Other other.Plain
map_said (Some r) = event.Map r

abbrev pub unmap_said : Option Frames → Event
unmap_said None = event.Other other.Plain
unmap_said (Some r) = event.Unmap r

-- Flushes

-- the flush is asked for, and its domain is another
abbrev pub is_other_domain : Option ℕ → ℕ → Bool
is_other_domain None number = false
is_other_domain (Some domain) number = not (domain == number)

-- 2^n frames from a multiple of 2^n on, the n and one of the frames standing in this word of the
-- queue
abbrev pub paged_frames : ℕ → Frames
paged_frames q1 =
    record
    { lo = ((q1 / FRAME_BYTES) / (2 ^ (q1 % 64))) * (2 ^ (q1 % 64)); len = 2 ^ (q1 % 64) }

-- of bits 5 and 4 of q0, of its bits 31 to 16, and of q1: a flush of everything, of a domain, or of
-- frames of a domain
abbrev pub flush_at : Option ℕ → ℕ → ℕ → ℕ → Event
flush_at domain granularity number q1 =
    if granularity == 1 then event.Flush None
    else (if is_other_domain domain number then event.Other other.Plain
    else (if granularity == 2 then event.Flush None
    else (if granularity == 3 then event.Flush (Some (paged_frames q1))
    else event.Other other.Plain)))

abbrev pub flush_of : Option ℕ → Option ℕ → Option ℕ → Event
flush_of domain None q1 = event.Other other.Plain
flush_of domain (Some q0) None = event.Other other.Plain
flush_of domain (Some q0) (Some q1) =
    flush_at domain ((q0 / 2 ^ 4) % 2 ^ 2) ((q0 / 2 ^ 16) % 2 ^ 16) q1

-- 0x<hex> four times, behind the name of a unit
abbrev pub flush_said : Option ℕ → List ℕ → List ℕ → List ℕ → List ℕ → Event
flush_said domain b c d e =
    if is_some (hex_after (codes "0x") d) && is_some (hex_after (codes "0x") e)
    then flush_of domain (hex_after (codes "0x") b) (hex_after (codes "0x") c)
    else event.Other other.Plain

-- Lines

abbrev pub is_either : List ℕ → List ℕ → List ℕ → Bool
is_either short long name = bytes_eq name short || bytes_eq name long

abbrev pub event_from : Option ℕ → List ℕ → List ℕ → List ℕ → List ℕ → List ℕ → List ℕ → List ℕ
    → Event
event_from domain name about a b c d e =
    if is_either (codes "map:") (codes "iommu:map:") name && bytes_eq about (codes "IOMMU:")
    then map_said (mapped_frames a b c d e)
    else (if is_either (codes "unmap:") (codes "iommu:unmap:") name
    && bytes_eq about (codes "IOMMU:") then unmap_said (unmapped_frames a b c d e)
    else (if is_either (codes "qi_submit:") (codes "intel_iommu:qi_submit:") name
    && bytes_eq about (codes "iotlb_inv") then flush_said domain b c d e
    else event.Other other.Plain))

abbrev pub said_by : Option ℕ → List (List ℕ) → Event
said_by domain (name ∷ about ∷ a ∷ b ∷ c ∷ d ∷ e ∷ []) = event_from domain name about a b c d e
said_by domain words = event.Other other.Plain

-- Lost events

-- these bytes are a number and then ` EVENTS]`
abbrev pub counts_lost : Option (List ℕ) → Bool
counts_lost None = false
counts_lost (Some bytes) =
    are_digits (Some (word_at_front bytes)) && bytes_eq (from_blank bytes) (codes " EVENTS]")

-- these bytes are a number, and then ` [LOST `, a number and ` EVENTS]`
abbrev pub is_lost_behind : Option (List ℕ) → Bool
is_lost_behind None = false
is_lost_behind (Some bytes) =
    are_digits (Some (word_at_front bytes))
    && counts_lost (after (codes " [LOST ") (from_blank bytes))

-- a line, which is without its LF, says that events were lost: CPU:<digits> [LOST <digits> EVENTS]
abbrev pub says_lost : List ℕ → Bool
says_lost line = nat_lt (length line) MAX_TRACE_LINE && is_lost_behind (after (codes "CPU:") line)

-- What a line says

-- of a line that is not too long its last seven words say it, or that events were lost
abbrev pub line_said : Option ℕ → List ℕ → Event
line_said domain line =
    if is_lost_behind (after (codes "CPU:") line) then event.Other other.Lost
    else said_by domain (last_seven (spaced_words line))

-- what a line says, which is without its LF, where flushes of this domain count, or of each: one of
-- more than 1,024 bytes with its LF is too long to be read
abbrev pub event_said : Option ℕ → List ℕ → Event
event_said domain line =
    if nat_lt (length line) MAX_TRACE_LINE then line_said domain line else event.Other other.TooLong
