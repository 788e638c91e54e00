-- The record of one invalidation, and what is asked of a peer that answers.
use Rattle.std.specs.Prelude.{ℕ, Bool, true, false, List, [], ◌∷◌, ◌++◌, length, codes, decimal}
use Rattle.iova_range.specs.Frames.{Frames}

-- the line of one invalidation: a word, the domain's number, the flush's number, with a space
-- between them, and a line feed
abbrev pub inval_line : ℕ → ℕ → List ℕ
inval_line domain number =
    codes "inval" ++ (32 ∷ (decimal domain ++ (32 ∷ (decimal number ++ 10 ∷ []))))

-- after a call that failed, a line feed comes first
abbrev pub record_text : Bool → ℕ → ℕ → List ℕ
record_text false domain number = inval_line domain number
record_text true domain number = 10 ∷ inval_line domain number

-- Requests to a peer that answers, and its answers: words with a space between them, and a line
-- feed.

-- the answer to a request of this word and number, which says how it went
abbrev pub answer_line : List ℕ → List ℕ → ℕ → List ℕ
answer_line outcome word number = outcome ++ (32 ∷ (word ++ (32 ∷ (decimal number ++ 10 ∷ []))))

-- the answer that all of a request is done
abbrev pub done_line : List ℕ → ℕ → List ℕ
done_line word number = answer_line (codes "done") word number

-- the answer that a request failed
abbrev pub fail_line : List ℕ → ℕ → List ℕ
fail_line word number = answer_line (codes "fail") word number

-- the domain has no mapping any more
abbrev pub reset_line : ℕ → List ℕ
reset_line domain = codes "reset" ++ (32 ∷ (decimal domain ++ 10 ∷ []))

-- this client of the domain is gone, which had so many ranges
abbrev pub gone_line : ℕ → ℕ → ℕ → List ℕ
gone_line domain client count =
    codes "gone" ++ (32 ∷ (decimal domain
    ++ (32 ∷ (decimal client ++ (32 ∷ (decimal count ++ 10 ∷ []))))))

-- a range: its first frame, and how many there are
abbrev pub range_line : Frames → List ℕ
range_line r = decimal r.lo ++ (32 ∷ (decimal r.len ++ 10 ∷ []))

abbrev pub ranges_text : List Frames → List ℕ
ranges_text [] = []
ranges_text (r ∷ rs) = range_line r ++ ranges_text rs

abbrev pub gone_text : ℕ → ℕ → List Frames → List ℕ
gone_text domain client ranges = gone_line domain client (length ranges) ++ ranges_text ranges
