-- The lines of requests: one spelling for each.
use Rattle.std.specs.Prelude.{ℕ, ◌≡◌, ◌<◌, ◌^◌, List, [], ◌∷◌, codes, decimal}
use Rattle.iova_text.specs.Lines.{whole_line}
use Rattle.iova_text.specs.Words.{line_text, spaced_words, kind_text}
use Rattle.iova_proto.specs.declared.request.Request.{Request}
use Rattle.iova_proto.specs.declared.request.Request.TheVariants as request

-- the first word of a request's line
abbrev pub request_verb : Request → List ℕ
request_verb (request.Hello domain sac) = codes "hello"
request_verb (request.Alloc frames limit) = codes "alloc"
request_verb (request.Free lo) = codes "free"
request_verb request.List = codes "list"
request_verb request.Flush = codes "flush"
request_verb request.Stat = codes "stat"
request_verb request.Bye = codes "bye"

-- the other words of a request's line
abbrev pub request_arguments : Request → List (List ℕ)
request_arguments (request.Hello domain sac) = codes "iova1" ∷ decimal domain ∷ kind_text sac ∷ []
request_arguments (request.Alloc frames limit) = decimal frames ∷ decimal limit ∷ []
request_arguments (request.Free lo) = decimal lo ∷ []
request_arguments request.List = []
request_arguments request.Flush = []
request_arguments request.Stat = []
request_arguments request.Bye = []

-- a request's line without its LF
abbrev pub request_line : Request → List ℕ
request_line r = line_text (request_verb r) (request_arguments r)

-- a request's line with its LF
abbrev pub request_text : Request → List ℕ
request_text r = whole_line (request_line r)

-- the numbers of a request have 64 bits
abbrev pub IsRequest : Request → Type 0
IsRequest (request.Hello domain sac) = domain < 2 ^ 64
IsRequest (request.Alloc frames limit) = (frames < 2 ^ 64) × (limit < 2 ^ 64)
IsRequest (request.Free lo) = lo < 2 ^ 64
IsRequest request.List = Unit {0}
IsRequest request.Flush = Unit {0}
IsRequest request.Stat = Unit {0}
IsRequest request.Bye = Unit {0}

-- the line is this request's
pub record Spells (line : List ℕ) (r : Request) : Type 0 where
  pub good : IsRequest r
  pub text : line ≡ request_text r

-- it is a request of this verb, and these bytes are its other words
abbrev pub IsSpelledBy : List ℕ → List ℕ → Request → Type 0
IsSpelledBy verb arguments r =
    IsRequest r × (request_verb r ≡ verb) × (arguments ≡ spaced_words (request_arguments r))
