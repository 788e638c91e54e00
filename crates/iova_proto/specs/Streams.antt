-- A stream of lines, whole and in pieces.
use Rattle.std.specs.Prelude.{ℕ, ◌≡◌, ◌⊎◌, List, [], ◌∷◌, ◌++◌, drop, flat_map, Option, Some, None}
use Rattle.std.specs.List.{AllByRecursion}
use Rattle.iova_text.specs.Lines.{IsUnended}
use Rattle.iova_proto.specs.declared.request.Request.{Request}
use Rattle.iova_proto.specs.declared.fed.Fed.TheVariants as fed
use Rattle.iova_proto.specs.Requests.{request_text, IsRequest}
use Rattle.iova_proto.specs.Feeds.{BeginsBad, Feeds}

-- A piece is fed whole: after each request what is left of it is fed again, until no line has
-- ended, or one is bad. The states before and after are what is kept of a line, or none after a bad
-- line.
abbrev pub FeedsPiece : List Request → Option (List ℕ) → List ℕ → Option (List ℕ) → Type 0
FeedsPiece [] None piece next = next ≡ None
FeedsPiece [] (Some kept) piece next =
    Feeds kept piece fed.More next ⊎ Feeds kept piece fed.Bad next
FeedsPiece (r ∷ rs) None piece next = ⊥
FeedsPiece (r ∷ rs) (Some kept) piece next =
    (used : ℕ) × Feeds kept piece (fed.Request r used) (Some [])
    × FeedsPiece rs (Some []) (drop used piece) next

-- pieces are fed one after another
abbrev pub FeedsPieces : List (List ℕ) → Option (List ℕ) → List Request → Option (List ℕ) → Type 0
FeedsPieces [] state rs next = (rs ≡ []) × (next ≡ state)
FeedsPieces (piece ∷ pieces) state rs next =
    (first : List Request) × (mid : Option (List ℕ)) × (others : List Request)
    × (rs ≡ first ++ others)
    × FeedsPiece first state piece mid × FeedsPieces pieces mid others next

-- how a stream stands after its whole lines: in a line that has not ended, or at a bad line
abbrev pub StandsAt : List ℕ → Option (List ℕ) → Type 0
StandsAt rest (Some kept) = (rest ≡ kept) × IsUnended kept
StandsAt rest None = BeginsBad rest

-- the stream is the lines of these requests, and what comes after them leaves this state
pub record Reads (stream : List ℕ) (rs : List Request) (state : Option (List ℕ)) : Type 0 where
  pub rest : List ℕ
  pub each : AllByRecursion IsRequest rs
  pub whole : stream ≡ flat_map request_text rs ++ rest
  pub stands : StandsAt rest state

-- the bytes of all pieces
abbrev pub bytes_of_pieces : List (List ℕ) → List ℕ
bytes_of_pieces pieces = flat_map (λ (piece : List ℕ). piece) pieces

-- what the pieces of a stream give is what stands in the whole of it
abbrev pub PiecesRead : Type 0
PiecesRead =
    (pieces : List (List ℕ)) (rs : List Request) (state : Option (List ℕ))
    → FeedsPieces pieces (Some []) rs state
    → Reads (bytes_of_pieces pieces) rs state

-- a stream is read in one way
abbrev pub OneReading : Type 0
OneReading =
    (stream : List ℕ) (rs ss : List Request) (state other : Option (List ℕ)) → Reads stream rs state
    → Reads stream ss other
    → (rs ≡ ss) × (state ≡ other)

-- so a stream gives the same however it is cut
abbrev pub AnyCut : Type 0
AnyCut =
    (pieces others : List (List ℕ)) (rs ss : List Request) (state other : Option (List ℕ))
    → bytes_of_pieces pieces ≡ bytes_of_pieces others
    → FeedsPieces pieces (Some []) rs state → FeedsPieces others (Some []) ss other
    → (rs ≡ ss) × (state ≡ other)
