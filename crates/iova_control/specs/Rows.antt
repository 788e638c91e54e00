-- What `sessions` is answered: a line for each session that is served.
use Rattle.std.specs.Prelude.{ℕ, suc, ◌≡◌, ◌++◌, List, [], ◌∷◌, codes, decimal, length, min, sum_by}
use Rattle.iova_range.specs.Frames.{Frames}

-- a session: its client, and what that holds; client 0 and nothing before it has opened one
pub record SessionRow : Type 0 where
  pub client : ℕ
  pub ranges : List Frames

abbrev pub no_client : SessionRow
no_client = record { client = 0; ranges = [] }

-- how many frames ranges have, as far as a number of 64 bits goes
abbrev pub frames_in : List Frames → ℕ
frames_in ranges = min (sum_by (λ r. r.len) ranges) 18446744073709551615

-- a session of this worker
abbrev pub row_text : ℕ → SessionRow → List ℕ
row_text worker r =
    decimal worker ++ (codes " " ++ (decimal r.client ++ (codes " "
    ++ (decimal (length r.ranges) ++ (codes " " ++ (decimal (frames_in r.ranges) ++ 10 ∷ []))))))

abbrev pub rows_text : ℕ → List SessionRow → List ℕ
rows_text worker [] = []
rows_text worker (r ∷ rows) = row_text worker r ++ rows_text worker rows

-- the sessions of this worker and of the workers behind it
abbrev pub sessions_text : ℕ → List (List SessionRow) → List ℕ
sessions_text worker [] = []
sessions_text worker (rows ∷ more) = rows_text worker rows ++ sessions_text (suc worker) more

-- so many sessions of this worker were put behind what stood there
abbrev pub PutsRows : (worker count : ℕ) → List ℕ → List ℕ → Type 0
PutsRows worker count old new =
    (rows : List SessionRow) × (length rows ≡ count) × (new ≡ old ++ rows_text worker rows)

-- the sessions of so many workers, from this one on, were put behind what stood there
abbrev pub PutsSessions : (worker count : ℕ) → List ℕ → List ℕ → Type 0
PutsSessions worker count old new =
    (all : List (List SessionRow)) × (length all ≡ count) × (new ≡ old ++ sessions_text worker all)
