-- What a session may be answered, and what its answers say of it.
use Rattle.std.specs.Prelude.{ℕ, ◌≡◌, ◌≢◌, ◌+◌, ◌<◌, ◌≤◌, ◌⊎◌, List, [], ◌∷◌, ◌++◌, length, take, flat_map, Option, Some, None, refl}
use Rattle.std.specs.Coded.{Coded, Coded-set, code_by, coded×, coded_ℕ}
use Rattle.iova_range.specs.declared.limits.TheConstants.{MAX_LISTED, MAX_HOLDINGS}
use Rattle.iova_range.specs.declared.refusal.Refusal.{Refusal}
use Rattle.iova_range.specs.declared.refusal.Refusal.TheVariants as refusal
use Rattle.iova_range.specs.Frames.{Frames}
use Rattle.iova_model.specs.declared.totals.Totals.{Totals}
use Rattle.iova_model.specs.Clients.{totals_of}
use Rattle.iova_model.specs.Valid.{Rises}
use Rattle.iova_model.specs.Effects.{add_totals, IsGivenTo}
use Rattle.iova_keep.specs.declared.ask.Ask.{Ask}
use Rattle.iova_keep.specs.declared.ask.Ask.TheVariants as ask
use Rattle.iova_keep.specs.declared.ask.Told.{Told}
use Rattle.iova_keep.specs.declared.ask.Told.TheVariants as lock_told
use Rattle.iova_keep.specs.declared.unmapped.Unmapped.{Unmapped}
use Rattle.iova_keep.specs.declared.unmapped.Unmapped.TheVariants as unmapped
use Rattle.iova_keep.specs.Views.{IsOpenRefusal, IsAllocRefusal, IsUnmapRefusal, IsFlushRefusal}
use Rattle.iova_proto.specs.declared.answer.Answer.{Answer}
use Rattle.iova_proto.specs.declared.answer.Answer.TheVariants as answer
use Rattle.iova_proto.specs.declared.request.Request.{Request}
use Rattle.iova_proto.specs.declared.request.Request.TheVariants as request
use Rattle.iova_keep.specs.Batches.{IsToldOf}
use Rattle.iova_session.specs.Pairs.{Pair, requests_of, answers_of}

-- The client of a session: the one that hello opened.
abbrev pub next_client : Option ℕ → Answer → Option ℕ
next_client client (answer.Opened id) = Some id
next_client client (answer.Given r) = client
next_client client (answer.Queued r) = client
next_client client (answer.Freed r) = client
next_client client (answer.Held ranges) = client
next_client client (answer.Flushed number freed) = client
next_client client (answer.Stat stat) = client
next_client client answer.Bye = client
next_client client (answer.Refused e) = client

-- how many ranges an answer lists
abbrev pub count_listed : Answer → ℕ
count_listed (answer.Held ranges) = length ranges
count_listed (answer.Opened id) = 0
count_listed (answer.Given r) = 0
count_listed (answer.Queued r) = 0
count_listed (answer.Freed r) = 0
count_listed (answer.Flushed number freed) = 0
count_listed (answer.Stat stat) = 0
count_listed answer.Bye = 0
count_listed (answer.Refused e) = 0

-- the range that an answer gives to the client
abbrev pub given_by : Answer → List Frames
given_by (answer.Given r) = r ∷ []
given_by (answer.Opened id) = []
given_by (answer.Queued r) = []
given_by (answer.Freed r) = []
given_by (answer.Held ranges) = []
given_by (answer.Flushed number freed) = []
given_by (answer.Stat stat) = []
given_by answer.Bye = []
given_by (answer.Refused e) = []

-- the range that it takes from the client
abbrev pub taken_by : Answer → List Frames
taken_by (answer.Queued r) = r ∷ []
taken_by (answer.Freed r) = r ∷ []
taken_by (answer.Opened id) = []
taken_by (answer.Given r) = []
taken_by (answer.Held ranges) = []
taken_by (answer.Flushed number freed) = []
taken_by (answer.Stat stat) = []
taken_by answer.Bye = []
taken_by (answer.Refused e) = []

-- the client after these pairs, and how many ranges they list
unfoldable pub client_after : Option ℕ → List Pair → Option ℕ
client_after client [] = client
client_after client (p ∷ ps) = client_after (next_client client p.answer) ps

unfoldable pub listed_after : ℕ → List Pair → ℕ
listed_after listed [] = listed
listed_after listed (p ∷ ps) = listed_after (listed + count_listed p.answer) ps

-- all ranges that were given, and all that were taken
unfoldable pub given_in : List Pair → List Frames
given_in ps = flat_map (λ p. given_by p.answer) ps

unfoldable pub taken_in : List Pair → List Frames
taken_in ps = flat_map (λ p. taken_by p.answer) ps

-- What is refused.

-- a hello in this domain: another one is named, or none can be opened
abbrev pub IsHelloRefusal : ℕ → ℕ → Refusal → Type 0
IsHelloRefusal number domain e =
    ((domain ≢ number) × (e ≡ refusal.NoDomain)) ⊎ ((domain ≡ number) × IsOpenRefusal e)

-- A list where so many ranges were listed before: it passes the limit only where the most that a
-- client can hold would.
abbrev pub IsListRefusal : ℕ → Refusal → Type 0
IsListRefusal listed e =
    (e ≡ refusal.NoClient) ⊎ (e ≡ refusal.NoMemory)
    ⊎ ((e ≡ refusal.TooMany) × (MAX_LISTED < listed + MAX_HOLDINGS))

-- What a request may be answered without a client.
abbrev pub IsFirstAnswer : ℕ → Request → Answer → Type 0
IsFirstAnswer number (request.Hello domain sac) (answer.Opened id) = domain ≡ number
IsFirstAnswer number (request.Hello domain sac) (answer.Refused e) = IsHelloRefusal number domain e
IsFirstAnswer number (request.Hello domain sac) a = ⊥
IsFirstAnswer number (request.Alloc frames limit) a = a ≡ answer.Refused refusal.NoClient
IsFirstAnswer number (request.Free lo) a = a ≡ answer.Refused refusal.NoClient
IsFirstAnswer number request.List a = a ≡ answer.Refused refusal.NoClient
IsFirstAnswer number request.Flush a = a ≡ answer.Refused refusal.NoClient
IsFirstAnswer number request.Stat a = a ≡ answer.Refused refusal.NoClient
IsFirstAnswer number request.Bye a = a ≡ answer.Bye

-- What a request may be answered with a client, where so many ranges were listed.
abbrev pub IsClientAnswer : ℕ → Request → Answer → Type 0
IsClientAnswer listed (request.Hello domain sac) a = a ≡ answer.Refused refusal.Twice
IsClientAnswer listed (request.Alloc frames limit) (answer.Given r) = IsGivenTo frames limit r
IsClientAnswer listed (request.Alloc frames limit) (answer.Refused e) = IsAllocRefusal e
IsClientAnswer listed (request.Alloc frames limit) a = ⊥
IsClientAnswer listed (request.Free lo) (answer.Queued r) = r.lo ≡ lo
IsClientAnswer listed (request.Free lo) (answer.Freed r) = r.lo ≡ lo
IsClientAnswer listed (request.Free lo) (answer.Refused e) = IsUnmapRefusal e
IsClientAnswer listed (request.Free lo) a = ⊥
IsClientAnswer listed request.List (answer.Held ranges) =
    (listed + length ranges ≤ MAX_LISTED) × Rises 0 ranges
IsClientAnswer listed request.List (answer.Refused e) = IsListRefusal listed e
IsClientAnswer listed request.List a = ⊥
IsClientAnswer listed request.Flush (answer.Flushed number freed) = Unit {0}
IsClientAnswer listed request.Flush (answer.Refused e) = IsFlushRefusal e
IsClientAnswer listed request.Flush a = ⊥
IsClientAnswer listed request.Stat (answer.Stat stat) = Unit {0}
IsClientAnswer listed request.Stat a = ⊥
IsClientAnswer listed request.Bye a = a ≡ answer.Bye

-- What a request may be answered in a domain of this number, by the client so far and the ranges
-- listed so far.
abbrev pub IsAnswer : ℕ → Option ℕ → ℕ → Request → Answer → Type 0
IsAnswer number None listed r a = IsFirstAnswer number r a
IsAnswer number (Some id) listed r a = IsClientAnswer listed r a

-- each request has an answer that it may have, in turn
unfoldable pub AreAnswers : ℕ → Option ℕ → ℕ → List Pair → Type 0
AreAnswers number client listed [] = Unit {0}
AreAnswers number client listed (p ∷ ps) =
    IsAnswer number client listed p.request p.answer
    × AreAnswers number (next_client client p.answer) (listed + count_listed p.answer) ps

-- The shares, raised by what was given and lowered by what was taken.
abbrev pub MovesBy : List Frames → List Frames → Totals → Totals → Type 0
MovesBy given taken old new = add_totals new (totals_of taken) ≡ add_totals old (totals_of given)

abbrev pub totals_code : Coded Totals
totals_code =
    code_by (ℕ × (ℕ × ℕ)) (coded× coded_ℕ (coded× coded_ℕ coded_ℕ))
    (λ t. (t.count, (t.frames, t.sum_lo)))
    (λ p. record { count = p.0; frames = p.1.0; sum_lo = p.1.1 }) (λ _. refl)

-- how the shares move is one fact: two proofs of it are equal
pub MovesBy-prop : (given taken : List Frames) (old new : Totals)
    → IsProp (MovesBy given taken old new)
MovesBy-prop given taken old new =
    Coded-set totals_code (add_totals new (totals_of taken)) (add_totals old (totals_of given))

-- What is asked in one hold.

abbrev pub ask_of : Request → Option Ask
ask_of (request.Alloc frames limit) = Some (ask.Alloc frames limit)
ask_of (request.Free lo) = Some (ask.Free lo)
ask_of request.Stat = Some ask.Stat
ask_of (request.Hello domain sac) = None
ask_of request.List = None
ask_of request.Flush = None
ask_of request.Bye = None

abbrev pub ask_then : Option Ask → List Ask → List Ask
ask_then None asks = []
ask_then (Some a) asks = a ∷ asks

-- the asks at the front of the requests
abbrev pub asks_in : List Request → List Ask
asks_in [] = []
asks_in (r ∷ rs) = ask_then (ask_of r) (asks_in rs)

-- what a hold answers, as a line's answer
abbrev pub answer_of : Told → Answer
answer_of (lock_told.Given r) = answer.Given r
answer_of (lock_told.Queued r) = answer.Queued r
answer_of (lock_told.Stat stat) = answer.Stat stat
answer_of (lock_told.Refused e) = answer.Refused e

-- the result of a release as an answer
abbrev pub answer_of_release : Unmapped → Answer
answer_of_release (unmapped.Queued r) = answer.Queued r
answer_of_release (unmapped.Freed r) = answer.Freed r

-- the requests at the front, with their answers
abbrev pub told_pairs : List Request → List Told → List Pair
told_pairs rs [] = []
told_pairs [] (x ∷ xs) = []
told_pairs (r ∷ rs) (x ∷ xs) = record { request = r; answer = answer_of x } ∷ told_pairs rs xs

-- a session: the domain's number, its client, how many ranges were listed to it, and its requests
-- with their answers
pub record SessionState : Type 0 where
  pub number : ℕ
  pub client : Option ℕ
  pub listed : ℕ
  pub pairs : List Pair

-- with a request more, and its answer
abbrev pub answered : SessionState → Request → Answer → SessionState
answered s r a = record {
  number = s.number;
  client = next_client s.client a;
  listed = s.listed + count_listed a;
  pairs = s.pairs ++ record { request = r; answer = a } ∷ [];
}

-- What the requests at the front are answered is what their asks may be answered.
abbrev pub IsToldTo : Option Ask → Told → Type 0
IsToldTo None x = ⊥
IsToldTo (Some a) x = IsToldOf a x

abbrev pub AreTold : List Request → List Told → Type 0
AreTold rs [] = Unit {0}
AreTold [] (x ∷ xs) = ⊥
AreTold (r ∷ rs) (x ∷ xs) = IsToldTo (ask_of r) x × AreTold rs xs

-- the first request is none that a batch takes, but for a free
abbrev pub IsFirstAlone : List Request → Type 0
IsFirstAlone [] = Unit {0}
IsFirstAlone (request.Alloc frames limit ∷ rs) = ⊥
IsFirstAlone (request.Stat ∷ rs) = ⊥
IsFirstAlone (request.Hello domain sac ∷ rs) = Unit {0}
IsFirstAlone (request.Free lo ∷ rs) = Unit {0}
IsFirstAlone (request.List ∷ rs) = Unit {0}
IsFirstAlone (request.Flush ∷ rs) = Unit {0}
IsFirstAlone (request.Bye ∷ rs) = Unit {0}

-- so many requests at the front were asked and answered: the session and the answers have the pairs
-- more, and the shares moved by them
pub record AnswersRun (rs : List Request) (count : ℕ) (was now : SessionState)
    (before later : List Answer) (old new : Totals) : Type 0 where
  pub pairs : List Pair
  pub same : now.number ≡ was.number
  pub added : now.pairs ≡ was.pairs ++ pairs
  pub asked : requests_of pairs ≡ take count rs
  pub told : later ≡ before ++ answers_of pairs
  pub shares : MovesBy (given_in pairs) (taken_in pairs) old new
