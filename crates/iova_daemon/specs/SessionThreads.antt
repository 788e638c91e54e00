-- What a session thread does at its post: sessions, one after another, and tries of its waiting
-- clients.
use Rattle.std.specs.Prelude.{ℕ, ◌≡◌, ◌⊎◌, Bool, List, [], ◌∷◌, Option}
use Rattle.iova_model.specs.State.{State}
use Rattle.iova_sink.specs.Calls.{Call}
use Rattle.iova_keep.specs.Views.{Identity, SeatState, WhereKnown, KeepsPlace}
use Rattle.iova_session.specs.declared.run.SessionEnd.{SessionEnd}
use Rattle.iova_session.specs.declared.session_limits.SessionLimits.{SessionLimits}
use Rattle.iova_session.specs.PostSessions.{Between, between, RunsSession}
use Rattle.iova_session.specs.Posts.{IsSublist, RetriesAll}

-- A session over some unused link within these limits, from its first byte to the end of its
-- client: it leads from a to b.
abbrev pub ServesSession : {L : Type 0} → (left sent : L → Option (List ℕ)) → (calls reads : L → ℕ)
    → SessionLimits → (strict : Bool) → (number : ℕ) → (a b : Between) → Type 0
ServesSession {L} left sent calls reads limits strict number a b =
    (link now : L) × (ended : SessionEnd) × (calls link ≡ 0)
    × RunsSession left sent reads limits strict number link now ended a b

-- the clients that wait are tried once more, and no other one waits then
abbrev pub TriesAgain : (number : ℕ) → (a b : Between) → Type 0
TriesAgain number a b =
    IsSublist b.waiting a.waiting
    × ((room : ℕ) × WhereKnown a.domain b.domain
    (RetriesAll room number a.waiting b.waiting a.seat b.seat a.calls b.calls))

-- the waiting clients are tried again, or nothing is done
abbrev pub IsTried : (number : ℕ) → (a b : Between) → Type 0
IsTried number a b = (b ≡ a) ⊎ TriesAgain number a b

-- Nothing but these leads from a to b: tries of the clients that wait, and sessions, each over an
-- unused link of its own.
pub data ServesOnThread {L : Type 0} (left sent : L → Option (List ℕ)) (calls reads : L → ℕ)
    (limits : SessionLimits) (strict : Bool) (number : ℕ) : Between → Between → Type 0 where
  nothing : (a : Between) → ServesOnThread left sent calls reads limits strict number a a
  tries : (a b c : Between) → ServesOnThread left sent calls reads limits strict number a b
      → IsTried number b c → ServesOnThread left sent calls reads limits strict number a c
  serves : (a b c : Between) → ServesOnThread left sent calls reads limits strict number a b
      → ServesSession left sent calls reads limits strict number b c
      → ServesOnThread left sent calls reads limits strict number a c

-- What a session thread is started with: its sessions' limits, what never changes of its keeper's
-- domain, that domain where it is known, its post's seat and waiting clients, and the calls of its
-- sink.
pub record ThreadStart : Type 0 where
  pub limits : SessionLimits
  pub identity : Identity
  pub domain : Option State
  pub seat : SeatState
  pub waiting : List ℕ
  pub calls : List Call

-- What a session thread leaves of its post and its sink: only sessions and tries of its waiting
-- clients led there.
pub record ServesPost {L : Type 0} (left sent : L → Option (List ℕ)) (calls reads : L → ℕ)
    (start : ThreadStart) (seat : SeatState) (waiting : List ℕ) (now : List Call) : Type 0 where
  pub domain : Option State
  pub turns : ServesOnThread left sent calls reads start.limits start.identity.strict
      start.identity.number
      (between start.seat start.waiting start.calls start.domain) (between seat waiting now domain)
  pub place : KeepsPlace start.seat seat start.calls now

-- the starts of threads at these seats, with these waiting clients and these calls of their sinks
abbrev pub starts : SessionLimits → Identity → Option State → List SeatState → List (List ℕ)
    → List (List Call) → List ThreadStart
starts limits identity domain (s ∷ ss) (w ∷ ws) (c ∷ cs) =
    record {
      limits = limits;
      identity = identity;
      domain = domain;
      seat = s;
      waiting = w;
      calls = c;
    } ∷ starts limits identity domain ss ws cs
starts limits identity domain ss ws cs = []

-- What the session threads of a daemon leave, thread by thread.
pub data AllServed {L : Type 0} (left sent : L → Option (List ℕ)) (calls reads : L → ℕ)
    : List ThreadStart → List SeatState → List (List ℕ) → List (List Call) → Type 0 where
  none_served : AllServed left sent calls reads [] [] [] []
  more_served : (t : ThreadStart) (s : SeatState) (w : List ℕ) (c : List Call)
      (ts : List ThreadStart) (ss : List SeatState) (ws : List (List ℕ)) (cs : List (List Call))
      → ServesPost left sent calls reads t s w c → AllServed left sent calls reads ts ss ws cs
      → AllServed left sent calls reads (t ∷ ts) (s ∷ ss) (w ∷ ws) (c ∷ cs)
