-- Which client is named by the steps of the calls of the lock.
use Rattle.std.proofs.Common.{ℕ, ◌≡◌, Bool, List, [], ◌∷◌, ◌++◌, Option, Some, None}
use Rattle.std.specs.Prelude.{Result}
use Rattle.std.specs.List.{AllByRecursion}
use Rattle.iova_range.specs.declared.refusal.Refusal.{Refusal}
use Rattle.iova_range.specs.Frames.{Frames}
use Rattle.iova_model.specs.declared.step.Step.{Step}
use Rattle.iova_model.specs.declared.step.Step.TheVariants as step
use Rattle.iova_model.specs.declared.step.Reply.{Reply}
use Rattle.iova_model.specs.declared.totals.Totals.{Totals}
use Rattle.iova_model.specs.Effects.{client_named}
use Rattle.iova_keep.specs.declared.ending.Ending.{Ending}
use Rattle.iova_keep.specs.declared.unmapped.Unmapped.{Unmapped}
use Rattle.iova_keep.specs.Events.{CallEvent, Ran, NotRun, Invalidated, Unmapping, run, not_run, Flush, refused, done, failed, Closing, stops, queues, CloseFirst, closed, closed_full, CloseAgain, closed_again, full_none_queued, full_again, CloseRest, last, another, EndClient, in_one_hold, in_more, Draining, none_left, drains, DrainAll, drained, no_worker}
use Rattle.iova_keep.specs.Releases.{ReleaseFirst, no_flush, flush, ReleaseAgain, no_flush_again, flush_again, ReleaseLast, reached, not_reached, AfterQueued, stays, freed, not_freed, ReleaseRest, refused_again, queued_again, Release, refused_first, queued_first, ring_was_full}
use Rattle.iova_session.proofs.Byes.{All-append}

-- a step that is run names this client or none
abbrev IsOf : Option ℕ → CallEvent → Type 0
IsOf client (Ran st r) = (id : ℕ) → client_named st ≡ Some id → client ≡ Some id
IsOf client (NotRun st held) = Unit {0}
IsOf client (Invalidated n ok) = Unit {0}

abbrev pub AreOf : Option ℕ → List CallEvent → Type 0
AreOf client es = AllByRecursion (IsOf client) es

module _ (client : Option ℕ) where
  both_of : (es fs : List CallEvent) → AreOf client es → AreOf client fs → AreOf client (es ++ fs)
  both_of es fs h k = All-append (IsOf client) es fs h k

  none_named : (id : ℕ) → None ≡ Some id → client ≡ Some id
  none_named id e = absurd cc

  -- Flushes and drains name none.

  then_begins : (es : List CallEvent) (b : Reply) → AreOf client es → AreOf client (es ++ Ran step.Begin b ∷ [])
  then_begins es b h = both_of es (Ran step.Begin b ∷ []) h (none_named, tt)

  pub flush_of : {result : Result ℕ Refusal} {es : List CallEvent} → Flush result es → AreOf client es
  flush_of (refused e) = (none_named, tt)
  flush_of (done n end) = (none_named, (tt, (none_named, tt)))
  flush_of (failed n end) = (none_named, (tt, (none_named, tt)))

  draining_of : {by n : ℕ} {rings : List ℕ} {es : List CallEvent} → Draining by rings n es → AreOf client es
  draining_of none_left = tt
  draining_of (drains q rings n more es d) = (none_named, draining_of d)

  pub drain_all_of : {workers by : ℕ} {result : Result ℕ Refusal} {es : List CallEvent} → DrainAll workers by result es → AreOf client es
  drain_all_of (drained n es lt d) = draining_of d
  drain_all_of (no_worker le) = (none_named, tt)

  release_last_of : {w n finish : ℕ} {ok is_freed : Bool} {es : List CallEvent} → ReleaseLast w n ok finish is_freed es → AreOf client es
  release_last_of (reached end m le) = (none_named, (none_named, tt))
  release_last_of (not_reached end m lt) = (none_named, (none_named, tt))

  after_queued_of : {w finish : ℕ} {q : Frames} {o : Option ℕ} {u : Unmapped} {es : List CallEvent} → AfterQueued w finish q o u es → AreOf client es
  after_queued_of stays = tt
  after_queued_of (freed n ok es l) = (tt, release_last_of l)
  after_queued_of (not_freed n ok es l) = (tt, release_last_of l)

-- Releases, and ends of clients, of this step: they name its client.

module _ (st : Step) where
  abbrev client : Option ℕ
  client = client_named st

  unmapping_of : {held : Totals} {r : Reply} {es : List CallEvent} → Unmapping st held r es → AreOf client es
  unmapping_of (run r) = ((λ id e. e), tt)
  unmapping_of not_run = (tt, tt)

  release_first_of : {strict : Bool} {held : Totals} {o b : Option Reply} {es : List CallEvent} → ReleaseFirst strict st held o b es → AreOf client es
  release_first_of (no_flush r es other u) = unmapping_of u
  release_first_of (flush r b es follows u) = then_begins client es b (unmapping_of u)

  release_again_of : {strict ok : Bool} {n : ℕ} {held : Totals} {o b : Option Reply} {es : List CallEvent} → ReleaseAgain strict st held n ok o b es → AreOf client es
  release_again_of (no_flush_again end r es other u) = (none_named client, unmapping_of u)
  release_again_of (flush_again end r b es follows u) = (none_named client, then_begins client _ b (unmapping_of u))

  release_rest_of : {strict : Bool} {w finish n : ℕ} {held : Totals} {result : Result Unmapped Refusal} {es : List CallEvent} → ReleaseRest strict st held w finish n result es → AreOf client es
  release_rest_of (refused_again ok e b es a) = (tt, release_again_of a)
  release_rest_of (queued_again ok q b u es fs a f) = (tt, both_of client es fs (release_again_of a) (after_queued_of client f))

  pub release_of : {strict : Bool} {w finish : ℕ} {held : Totals} {result : Result Unmapped Refusal} {es : List CallEvent} → Release strict st held w finish result es → AreOf client es
  release_of (refused_first e b es f none) = release_first_of f
  release_of (queued_first q b u es fs f a) = both_of client es fs (release_first_of f) (after_queued_of client a)
  release_of (ring_was_full n b result es fs f is r) = both_of client es fs (release_first_of f) (release_rest_of r)

  closing_of : {held left : Totals} {r : Reply} {es : List CallEvent} → Closing st held left r es → AreOf client es
  closing_of (stops held left r es even other u) = unmapping_of u
  closing_of (queues held mid left q r es e k) = ((λ id e. e), closing_of k)

  close_first_of : {held left : Totals} {o b : Option Reply} {es : List CallEvent} → CloseFirst st held left o b es → AreOf client es
  close_first_of (closed r es other k) = closing_of k
  close_first_of (closed_full begin es k) = then_begins client es begin (closing_of k)

  close_again_of : {n : ℕ} {ok : Bool} {held left : Totals} {o b : Option Reply} {es : List CallEvent} → CloseAgain st n ok held left o b es → AreOf client es
  close_again_of (closed_again end r es other k) = (none_named client, closing_of k)
  close_again_of (full_none_queued end es even k) = (none_named client, closing_of k)
  close_again_of (full_again end begin es less k) = (none_named client, then_begins client es begin (closing_of k))

  close_rest_of : {n : ℕ} {held left : Totals} {ok : Bool} {o b : Option Reply} {es : List CallEvent} → CloseRest st n held left ok o b es → AreOf client es
  close_rest_of (last n ok held left o b es k) = (tt, close_again_of k)
  close_rest_of (another n m ok well held mid left o b es fs a c) = (tt, both_of client es fs (close_again_of a) (close_rest_of c))

  pub end_client_of : {held left : Totals} {remains : ℕ} {result : Result Ending Refusal} {es : List CallEvent} → EndClient st held left remains result es → AreOf client es
  end_client_of (in_one_hold queued o b result es sum c a) = close_first_of c
  end_client_of (in_more queued n ok mid o b result es fs sum c r a) = both_of client es fs (close_first_of c) (close_rest_of r)
