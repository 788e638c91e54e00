-- What the asks in front of the first free are answered, all the asks are; and what is run for asks, one after another.
use Rattle.std.proofs.Common.{ℕ, ◌≡◌, ◌≢◌, ◌+◌, ◌++◌, ◌∙◌, Bool, true, false, List, [], ◌∷◌, Option, length, refl, sym, ap, subst, arith, append_assoc, append-nil}
use Rattle.iova_range.specs.declared.refusal.Refusal.TheVariants as refusal
use Rattle.iova_model.specs.declared.step.Step.TheVariants as step
use Rattle.iova_model.specs.declared.step.Reply.{Reply}
use Rattle.iova_model.specs.declared.step.Reply.TheVariants as reply
use Rattle.iova_model.specs.State.{State}
use Rattle.iova_model.specs.Effects.{MovesTotals}
use Rattle.iova_range.specs.Frames.{Frames}
use Rattle.iova_keep.specs.declared.ask.Told.TheVariants as told
use Rattle.iova_model.specs.declared.totals.Totals.{Totals}
use Rattle.iova_keep.specs.declared.ask.Ask.{Ask}
use Rattle.iova_keep.specs.declared.ask.Ask.TheVariants as ask
use Rattle.iova_keep.specs.declared.ask.Told.{Told}
use Rattle.iova_keep.specs.Batches.{ToldOfAsks, TellsAsks, MayStop, before_free, may_do, IsReplyTold, MovesTold, TellsReply, OneRuns, StopRuns, stopped, asked, BatchedRuns}
use Rattle.iova_keep.specs.Events.{CallEvent, Ran, Unmapping}
use Rattle.iova_keep.specs.Steps.{Takes}
use Rattle.iova_keep.specs.StepLogs.{StepLog, StoresStep}
use Rattle.iova_keep.specs.Stored.{DoesAndStores}
use Rattle.iova_lock.proofs.Storing.{leads_more, stores_more}

may_stop : (asks : List Ask) → MayStop (before_free asks) → MayStop asks
may_stop [] h = h
may_stop (ask.Free lo ∷ asks) h = tt
may_stop (ask.Alloc frames limit ∷ asks) h = absurd h
may_stop (ask.Stat ∷ asks) h = absurd h

told_of : (asks : List Ask) (xs : List Told) (held left : Totals) → ToldOfAsks (before_free asks) xs held left → ToldOfAsks asks xs held left
told_of asks [] held left h = (may_stop asks h.0, h.1)
told_of [] (x ∷ xs) held left h = absurd h
told_of (ask.Free lo ∷ asks) (x ∷ xs) held left h = absurd h
told_of (ask.Alloc frames limit ∷ asks) (x ∷ xs) held left h = (h.0, h.1, h.2, told_of asks xs h.0 left h.3)
told_of (ask.Stat ∷ asks) (x ∷ xs) held left h = (h.0, h.1, h.2, told_of asks xs h.0 left h.3)

tells_of_all : (asks : List Ask) (before now : List Told) (count : ℕ) (held left : Totals) → TellsAsks (before_free asks) before now count held left → TellsAsks asks before now count held left
tells_of_all asks before now count held left h = record { more = h.more; appended = h.appended; counted = h.counted; told = told_of asks h.more held left h.told }

pub tells_of_asked : (strict : Bool) (asks : List Ask) (before now : List Told) (count : ℕ) (held left : Totals) → TellsAsks (may_do strict asks) before now count held left
    → TellsAsks asks before now count held left
tells_of_asked true asks before now count held left h = tells_of_all asks before now count held left h
tells_of_asked false asks before now count held left h = h

-- What is run for asks, in a book.

pub alloc_runs : (w id frames limit : ℕ) (before now : List Told) (held left : Totals) (x : Told) (r : Reply) (a b : Option StepLog) (s t : State) → now ≡ before ++ x ∷ [] → IsReplyTold r x → MovesTold x held left
    → Takes s (step.Alloc w id frames limit) r t → StoresStep a (step.Alloc w id frames limit) r b → DoesAndStores (OneRuns w id (ask.Alloc frames limit) before now held left) a b s t
alloc_runs w id frames limit before now held left x r a b s t appended is moves h k = record {
  events = Ran (step.Alloc w id frames limit) r ∷ [];
  allowed = record { told = x; appended = appended; moves = moves; runs = (r, is, refl) };
  leads = (t, h, refl);
  stored = (b, k, refl);
}

-- the shares move by what is answered as they moved by the reply
moves_told : (r : Reply) (x : Told) (held left : Totals) → IsReplyTold r x → MovesTotals r held left → MovesTold x held left
moves_told (reply.Given r) (told.Given q) held left is h = subst (λ (f : Frames). MovesTotals (reply.Given f) held left) (sym is) h
moves_told (reply.Given r) (told.Queued q) held left is h = absurd is
moves_told (reply.Given r) (told.Stat x) held left is h = absurd is
moves_told (reply.Given r) (told.Refused e) held left is h = absurd is
moves_told (reply.Queued r) (told.Queued q) held left is h = subst (λ (f : Frames). MovesTotals (reply.Queued f) held left) (sym is) h
moves_told (reply.Queued r) (told.Given q) held left is h = absurd is
moves_told (reply.Queued r) (told.Stat x) held left is h = absurd is
moves_told (reply.Queued r) (told.Refused e) held left is h = absurd is
moves_told (reply.Refused e) (told.Refused f) held left is h = h
moves_told (reply.Refused e) (told.Given q) held left is h = absurd is
moves_told (reply.Refused e) (told.Queued q) held left is h = absurd is
moves_told (reply.Refused e) (told.Stat x) held left is h = absurd is
moves_told (reply.Reserved r) x held left is h = absurd is
moves_told (reply.Opened n) x held left is h = absurd is
moves_told (reply.Begun n) x held left is h = absurd is
moves_told reply.Ended x held left is h = absurd is
moves_told (reply.Drained n) x held left is h = absurd is
moves_told (reply.Marked n) x held left is h = absurd is
moves_told reply.Empty x held left is h = absurd is

pub free_runs : (w id lo : ℕ) (before now : List Told) (held left : Totals) (r : Reply) (a b : Option StepLog) (s t : State) → (r ≢ reply.Refused refusal.RingFull) × TellsReply (ask.Free lo) r before now
    → MovesTotals r held left → DoesAndStores (Unmapping (step.Unmap w id lo) held r) a b s t → DoesAndStores (OneRuns w id (ask.Free lo) before now held left) a b s t
free_runs w id lo before now held left r a b s t tells moves d = record {
  events = d.events;
  allowed = record {
    told = tells.1.told;
    appended = tells.1.appended;
    moves = moves_told r tells.1.told held left tells.1.of_reply moves;
    runs = (r, tells.1.of_reply, tells.0, d.allowed);
  };
  leads = d.leads;
  stored = d.stored;
}

pub free_stops : (w id lo : ℕ) (held : Totals) (r : Reply) (a b : Option StepLog) (s t : State) → r ≡ reply.Refused refusal.RingFull → DoesAndStores (Unmapping (step.Unmap w id lo) held r) a b s t
    → DoesAndStores (StopRuns w id (ask.Free lo ∷ []) held) a b s t
free_stops w id lo held r a b s t full d = record {
  events = d.events;
  allowed = subst (λ x. Unmapping (step.Unmap w id lo) held x d.events) full d.allowed;
  leads = d.leads;
  stored = d.stored;
}

pub stat_runs : (w id : ℕ) (before now : List Told) (held left : Totals) (x : Told) (a : Option StepLog) (s : State) → now ≡ before ++ x ∷ [] → MovesTold x held left
    → DoesAndStores (OneRuns w id ask.Stat before now held left) a a s s
stat_runs w id before now held left x a s appended moves = record {
  events = [];
  allowed = record { told = x; appended = appended; moves = moves; runs = refl };
  leads = refl;
  stored = refl;
}

pub none_runs : (w id : ℕ) (asks : List Ask) (before : List Told) (held : Totals) (a : Option StepLog) (s : State) → length asks ≡ 0 → DoesAndStores (BatchedRuns w id asks before before 0 held held) a a s s
none_runs w id [] before held a s none = record {
  events = [];
  allowed = record { more = []; appended = sym (append-nil before); counted = refl; runs = stopped [] held [] refl };
  leads = refl;
  stored = refl;
}
none_runs w id (x ∷ asks) before held a s none = absurd (omega (arith, none))

still_stops : (w id : ℕ) (x : Ask) (asks : List Ask) (held : Totals) (es : List CallEvent) → StopRuns w id (x ∷ []) held es → StopRuns w id (x ∷ asks) held es
still_stops w id (ask.Free lo) asks held es h = h
still_stops w id (ask.Alloc frames limit) asks held es h = absurd h
still_stops w id ask.Stat asks held es h = absurd h

pub stop_runs : (w id : ℕ) (x : Ask) (asks : List Ask) (before now : List Told) (held left : Totals) (a b : Option StepLog) (s t : State) → now ≡ before → left ≡ held
    → DoesAndStores (StopRuns w id (x ∷ []) held) a b s t → DoesAndStores (BatchedRuns w id (x ∷ asks) before now 0 held left) a b s t
stop_runs w id x asks before now held left a b s t same kept d =
    subst (λ (l : Totals). DoesAndStores (BatchedRuns w id (x ∷ asks) before now 0 held l) a b s t) (sym kept) (record {
      events = d.events;
      allowed = record {
        more = [];
        appended = same ∙ sym (append-nil before);
        counted = refl;
        runs = stopped (x ∷ asks) held d.events (still_stops w id x asks held d.events d.allowed);
      };
      leads = d.leads;
      stored = d.stored;
    })

pub more_runs : (w id : ℕ) (x : Ask) (asks : List Ask) (before mid now : List Told) (count : ℕ) (held here left : Totals) (a b c : Option StepLog) (s m t : State)
    → DoesAndStores (OneRuns w id x before mid held here) a b s m → DoesAndStores (BatchedRuns w id asks mid now count here left) b c m t
    → DoesAndStores (BatchedRuns w id (x ∷ asks) before now (1 + count) held left) a c s t
more_runs w id x asks before mid now count held here left a b c s m t d k = record {
  events = d.events ++ k.events;
  allowed = record {
    more = d.allowed.told ∷ k.allowed.more;
    appended = k.allowed.appended ∙ (ap (λ (xs : List Told). xs ++ k.allowed.more) d.allowed.appended ∙ append_assoc before (d.allowed.told ∷ []) k.allowed.more);
    counted = let same = k.allowed.counted in omega (arith, same);
    runs = asked x asks d.allowed.told k.allowed.more held here left d.events k.events d.allowed.runs d.allowed.moves k.allowed.runs;
  };
  leads = leads_more s m t d.events k.events d.leads k.leads;
  stored = stores_more a b c d.events k.events d.stored k.stored;
}
