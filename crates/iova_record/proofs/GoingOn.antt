-- What becomes of a record: nothing where no step is run, and what comes of some steps and then of others.
use Rattle.std.proofs.Common.{◌≡◌, ◌≤◌, Bool, true, false, List, [], ◌∷◌, ◌++◌, length, Option, Some, None, refl, sym, ap, ◌∙◌, subst, append_assoc, append-nil}
use Rattle.iova_model.specs.declared.step.Step.{Step}
use Rattle.iova_model.specs.declared.step.Reply.{Reply}
use Rattle.iova_model.specs.State.{State}
use Rattle.iova_keep.specs.Events.{CallEvent, Ran, NotRun, Invalidated}
use Rattle.iova_keep.specs.StepLogs.{StepLog, StoresStep, LogGoesOn, GoesOn, unrecorded, recorded}
use Rattle.iova_keep.specs.Stored.{StoresEvents, RecordsCall}
use Rattle.iova_record.proofs.StepLogs.{stores_goes_on}

-- What steps make of a log is what any one of them makes of it, none, or some and then others.

pub unchanged_goes_on : (o : Option StepLog) → GoesOn o o
unchanged_goes_on None = unrecorded
unchanged_goes_on (Some log) =
    recorded log log (record { more = []; appended = sym (append-nil log.pairs); room = refl; full = λ (h : log.recording ≡ true) (k : log.recording ≡ false). absurd cc; ended = λ (h : log.recording ≡ false). refl })

log_further : (a b c : StepLog) → LogGoesOn a b → LogGoesOn b c → LogGoesOn a c
log_further a b c h k = record {
  more = h.more ++ k.more;
  appended = k.appended ∙ (ap (λ ps. ps ++ k.more) h.appended ∙ append_assoc a.pairs h.more k.more);
  room = k.room ∙ h.room;
  full = λ (e : a.recording ≡ true) (f : c.recording ≡ false). of b.recording refl e f;
  ended = λ (e : a.recording ≡ false). k.ended (ap (λ (l : StepLog). l.recording) (h.ended e) ∙ e) ∙ h.ended e;
}
  where
    of : (r : Bool) → b.recording ≡ r → a.recording ≡ true → c.recording ≡ false → c.room ≤ length c.pairs
    of true is e f = k.full is f
    of false is e f = subst (λ (l : StepLog). l.room ≤ length l.pairs) (sym (k.ended is)) (h.full e is)

recorded_further : (a b : StepLog) {c : Option StepLog} → LogGoesOn a b → GoesOn (Some b) c → GoesOn (Some a) c
recorded_further a b h (recorded x y k) = recorded a y (log_further a b y h k)

pub goes_on_further : {a b c : Option StepLog} → GoesOn a b → GoesOn b c → GoesOn a c
goes_on_further unrecorded k = k
goes_on_further (recorded x y h) k = recorded_further x y h k

-- What is stored makes this of a log: a step, what happens in a call, and so each call of a keeper.

pub step_goes_on : (old new : Option StepLog) (st : Step) (r : Reply) → StoresStep old st r new → GoesOn old new
step_goes_on old new st r h = stores_goes_on old new (record { step = st; point = h.0; reply = r }) h.1

pub events_go_on : (old new : Option StepLog) (es : List CallEvent) → StoresEvents old es new → GoesOn old new
events_go_on old new [] h = subst (λ o. GoesOn old o) (sym h) (unchanged_goes_on old)
events_go_on old new (Ran st r ∷ es) h = goes_on_further (step_goes_on old h.0 st r h.1) (events_go_on h.0 new es h.2)
events_go_on old new (NotRun st held ∷ es) h = events_go_on old new es h
events_go_on old new (Invalidated n ok ∷ es) h = events_go_on old new es h

pub call_goes_on : (before after : Option State) (old new : Option StepLog) (Allowed : State → State → List CallEvent → Type 0) → RecordsCall before after old new Allowed → GoesOn old new
call_goes_on None after old new Allowed h = subst (λ o. GoesOn o new) (sym h.0) (subst (λ o. GoesOn None o) (sym h.1) unrecorded)
call_goes_on (Some s) None old new Allowed h = absurd h
call_goes_on (Some s) (Some t) old new Allowed h = events_go_on old new h.events h.stored
