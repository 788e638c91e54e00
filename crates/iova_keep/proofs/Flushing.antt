-- What flushes leave of a tally: its events in their order, and its count.
use Rattle.std.proofs.Common.{ℕ, ◌≡◌, ◌≢◌, ◌+◌, ◌≤◌, Bool, true, false, List, [], ◌∷◌, ◌++◌, Option, Some, None, refl, sym, ap, ◌∙◌, subst, append-nil, append_assoc, arith}
use Rattle.std.specs.Prelude.{if◌then◌else◌, MatchOption, IfSome, IfNone}
use Rattle.iova_range.specs.declared.refusal.Refusal.{Refusal}
use Rattle.iova_model.specs.declared.step.Step.{Step}
use Rattle.iova_model.specs.declared.step.Step.TheVariants as step
use Rattle.iova_model.specs.declared.step.Reply.{Reply}
use Rattle.iova_model.specs.declared.step.Reply.TheVariants as reply
use Rattle.iova_model.specs.Effects.{ended_well}
use Rattle.iova_sink.specs.Calls.{Invalidation, Call, good_calls}
use Rattle.iova_keep.specs.declared.flush_history.FlushEvent.{FlushEvent}
use Rattle.iova_keep.specs.declared.flush_history.FlushEvent.TheVariants as flush_event
use Rattle.iova_keep.specs.FlushEvents.{flush_events, MakesRounds, EndsAnyRounds}
use Rattle.iova_keep.specs.Views.{TallyState, SeatState, tally_after, tally_begun, tally_asked, BeginsAtSeat, EndsAtSeat, KeepsPlace, IsSecondBegin}
use Rattle.iova_keep.proofs.Doing.{good_within, ended_at_most}
use Rattle.iova_keep.proofs.Rounds.{one_round, then_rounds}

-- What a hold leaves of a tally.

pub begun_past : (n : ℕ) (o : Option Reply) (t u : TallyState) → o ≡ Some (reply.Begun n) → u ≡ tally_begun o t
    → u.past ≡ t.past ++ flush_event.Began n ∷ []
begun_past n o t u is same = ap (λ (x : TallyState). x.past) (same ∙ ap (λ (b : Option Reply). tally_begun b t) is)

no_event_of : (r : Reply) → ((n : ℕ) → Some r ≢ Some (reply.Begun n)) → flush_events step.Begin r ≡ []
no_event_of (reply.Begun n) none = absurd (none n refl)
no_event_of r none = refl

pub not_begun_past : (o : Option Reply) (t u : TallyState) → ((n : ℕ) → o ≢ Some (reply.Begun n)) → u ≡ tally_begun o t → u.past ≡ t.past
not_begun_past None t u none same = ap (λ (x : TallyState). x.past) same
not_begun_past (Some r) t u none same =
    ap (λ (x : TallyState). x.past) same ∙ ap (λ (es : List FlushEvent). t.past ++ es) (no_event_of r none) ∙ append-nil t.past

-- a flush ended, and none began after it
pub ended_past : (n : ℕ) (ok : Bool) (end : Reply) (o : Option Reply) (first : List FlushEvent) (t u v : TallyState)
    → t.past ≡ first ++ flush_event.Began n ∷ [] → u ≡ tally_asked n ok t
    → v ≡ tally_begun o (tally_after (step.End n ok) end u) → ((m : ℕ) → o ≢ Some (reply.Begun m))
    → v.past ≡ ((first ++ flush_event.Began n ∷ []) ++ flush_event.Asked n ok ∷ []) ++ flush_events (step.End n ok) end
ended_past n ok end o first t u v is asked same none =
    let all = not_begun_past o (tally_after (step.End n ok) end u) v none same in
    let past : u.past ≡ (first ++ flush_event.Began n ∷ []) ++ flush_event.Asked n ok ∷ [] =
    ap (λ (x : TallyState). x.past) asked ∙ ap (λ (es : List FlushEvent). es ++ flush_event.Asked n ok ∷ []) is in
    all ∙ ap (λ (es : List FlushEvent). es ++ flush_events (step.End n ok) end) past

-- a flush ended, and another one began after it
pub ended_and_begun : (n m : ℕ) (ok : Bool) (end : Reply) (o : Option Reply) (first : List FlushEvent) (t u v : TallyState)
    → t.past ≡ first ++ flush_event.Began n ∷ [] → u ≡ tally_asked n ok t
    → v ≡ tally_begun o (tally_after (step.End n ok) end u) → o ≡ Some (reply.Begun m)
    → v.past ≡ (((first ++ flush_event.Began n ∷ []) ++ flush_event.Asked n ok ∷ []) ++ flush_events (step.End n ok) end) ++ flush_event.Began m ∷ []
ended_and_begun n m ok end o first t u v is asked same begun =
    let all = begun_past m o (tally_after (step.End n ok) end u) v begun same in
    let past : u.past ≡ (first ++ flush_event.Began n ∷ []) ++ flush_event.Asked n ok ∷ [] =
    ap (λ (x : TallyState). x.past) asked ∙ ap (λ (es : List FlushEvent). es ++ flush_event.Asked n ok ∷ []) is in
    all ∙ ap (λ (es : List FlushEvent). (es ++ flush_events (step.End n ok) end) ++ flush_event.Began m ∷ []) past

-- the parts of a tally stay, and a begin doesn't raise its count
pub begun_parts : (o : Option Reply) (t u : TallyState) → u ≡ tally_begun o t → u.parts ≡ t.parts
begun_parts None t u same = ap (λ (x : TallyState). x.parts) same
begun_parts (Some r) t u same = ap (λ (x : TallyState). x.parts) same

pub begun_good : (o : Option Reply) (t u : TallyState) → u ≡ tally_begun o t → u.good ≡ t.good
begun_good None t u same = ap (λ (x : TallyState). x.good) same
begun_good (Some r) t u same = let e = ap (λ (x : TallyState). x.good) same in omega (arith, e)

pub ended_parts : (n : ℕ) (ok : Bool) (end : Reply) (o : Option Reply) (t u v : TallyState) → u ≡ tally_asked n ok t
    → v ≡ tally_begun o (tally_after (step.End n ok) end u) → v.parts ≡ t.parts
ended_parts n ok end o t u v asked same = begun_parts o (tally_after (step.End n ok) end u) v same ∙ ap (λ (x : TallyState). x.parts) asked

-- it rises by one at most, and only where the flush succeeded
pub ended_good : (n : ℕ) (ok : Bool) (end : Reply) (o : Option Reply) (t u v : TallyState) → u ≡ tally_asked n ok t
    → v ≡ tally_begun o (tally_after (step.End n ok) end u) → v.good ≤ t.good + (if ok then 1 else 0)
ended_good n ok end o t u v asked same =
    let a : v.good ≡ u.good + ended_well (step.End n ok) end = begun_good o (tally_after (step.End n ok) end u) v same in
    let b : u.good ≡ t.good = ap (λ (x : TallyState). x.good) asked in
    let c = ended_at_most n ok end in
    omega (arith, a, b, c)

-- A whole flush of a tally.

heard_tally : (o : Option Reply) (n : ℕ) (ok : Bool) (u v : TallyState) → MatchOption o ⊥ (λ r. v ≡ tally_after (step.End n ok) r u)
    → (r : Reply) × (v ≡ tally_after (step.End n ok) r u)
heard_tally None n ok u v h = absurd h
heard_tally (Some r) n ok u v h = (r, h)

pub flushed_good : (n : ℕ) (ok : Bool) (o : Option Reply) (t u w v : TallyState) (domain : ℕ) (before now : List Call)
    → u ≡ tally_after step.Begin (reply.Begun n) t → w ≡ tally_asked n ok u → MatchOption o ⊥ (λ r. v ≡ tally_after (step.End n ok) r w)
    → now ≡ before ++ Invalidation domain n ok ∷ [] → v.good + good_calls before ≤ t.good + good_calls now
flushed_good n ok o t u w v domain before now begun asked ends told =
    let end = heard_tally o n ok w v ends in
    let most : v.good ≤ u.good + (if ok then 1 else 0) = ended_good n ok end.0 None u w v asked end.1 in
    let same : u.good ≡ t.good = begun_good (Some (reply.Begun n)) t u begun in
    good_within n ok t.good v.good domain before now (omega (arith, most, same)) told

pub flushed_rounds : (n : ℕ) (ok : Bool) (o : Option Reply) (t u w v : TallyState) (domain : ℕ) (before now : List Call)
    → u ≡ tally_after step.Begin (reply.Begun n) t → w ≡ tally_asked n ok u → MatchOption o ⊥ (λ r. v ≡ tally_after (step.End n ok) r w)
    → now ≡ before ++ Invalidation domain n ok ∷ [] → MakesRounds domain t.past v.past before now
flushed_rounds n ok o t u w v domain before now begun asked ends told =
    let end = heard_tally o n ok w v ends in
    let first : u.past ≡ t.past ++ flush_event.Began n ∷ [] = ap (λ (x : TallyState). x.past) begun in
    one_round domain n ok end.0 t.past v.past before now (ended_past n ok end.0 None t.past u w v first asked end.1 (λ m e. cc)) told

pub flushed_parts : (n : ℕ) (ok : Bool) (o : Option Reply) (t u w v : TallyState)
    → u ≡ tally_after step.Begin (reply.Begun n) t → w ≡ tally_asked n ok u → MatchOption o ⊥ (λ r. v ≡ tally_after (step.End n ok) r w)
    → v.parts ≡ t.parts
flushed_parts n ok o t u w v begun asked ends =
    let end = heard_tally o n ok w v ends in
    ended_parts n ok end.0 None u w v asked end.1 ∙ ap (λ (x : TallyState). x.parts) begun

-- What holds and calls of the sink leave of a seat.

pub place_begun : (begun : Option Reply) (s t : SeatState) (calls : List Call) → BeginsAtSeat begun s t → KeepsPlace s t calls calls
place_begun begun s t calls h =
    let good = begun_good begun s.tally t.tally h.1 in
    record { worker = h.0; parts = begun_parts begun s.tally t.tally h.1; tally = omega (arith, good) }

pub place_at_end : (n : ℕ) (ok : Bool) (begun : Option Reply) (s t u : SeatState) (domain : ℕ) (before now : List Call)
    → t ≡ record s { tally = tally_asked n ok s.tally } → EndsAtSeat n ok begun t u → now ≡ before ++ Invalidation domain n ok ∷ []
    → KeepsPlace s u before now
place_at_end n ok begun s t u domain before now asked end told =
    let tally : t.tally ≡ tally_asked n ok s.tally = ap (λ (x : SeatState). x.tally) asked in
    record {
      worker = end.worker ∙ ap (λ (x : SeatState). x.worker) asked;
      parts = ended_parts n ok end.end begun s.tally t.tally u.tally tally end.tally;
      tally = good_within n ok s.tally.good u.tally.good domain before now (ended_good n ok end.end begun s.tally t.tally u.tally tally end.tally) told;
    }

pub place_then : (s t u : SeatState) (before between now : List Call) → KeepsPlace s t before between → KeepsPlace t u between now → KeepsPlace s u before now
place_then s t u before between now one more = record {
  worker = more.worker ∙ one.worker;
  parts = more.parts ∙ one.parts;
  tally = omega (arith, one.tally, more.tally);
}

-- Rounds, where a hold before them may have begun the first one.
pub any_rounds : (domain : ℕ) (o : Option ℕ) (begun : Option Reply) (s t : TallyState) (after : List FlushEvent) (before now : List Call)
    → IfSome o (λ n. begun ≡ Some (reply.Begun n)) → IfNone o ((n : ℕ) → begun ≢ Some (reply.Begun n))
    → t ≡ tally_begun begun s → EndsAnyRounds domain o t.past after before now → MakesRounds domain s.past after before now
any_rounds domain None begun s t after before now some none same rounds = rw (not_begun_past begun s t none same) at rounds
any_rounds domain (Some n) begun s t after before now some none same rounds = rounds s.past (begun_past n begun s t some same)

-- The sink answered, a hold ended the flush, and further rounds were made.
pub ends_any : (domain n : ℕ) (ok : Bool) (o : Option ℕ) (begun : Option Reply) (first : List FlushEvent) (s t u : SeatState) (after : List FlushEvent)
    (before between now : List Call) → s.tally.past ≡ first ++ flush_event.Began n ∷ []
    → t ≡ record s { tally = tally_asked n ok s.tally } → EndsAtSeat n ok begun t u
    → IfSome o (λ n. begun ≡ Some (reply.Begun n)) → IfNone o ((n : ℕ) → begun ≢ Some (reply.Begun n))
    → between ≡ before ++ Invalidation domain n ok ∷ [] → EndsAnyRounds domain o u.tally.past after between now
    → MakesRounds domain first after before now
ends_any domain n ok o begun first s t u after before between now is asked end some none told rounds =
    let tally : t.tally ≡ tally_asked n ok s.tally = ap (λ (x : SeatState). x.tally) asked in
    let mid : TallyState = tally_after (step.End n ok) end.end t.tally in
    let past : mid.past ≡ ((first ++ flush_event.Began n ∷ []) ++ flush_event.Asked n ok ∷ []) ++ flush_events (step.End n ok) end.end =
    ended_past n ok end.end None first s.tally t.tally mid is tally refl (λ m e. cc) in
    then_rounds domain first mid.past after before between now
    (one_round domain n ok end.end first mid.past before between past told)
    (any_rounds domain o begun mid u.tally after between now some none end.tally rounds)

-- no flush begins after an unmap that was refused
pub none_second : (e : Refusal) (o b : Option Reply) → o ≡ Some (reply.Refused e) → IsSecondBegin o b → (n : ℕ) → b ≢ Some (reply.Begun n)
none_second e o None is heard n = λ same. cc
none_second e o (Some x) is heard n = λ same. let q = heard.0.1 in absurd cc
