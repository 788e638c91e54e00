-- What a session thread does, one turn more.
use Rattle.std.proofs.Common.{ℕ, ◌≡◌, ◌∙◌, ◌+◌, ◌≤◌, List, Option, refl, subst, arith}
use Rattle.iova_sink.specs.Calls.{Call, good_calls}
use Rattle.iova_keep.specs.Views.{Identity, SeatState, KeepsPlace}
use Rattle.iova_session.specs.declared.session_limits.SessionLimits.{SessionLimits}
use Rattle.iova_session.specs.PostSessions.{Between}
use Rattle.iova_daemon.specs.SessionThreads.{ServesOnThread, tries, serves, ServesSession, IsTried}

-- a place that nothing was done at
pub keeps_same : (s : SeatState) (calls : List Call) → KeepsPlace s s calls calls
keeps_same s calls = record { worker = refl; parts = refl; tally = omega arith }

-- what a call and another one behind it leave of a place
pub keeps_more : (s t u : SeatState) (c d e : List Call) → KeepsPlace s t c d → KeepsPlace t u d e
    → KeepsPlace s u c e
keeps_more s t u c d e one more =
    let first : t.tally.good + good_calls c ≤ s.tally.good + good_calls d = one.tally in
    let rest : u.tally.good + good_calls d ≤ t.tally.good + good_calls e = more.tally in
    record { worker = more.worker ∙ one.worker; parts = more.parts ∙ one.parts; tally = omega (arith, first, rest) }

-- a try more
pub then_tried : {L : Type 0} (left sent : L → Option (List ℕ)) (calls reads : L → ℕ) (limits : SessionLimits) (k now : Identity) (a b c : Between)
    → ServesOnThread left sent calls reads limits k.strict k.number a b → now ≡ k → IsTried now.number b c
    → ServesOnThread left sent calls reads limits k.strict k.number a c
then_tried left sent calls reads limits k now a b c before same tried =
    tries a b c before (subst (λ i. IsTried i.number b c) same tried)

-- a session more
pub then_served : {L : Type 0} (left sent : L → Option (List ℕ)) (calls reads : L → ℕ) (limits : SessionLimits) (k now : Identity) (a b c : Between)
    → ServesOnThread left sent calls reads limits k.strict k.number a b → now ≡ k
    → ServesSession left sent calls reads limits now.strict now.number b c
    → ServesOnThread left sent calls reads limits k.strict k.number a c
then_served left sent calls reads limits k now a b c before same served =
    serves a b c before (subst (λ i. ServesSession left sent calls reads limits i.strict i.number b c) same served)
