use denote.Param.Send.{shr_sync, sendable}
use Rattle.std.proofs.Common.{ℕ, ◌≡◌, ◌∙◌, ◌+◌, ◌≤◌, Option, List, [], ◌∷◌, ◌++◌, ap, sym, arith, map, length, vec_len}
use Rattle.std.proofs.lemmas.List.{length-append, length-map}
use Rattle.std.proofs.lemmas.Result.{IfOk-weaker}
use Rattle.iova_model.specs.State.{State}
use Rattle.iova_sink.specs.Calls.{Call, good_calls}
use Rattle.iova_keep.specs.Views.{Identity, SeatState}
use Rattle.iova_session.specs.declared.session_limits.SessionLimits.{SessionLimits}
use Rattle.iova_daemon.specs.Serving.{AreKept}
use Rattle.iova_daemon.specs.SessionThreads.{AllServed, starts}
use Rattle.iova_daemon.proofs.Places.{counts_all, within_kept, workers_kept, parts_kept, kept_of_starts, last_of}
use Rattle.iova_daemon.proofs.serve_sessions.Goals as goal

-- threads may share the domain
pub run_all-requires-sync-K : goal.run_all-requires-sync-K
run_all-requires-sync-K g c κs within =
    let domain = c.domains_are_sync.ensures in search (shr_sync, sendable) depth 20

-- what threads keep of the places that they were given
kept_places : {L : Type 0} (left sent : L → Option (List ℕ)) (calls reads : L → ℕ) (limits : SessionLimits) (k : Identity) (d : Option State)
    {P D : Type 0} (seat : P → SeatState) (waiting : P → List ℕ) (told : D → List Call) (ps : List P) (sinks others : List D) (last : D) (n : ℕ)
    {ts : List SeatState} {ws : List (List ℕ)} {ds : List (List Call)} → sinks ≡ others ++ last ∷ [] → length sinks ≡ n + 1 → length ps ≡ n
    → AllServed left sent calls reads (starts limits k d (map seat ps) (map waiting ps) (map told others)) ts ws ds
    → AreKept (map seat ps) (map told others) ts ds
kept_places left sent calls reads limits k d seat waiting told ps sinks others last n all many long served =
    let parts : length sinks ≡ length others + (0 + 1) = ap length all ∙ length-append others (last ∷ []) in
    kept_of_starts left sent calls reads limits k d (map seat ps) (map waiting ps) (map told others)
    (length-map ps waiting ∙ sym (length-map ps seat))
    (length-map others told ∙ omega (arith, parts, many, long) ∙ sym (length-map ps seat)) served

-- what was split off the first post's tally left workers and counts
pub returns-clause-posts : goal.returns-clause-posts
returns-clause-posts g c =
    IfOk-weaker c.run_all.result _ _
    (λ r kept.
    let places = kept_places _ _ _ _ _ _ _ (λ p. p.seat) (λ p. p.waiting.items) g.D.Sink.calls c.split_first-tally.new.posts.items c.args.sinks.items _ c.in-Some-pop.sink _
    c.in-Some-pop.ensures.items (sym c.args.sinks.ok.0 ∙ c.requires.sinks) (sym c.split_first-tally.new.posts.ok.0 ∙ c.split_first-tally.ensures.length) kept.0 in
    workers_kept (λ p. p.seat) c.args.posts.items _ r.posts.items places c.split_first-tally.ensures.workers)
    c.run_all.ensures.kept

-- the flusher's sink was the last one
pub returns-clause-flushed : goal.returns-clause-flushed
returns-clause-flushed g c =
    let calls = g.D.Sink.calls in
    let parts = length-append c.pop.new.self.items (c.in-Some-pop.sink ∷ []) in
    let all = ap length c.in-Some-pop.ensures.items in
    IfOk-weaker c.run_all.result _ _
    (λ r kept.
    let rounds = rw (c.split_first-tally.ensures.past, c.new-sink.ensures.sink) at kept.1.rounds in
    rw (last_of calls c.pop.new.self.items c.args.sinks.items c.in-Some-pop.sink [] (vec_len c.args.posts) c.in-Some-pop.ensures.items (omega (arith, parts, all, c.requires.sinks, c.args.sinks.ok.0))) rounds)
    c.run_all.ensures.kept

-- all that was counted is within what sinks were given: the flusher's is the last of them
pub returns-clause-within : goal.returns-clause-within
returns-clause-within g c =
    let calls = g.D.Sink.calls in
    let last : good_calls (calls c.new-sink.result.sink) ≡ good_calls (calls c.in-Some-pop.sink) =
    ap (λ s. good_calls (calls s)) c.new-sink.ensures.sink in
    IfOk-weaker c.run_all.result _ _
    (λ r kept.
    let rises : r.tally.good + good_calls (calls c.new-sink.result.sink) ≤ c.split_first-tally.result.good + good_calls (calls r.sink) =
    kept.1.good in
    let places = kept_places _ _ _ _ _ _ _ (λ p. p.seat) (λ p. p.waiting.items) calls c.split_first-tally.new.posts.items c.args.sinks.items _ c.in-Some-pop.sink _
    c.in-Some-pop.ensures.items (sym c.args.sinks.ok.0 ∙ c.requires.sinks) (sym c.split_first-tally.new.posts.ok.0 ∙ c.split_first-tally.ensures.length) kept.0 in
    let posts = within_kept (λ p. p.seat) c.args.posts.items _ r.posts.items places c.split_first-tally.ensures.tallies in
    counts_all calls c.args.sinks.items c.pop.new.self.items c.in-Some-pop.sink
    (map (λ p. p.seat) c.args.posts.items) (map (λ p. p.seat) r.posts.items)
    (map calls r.sinks.items) r.tally (calls r.sink)
    c.in-Some-pop.ensures.items posts (omega (arith, last, rises, c.split_first-tally.ensures.good)))
    c.run_all.ensures.kept

pub returns-clause-parts : goal.returns-clause-parts
returns-clause-parts g c =
    IfOk-weaker c.run_all.result _ _
    (λ r kept.
    let places = kept_places _ _ _ _ _ _ _ (λ p. p.seat) (λ p. p.waiting.items) g.D.Sink.calls c.split_first-tally.new.posts.items c.args.sinks.items _ c.in-Some-pop.sink _
    c.in-Some-pop.ensures.items (sym c.args.sinks.ok.0 ∙ c.requires.sinks) (sym c.split_first-tally.new.posts.ok.0 ∙ c.split_first-tally.ensures.length) kept.0 in
    parts_kept (λ p. p.seat) c.args.posts.items _ r.posts.items _ _ places c.split_first-tally.ensures.parts kept.1.parts)
    c.run_all.ensures.kept
