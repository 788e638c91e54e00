-- The end of a session's client.
use Rattle.std.proofs.Common.{ℕ, ◌≡◌, ◌+◌, List, [], ◌∷◌, Option, Some, None, refl, sym, ap, ◌∙◌, arith, subst}
use Rattle.std.proofs.Common.{append-nil}
use Rattle.std.specs.Io.KnownBytes.{Consumes, Appends}
use Rattle.std.specs.Prelude.{Ok, IsSome}
use Rattle.iova_keep.specs.Views.{LowersTold}
use Rattle.iova_model.specs.declared.totals.Totals.{Totals}
use Rattle.iova_keep.specs.declared.ending.Ending.{Ending}
use Rattle.iova_keep.specs.declared.ending.Ending.TheVariants as ending
use Rattle.iova_proto.specs.declared.answer.Answer.{Answer}
use Rattle.iova_proto.specs.declared.answer.Answer.TheVariants as answer
use Rattle.iova_proto.specs.declared.request.Request.{Request}
use Rattle.iova_proto.specs.declared.request.Request.TheVariants as request
use Rattle.iova_session.specs.declared.end.End.TheVariants as ends
use Rattle.iova_session.specs.Sessions.{ServesWithin, StopsAtBye}
use Rattle.iova_session.specs.Pairs.{Pair, requests_of, answers_of, requests_text, answers_text}
use Rattle.iova_session.specs.Desks.{client_after, given_in, taken_in, given_by, taken_by, MovesBy, AreAnswers, IsFirstAnswer, next_client, count_listed}
use Rattle.iova_session.specs.Posts.{EndsClientOf, EndsClient, EndsFrom}
use Rattle.iova_session.proofs.ToldPairs.{shares_stay}

ended : (id : ℕ) (ps : List Pair) (told : Option Ending) (old held new : Totals) (was now : List ℕ) → MovesBy (given_in ps) (taken_in ps) old held → EndsFrom id told (Some old) held new was now
    → EndsClientOf (Some id) ps told old new was now
ended id ps (Some (ending.Ended queued)) old held new was now moved ends =
    let l : LowersTold (Ok (ending.Ended queued)) held new = rw ends.2.0 at ends.1 in (
      ends.2.1,
      (let m = ap (λ (t : Totals). t.count) moved in let n = ap (λ (t : Totals). t.count) ends.2.1 in let k = ap (λ (t : Totals). t.count) l.1 in omega (arith, m, n, k, l.2)),
      (rw ends.2.0 at ends.3) ∙ append-nil was,
    )
ended id ps (Some (ending.Waiting left why)) old held new was now moved ends = (ends.2.1, rw ends.2.0 at ends.3)
ended id ps None old held new was now moved ends = (held, moved, ends)

-- what its end says, with the pairs before it
pub ended_opened : (id : ℕ) (ps : List Pair) (opened : Option ℕ) (told : Option Ending) (old held new : Totals) (was now : List ℕ) → opened ≡ client_after None ps → opened ≡ Some id
    → MovesBy (given_in ps) (taken_in ps) old held → EndsFrom id told (Some old) held new was now → EndsClient ps told old new was now
ended_opened id ps opened told old held new was now e some moved ends =
    subst (λ (o : Option ℕ). EndsClientOf o ps told old new was now) (sym some ∙ e) (ended id ps told old held new was now moved ends)

-- without a client nothing is given or taken
nothing_first : (number : ℕ) (r : Request) (a : Answer) → IsFirstAnswer number r a → next_client None a ≡ None → (given_by a ≡ []) × (taken_by a ≡ [])
nothing_first number (request.Hello domain sac) (answer.Opened id) h e = absurd cc
nothing_first number (request.Hello domain sac) (answer.Refused x) h e = (refl, refl)
nothing_first number (request.Hello domain sac) a h e = absurd h
nothing_first number r a h e = (ap given_by h, ap taken_by h)

still_some : (o : Option ℕ) (a : Answer) → IsSome o → IsSome (next_client o a)
still_some o (answer.Opened id) some = refl
still_some o a some = some

-- a session that has a client keeps one
some_after : (o : Option ℕ) (ps : List Pair) → IsSome o → client_after o ps ≡ None → ⊥
unfolding client_after
some_after None ps some e = absurd cc
some_after (Some id) [] some e = absurd cc
some_after (Some id) (p ∷ ps) some e = some_after (next_client (Some id) p.answer) ps (still_some (Some id) p.answer some) e

none_first : (o : Option ℕ) (ps : List Pair) → client_after o ps ≡ None → o ≡ None
none_first None ps e = refl
none_first (Some id) ps e = absurd (some_after (Some id) ps refl e)

pub nothing_moved : (number listed : ℕ) (ps : List Pair) → AreAnswers number None listed ps → client_after None ps ≡ None → (given_in ps ≡ []) × (taken_in ps ≡ [])
unfolding AreAnswers client_after given_in taken_in
nothing_moved number listed [] h e = (refl, refl)
nothing_moved number listed (p ∷ ps) h e =
    let still = none_first (next_client None p.answer) ps e in
    let first = nothing_first number p.request p.answer h.0 still in
    let rest = nothing_moved number (listed + count_listed p.answer) ps (subst (λ (o : Option ℕ). AreAnswers number o (listed + count_listed p.answer) ps) still h.1) (subst (λ (o : Option ℕ). client_after o ps ≡ None) still e) in
    (rw first.0 rest.0, rw first.1 rest.1)

pub none_opened : (number : ℕ) (ps : List Pair) (opened : Option ℕ) (old new : Totals) (was : List ℕ) → opened ≡ client_after None ps → opened ≡ None → AreAnswers number None 0 ps → MovesBy (given_in ps) (taken_in ps) old new
    → EndsClient ps None old new was was
none_opened number ps opened old new was e none answers moved =
    let n = nothing_moved number 0 ps answers (sym e ∙ none) in
    let m = rw (n.0, n.1) at moved in
    subst (λ (o : Option ℕ). EndsClientOf o ps None old new was was) (sym none ∙ e) (refl, shares_stay old new m, refl)

-- a session of which nothing was read
pub nothing_served : (most bound : ℕ) → ServesWithin most bound [] [] [] 0 ends.NoMemory
unfolding requests_of answers_of requests_text answers_text StopsAtBye
nothing_served most bound = record { rest = []; requests = record { good = tt; whole = refl; byes = tt; few = omega arith }; few = omega arith; says = (0, refl) }

pub nothing_answered : (number : ℕ) → AreAnswers number None 0 []
unfolding AreAnswers
nothing_answered number = tt

pub nothing_ended : (held : Totals) (was : List ℕ) → EndsClient [] None held held was was
unfolding client_after
nothing_ended held was = (refl, refl, refl)

pub none_taken : (left : Option (List ℕ)) → Consumes left left []
none_taken None = tt
none_taken (Some bytes) = refl

pub none_sent : (sent : Option (List ℕ)) → Appends sent sent []
none_sent None = tt
none_sent (Some bytes) = sym (append-nil bytes)
