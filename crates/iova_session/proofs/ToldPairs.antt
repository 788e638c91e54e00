-- What a batch answers, as pairs, and how the shares move by it.
use Rattle.std.proofs.Common.{ℕ, ◌≡◌, ◌≤◌, List, [], ◌∷◌, ◌++◌, Option, Some, None, refl, sym, ap, ◌∙◌, arith, subst, length-append, append-nil, rules, get_or}
use Rattle.std.proofs.lemmas.Grind.{common_steps}
use Rattle.iova_range.specs.declared.refusal.Refusal.{Refusal}
use Rattle.iova_range.specs.declared.refusal.Refusal.TheVariants as refusal
use Rattle.iova_keep.specs.Views.{SeatState, range_of}
use Rattle.iova_keep.specs.declared.unmapped.Unmapped.{Unmapped}
use Rattle.iova_keep.specs.declared.unmapped.Unmapped.TheVariants as unmapped
use Rattle.iova_model.specs.declared.step.Reply.TheVariants as reply
use Rattle.std.specs.Prelude.{IfOk, IfErr, Result, Ok, Err, length, take, map}
use Rattle.std.proofs.lemmas.List.Sums.{sum_by-append}
use Rattle.iova_range.specs.Frames.{Frames}
use Rattle.iova_model.specs.declared.totals.Totals.{Totals}
use Rattle.iova_model.specs.Clients.{totals_of}
use Rattle.iova_model.specs.Effects.{add_totals, MovesTotals}
use Rattle.iova_keep.specs.declared.ask.Ask.{Ask}
use Rattle.iova_keep.specs.declared.ask.Told.{Told}
use Rattle.iova_keep.specs.declared.ask.Told.TheVariants as lock_told
use Rattle.iova_keep.specs.Batches.{ToldOfAsks, TellsAsks, MovesTold, MayStop}
use Rattle.iova_proto.specs.declared.answer.Answer.{Answer}
use Rattle.iova_proto.specs.declared.request.Request.{Request}
use Rattle.iova_proto.specs.declared.request.Request.TheVariants as request
use Rattle.iova_session.specs.Pairs.{Pair, requests_of, answers_of}
use Rattle.iova_session.specs.Desks.{IsClientAnswer, answer_of_release, given_by, taken_by, given_in, taken_in, MovesBy, asks_in, ask_of, ask_then, answer_of, told_pairs, IsToldTo, AreTold, IsFirstAlone, SessionState, AnswersRun}

pub same_totals : (a b : Totals) → a.count ≡ b.count → a.frames ≡ b.frames → a.sum_lo ≡ b.sum_lo → a ≡ b
same_totals a b count frames sum_lo = λ i. record { count = count i; frames = frames i; sum_lo = sum_lo i }

-- moves, one after another
pub moves_on : (g h t u : List Frames) (a b c : Totals) → MovesBy g t a b → MovesBy h u b c → MovesBy (g ++ h) (t ++ u) a c
moves_on g h t u a b c x y =
    same_totals (add_totals c (totals_of (t ++ u))) (add_totals a (totals_of (g ++ h)))
    (let e = ap (λ (t : Totals). t.count) x in let f = ap (λ (t : Totals). t.count) y in omega (arith, e, f, length-append g h, length-append t u))
    (let e = ap (λ (t : Totals). t.frames) x in let f = ap (λ (t : Totals). t.frames) y in omega (arith, e, f, sum_by-append (λ (r : Frames). r.len) g h, sum_by-append (λ (r : Frames). r.len) t u))
    (let e = ap (λ (t : Totals). t.sum_lo) x in let f = ap (λ (t : Totals). t.sum_lo) y in omega (arith, e, f, sum_by-append (λ (r : Frames). r.lo) g h, sum_by-append (λ (r : Frames). r.lo) t u))

pub no_move : (a b : Totals) → b ≡ a → MovesBy [] [] a b
no_move a b e = ap (λ (t : Totals). add_totals t (totals_of [])) e

-- nothing was given, and nothing taken
pub shares_stay : (old new : Totals) → MovesBy [] [] old new → new ≡ old
shares_stay old new m = same_totals new old
    (let e = ap (λ (x : Totals). x.count) m in omega (arith, e))
    (let e = ap (λ (x : Totals). x.frames) m in omega (arith, e))
    (let e = ap (λ (x : Totals). x.sum_lo) m in omega (arith, e))

-- what a hold answers moves the shares as the line's answer says
pub told_moves : (x : Told) (a b : Totals) → MovesTold x a b → MovesBy (given_by (answer_of x)) (taken_by (answer_of x)) a b
told_moves (lock_told.Given r) a b m =
    same_totals (add_totals b (totals_of [])) (add_totals a (totals_of (r ∷ [])))
    (let e = ap (λ (t : Totals). t.count) m in omega (arith, e))
    (let e = ap (λ (t : Totals). t.frames) m in omega (arith, e))
    (let e = ap (λ (t : Totals). t.sum_lo) m in omega (arith, e))
told_moves (lock_told.Queued r) a b m =
    same_totals (add_totals b (totals_of (r ∷ []))) (add_totals a (totals_of []))
    (let e = ap (λ (t : Totals). t.count) m in omega (arith, e))
    (let e = ap (λ (t : Totals). t.frames) m in omega (arith, e))
    (let e = ap (λ (t : Totals). t.sum_lo) m in omega (arith, e))
told_moves (lock_told.Stat x) a b m = no_move a b m
told_moves (lock_told.Refused e) a b m = no_move a b m

-- and the result of a release
pub released_moves : (u : Unmapped) (a b : Totals) → MovesTotals (reply.Queued (range_of u)) a b → MovesBy (given_by (answer_of_release u)) (taken_by (answer_of_release u)) a b
released_moves (unmapped.Queued r) a b m = told_moves (lock_told.Queued r) a b m
released_moves (unmapped.Freed r) a b m = told_moves (lock_told.Queued r) a b m

pub released_answers : (listed lo : ℕ) (u : Unmapped) → (range_of u).lo ≡ lo → IsClientAnswer listed (request.Free lo) (answer_of_release u)
released_answers listed lo (unmapped.Queued r) is = is
released_answers listed lo (unmapped.Freed r) is = is

-- what a batch of the requests at the front is answered
pub record FromBatch (rs : List Request) (xs : List Told) (held left : Totals) : Type 0 where
  pub each : AreTold rs xs
  pub short : length xs ≤ length rs
  pub asked : requests_of (told_pairs rs xs) ≡ take (length xs) rs
  pub told : answers_of (told_pairs rs xs) ≡ map answer_of xs
  pub shares : MovesBy (given_in (told_pairs rs xs)) (taken_in (told_pairs rs xs)) held left

none_taken : {A : Type 0} (rs : List A) → [] ≡ take 0 rs
none_taken rs = search rules

from_next : (r : Request) (o : Option Ask) → ask_of r ≡ o → (rs : List Request) (x : Told) (xs : List Told) (held left : Totals)
    → ((mid : Totals) → ToldOfAsks (asks_in rs) xs mid left → FromBatch rs xs mid left) → ToldOfAsks (ask_then o (asks_in rs)) (x ∷ xs) held left → FromBatch (r ∷ rs) (x ∷ xs) held left
unfolding requests_of answers_of given_in taken_in
from_next r None e rs x xs held left next h = absurd h
from_next r (Some a) e rs x xs held left next h =
    let more = next h.0 h.3 in
    record {
      each = (subst (λ (o : Option Ask). IsToldTo o x) (sym e) h.1, more.each);
      short = omega (arith, more.short);
      asked = ap (λ (qs : List Request). r ∷ qs) more.asked;
      told = ap (λ (as_told : List Answer). answer_of x ∷ as_told) more.told;
      shares = moves_on (given_by (answer_of x)) (given_in (told_pairs rs xs)) (taken_by (answer_of x)) (taken_in (told_pairs rs xs)) held h.0 left (told_moves x held h.0 h.2) more.shares;
    }

pub from_batch : (rs : List Request) (xs : List Told) (held left : Totals) → ToldOfAsks (asks_in rs) xs held left → FromBatch rs xs held left
unfolding requests_of answers_of given_in taken_in
from_batch rs [] held left h = record { each = tt; short = omega arith; asked = none_taken rs; told = refl; shares = no_move held left h.1 }
from_batch [] (x ∷ xs) held left h = absurd h
from_batch (r ∷ rs) (x ∷ xs) held left h = from_next r (ask_of r) refl rs x xs held left (λ mid t. from_batch rs xs mid left t) h

-- where a batch stops at once, the first request is asked alone
pub first_alone : (rs : List Request) → MayStop (asks_in rs) → IsFirstAlone rs
first_alone [] h = tt
first_alone (request.Alloc frames limit ∷ rs) h = absurd h
first_alone (request.Stat ∷ rs) h = absurd h
first_alone (r ∷ rs) h = tt

-- where no ask stands at the front, the first request is asked alone
pub none_in_front : (rs : List Request) (asks : List Ask) (n : ℕ) → n ≡ 0 → take n asks ≡ asks_in rs → IsFirstAlone rs
none_in_front rs asks n zero e =
    let none : [] ≡ asks_in rs = none_taken asks ∙ ap (λ k. take k asks) (sym zero) ∙ e in
    first_alone rs (subst MayStop none tt)

pub length0 : (xs : List Told) → length xs ≡ 0 → xs ≡ []
length0 [] e = refl
length0 (x ∷ xs) e = absurd (omega (arith, e))

-- the pairs of a batch whose room for answers was empty
pub from_told : (rs : List Request) (asks : List Ask) (before now : List Told) (count : ℕ) (held left : Totals) → asks ≡ asks_in rs → before ≡ [] → TellsAsks asks before now count held left
    → FromBatch rs now held left × (length now ≡ count)
from_told rs asks before now count held left e none h =
    let all : now ≡ h.more = h.appended ∙ ap (λ (xs : List Told). xs ++ h.more) none in
    let t : ToldOfAsks (asks_in rs) now held left = subst (λ (xs : List Told). ToldOfAsks (asks_in rs) xs held left) (sym all) (subst (λ (qs : List Ask). ToldOfAsks qs h.more held left) e h.told) in
    (from_batch rs now held left t, ap (λ (xs : List Told). length xs) all ∙ h.counted)

-- a batch that did none has a first request that is asked alone, and moved nothing
pub none_done : (rs : List Request) (asks : List Ask) (before now : List Told) (count : ℕ) (held left : Totals) → asks ≡ asks_in rs → before ≡ [] → count ≡ 0 → TellsAsks asks before now count held left
    → IsFirstAlone rs × (left ≡ held) × (now ≡ [])
none_done rs asks before now count held left e none zero h =
    let all : now ≡ h.more = h.appended ∙ ap (λ (xs : List Told). xs ++ h.more) none in
    let nothing : h.more ≡ [] = length0 h.more (h.counted ∙ zero) in
    let t : ToldOfAsks (asks_in rs) [] held left = subst (λ (xs : List Told). ToldOfAsks (asks_in rs) xs held left) nothing (subst (λ (qs : List Ask). ToldOfAsks qs h.more held left) e h.told) in
    (first_alone rs t.0, t.1, all ∙ nothing)

-- nothing is asked
pub none_asked : (rs : List Request) (s : SessionState) (answers : List Answer) (held : Totals) → AnswersRun rs 0 s s answers answers held held
unfolding requests_of answers_of given_in taken_in
none_asked rs s answers held = record {
  pairs = [];
  same = refl;
  added = sym (append-nil s.pairs);
  asked = none_taken rs;
  told = sym (append-nil answers);
  shares = refl;
}

first_of : (rs : List Request) (d : Request) → 1 ≤ length rs → get_or rs 0 d ∷ [] ≡ take 1 rs
first_of [] d some = absurd (omega (arith, some))
first_of (r ∷ rs) d some = search rules

-- one request is asked
pub one_asked : (rs : List Request) (d : Request) (a : Answer) (s t : SessionState) (before later : List Answer) (held left : Totals) → 1 ≤ length rs
    → t.number ≡ s.number → t.pairs ≡ s.pairs ++ record { request = get_or rs 0 d; answer = a } ∷ [] → later ≡ before ++ a ∷ [] → MovesBy (given_by a) (taken_by a) held left
    → AnswersRun rs 1 s t before later held left
unfolding requests_of answers_of given_in taken_in
one_asked rs d a s t before later held left some same added more moved = record {
  pairs = record { request = get_or rs 0 d; answer = a } ∷ [];
  same = same;
  added = added;
  asked = first_of rs d some;
  told = more;
  shares = subst (λ (g : List Frames). MovesBy g (taken_by a ++ []) held left) (sym (append-nil (given_by a))) (subst (λ (t : List Frames). MovesBy (given_by a) t held left) (sym (append-nil (taken_by a))) moved);
}

pub given_join : (ps qs : List Pair) → given_in (ps ++ qs) ≡ given_in ps ++ given_in qs
unfolding given_in
given_join ps qs = search (rules, common_steps)

pub taken_join : (ps qs : List Pair) → taken_in (ps ++ qs) ≡ taken_in ps ++ taken_in qs
unfolding taken_in
taken_join ps qs = search (rules, common_steps)

-- a session's pairs move the shares on
pub moved_on : (rs : List Request) (count : ℕ) (s t : SessionState) (before later : List Answer) (first held left : Totals) → MovesBy (given_in s.pairs) (taken_in s.pairs) first held
    → AnswersRun rs count s t before later held left → MovesBy (given_in t.pairs) (taken_in t.pairs) first left
moved_on rs count s t before later first held left m a =
    let all = moves_on (given_in s.pairs) (given_in a.pairs) (taken_in s.pairs) (taken_in a.pairs) first held left m a.shares in
    let g = ap given_in a.added ∙ given_join s.pairs a.pairs in
    let k = ap taken_in a.added ∙ taken_join s.pairs a.pairs in
    subst (λ (x : List Frames). MovesBy x (taken_in t.pairs) first left) (sym g) (subst (λ (x : List Frames). MovesBy (given_in s.pairs ++ given_in a.pairs) x first left) (sym k) all)

pub moved_none : (s : SessionState) (first : Totals) → s.pairs ≡ [] → MovesBy (given_in s.pairs) (taken_in s.pairs) first first
unfolding given_in taken_in
moved_none s first none = rw none (no_move first first refl)

-- whether they were asked or not
pub moved_either : (result : Result ℕ Refusal) (rs : List Request) (s t : SessionState) (before later : List Answer) (first : Totals) (old new : SeatState) → MovesBy (given_in s.pairs) (taken_in s.pairs) first old.held
    → IfOk result (λ n. AnswersRun rs n s t before later old.held new.held) → IfErr result (λ e. (e ≡ refusal.NoMemory) × (t ≡ s) × (later ≡ before) × (new ≡ old))
    → MovesBy (given_in t.pairs) (taken_in t.pairs) first new.held
moved_either (Ok n) rs s t before later first old new m ok err = moved_on rs n s t before later first old.held new.held m ok
moved_either (Err e) rs s t before later first old new m ok err =
    subst (λ (x : SessionState). MovesBy (given_in x.pairs) (taken_in x.pairs) first new.held) (sym err.1)
    (subst (λ (x : SeatState). MovesBy (given_in s.pairs) (taken_in s.pairs) first x.held) (sym err.3) m)
