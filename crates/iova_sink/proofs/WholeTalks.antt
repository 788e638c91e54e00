-- What passes over a channel from the first call of its sink to the last.
use Rattle.std.proofs.Common.{◌≡◌, ◌≢◌, ℕ, ◌⊎◌, inl, inr, Bool, true, false, List, [], ◌∷◌, ◌++◌, Result, Ok, Err, is_ok, codes, get_or, length, refl, sym, ap, ◌∙◌, subst, arith, append_assoc, append-nil, length-append}
use Rattle.iova_range.specs.Frames.{Frames}
use Rattle.iova_sink.specs.declared.history.Passed.{Passed}
use Rattle.iova_sink.specs.declared.sink.SinkFault.{SinkFault}
use Rattle.iova_sink.specs.declared.sink.SinkFault.TheVariants as fault
use Rattle.iova_sink.specs.Calls.{Call, Invalidation, Gone, with_call, with_gone}
use Rattle.iova_sink.specs.Records.{inval_line, reset_line, gone_text, done_line, fail_line}
use Rattle.iova_sink.specs.Channels.{Talk, IsFailure, exchange, Answers}
use Rattle.iova_sink.specs.Talks.{request_of, done_of, is_good, PassesAt, IsTalk, begun, called, reset, GoodCallsAreAnswered}

-- the two answers are not one
unlike : (word : List ℕ) (number : ℕ) → fail_line word number ≢ done_line word number
unlike word number e = let first : 102 ≡ 100 = ap (λ (xs : List ℕ). get_or xs 0 0) e in omega (arith, first)

-- what a request adds to what passed
abbrev Adds : (old new : Talk) (good : Bool) (request done : List ℕ) → Type 0
Adds old new good request done = (part : List Passed) × (new.passed ≡ old.passed ++ part) × PassesAt good request done part

adds : (old new : Talk) (request word : List ℕ) (number : ℕ) (r : Result Unit SinkFault)
    → Answers old new request (done_line word number) (fail_line word number) r → Adds old new (is_ok r) request (done_line word number)
adds old new request word number (Ok u) p = (exchange p.anew request (done_line word number ++ new.ahead), p.passed, (p.anew, new.ahead, refl))
adds old new request word number (Err fault.Refused) p = (
  exchange p.anew request (fail_line word number ++ new.ahead) ++ [],
  p.passed ∙ ap (λ (x : List Passed). old.passed ++ x) (sym (append-nil (exchange p.anew request (fail_line word number ++ new.ahead)))),
  record {
    anew = p.anew;
    front = request;
    more = fail_line word number ++ new.ahead;
    got = fail_line word number;
    last = [];
    is_front = ([], sym (append-nil request));
    is_first = (new.ahead, refl);
    passed = refl;
    failure = inr (refl, refl, unlike word number);
  },
)
adds old new request word number (Err fault.Broken) p = (
  exchange p.anew p.front p.more ++ p.last,
  p.passed,
  record {
    anew = p.anew;
    front = p.front;
    more = p.more;
    got = p.got;
    last = p.last;
    is_front = p.is_front;
    is_first = p.is_first;
    passed = refl;
    failure = why p.failure;
  },
)
  where
    why : IsFailure p.last ⊎ ((p.last ≡ []) × (p.front ≡ request) × (p.got ≢ done_line word number) × (p.got ≢ fail_line word number))
        → IsFailure p.last ⊎ ((p.last ≡ []) × (p.front ≡ request) × (p.got ≢ done_line word number))
    why (inl is) = inl is
    why (inr is) = inr (is.0, is.1, is.2)

pub invalidated : (old new : Talk) (calls : List Call) (domain number : ℕ) (r : Result Unit SinkFault) → IsTalk calls old.passed
    → Answers old new (inval_line domain number) (done_line (codes "inval") number) (fail_line (codes "inval") number) r → IsTalk (with_call calls domain number (is_ok r)) new.passed
invalidated old new calls domain number r t p =
    let a = adds old new (inval_line domain number) (codes "inval") number r p in
    subst (λ (x : List Passed). IsTalk (with_call calls domain number (is_ok r)) x) (sym a.1) (called calls old.passed a.0 (Invalidation domain number (is_ok r)) t a.2)

pub told_gone : (old new : Talk) (calls : List Call) (domain client : ℕ) (ranges : List Frames) (r : Result Unit SinkFault) → IsTalk calls old.passed
    → Answers old new (gone_text domain client ranges) (done_line (codes "gone") client) (fail_line (codes "gone") client) r → IsTalk (with_gone calls domain client ranges r) new.passed
told_gone old new calls domain client ranges r t p =
    let a = adds old new (gone_text domain client ranges) (codes "gone") client r p in
    subst (λ (x : List Passed). IsTalk (with_gone calls domain client ranges r) x) (sym a.1) (called calls old.passed a.0 (Gone domain client ranges r) t a.2)

pub told_reset : (old new : Talk) (calls : List Call) (domain : ℕ) (r : Result Unit SinkFault) → IsTalk calls old.passed
    → Answers old new (reset_line domain) (done_line (codes "reset") domain) (fail_line (codes "reset") domain) r → IsTalk calls new.passed
told_reset old new calls domain r t p =
    let a = adds old new (reset_line domain) (codes "reset") domain r p in
    subst (λ (x : List Passed). IsTalk calls x) (sym a.1) (reset calls old.passed a.0 domain (is_ok r) t a.2)

-- Which call of a list is meant: the last one, or one before it

not_nil : (before after : List Call) (call : Call) → [] ≢ before ++ call ∷ after
not_nil before after call e = let none : 0 ≡ length (before ++ call ∷ after) = ap (λ (xs : List Call). length xs) e in omega (arith, none, length-append before (call ∷ after))

abbrev tail_of : List Call → List Call
tail_of [] = []
tail_of (x ∷ xs) = xs

abbrev head_of : Call → List Call → Call
head_of d [] = d
head_of d (x ∷ xs) = x

abbrev IsWhich : (calls before after : List Call) (c call : Call) → Type 0
IsWhich calls before after c call = ((calls ≡ before) × (c ≡ call)) ⊎ ((more : List Call) × (calls ≡ before ++ call ∷ more))

which : (calls before after : List Call) (c call : Call) → calls ++ c ∷ [] ≡ before ++ call ∷ after → IsWhich calls before after c call
which [] [] after c call e = inl (refl, ap (head_of c) e)
which [] (b ∷ bs) after c call e = absurd (not_nil bs after call (ap tail_of e))
which (x ∷ xs) [] after c call e = inr (xs, ap (λ (y : Call). y ∷ xs) (ap (head_of x) e))
which (x ∷ xs) (b ∷ bs) after c call e = more (which xs bs after c call (ap tail_of e))
  where
    same : x ≡ b
    same = ap (head_of x) e

    more : IsWhich xs bs after c call → IsWhich (x ∷ xs) (b ∷ bs) after c call
    more (inl p) = inl (ap (λ (y : Call). y ∷ xs) same ∙ ap (λ (ys : List Call). b ∷ ys) p.0, p.1)
    more (inr p) = inr (p.0, ap (λ (y : Call). y ∷ xs) same ∙ ap (λ (ys : List Call). b ∷ ys) p.1)

-- where its answer stands
abbrev StandsIn : (before : List Call) (call : Call) (passed : List Passed) → Type 0
StandsIn before call passed =
    (first rest : List Passed) × (anew : Bool) × (behind : List ℕ) × IsTalk before first × (passed ≡ first ++ (exchange anew (request_of call) (done_of call ++ behind) ++ rest))

further : (before : List Call) (call : Call) (passed part : List Passed) → StandsIn before call passed → StandsIn before call (passed ++ part)
further before call passed part (first, rest, anew, behind, t, is) =
    let here = exchange anew (request_of call) (done_of call ++ behind) in (
      first,
      rest ++ part,
      anew,
      behind,
      t,
      ap (λ (x : List Passed). x ++ part) is ∙ (append_assoc first (here ++ rest) part ∙ ap (λ (x : List Passed). first ++ x) (append_assoc here rest part)),
    )

here : (before : List Call) (call : Call) (passed part : List Passed) (good : Bool) → good ≡ true → IsTalk before passed → PassesAt good (request_of call) (done_of call) part
    → StandsIn before call (passed ++ part)
here before call passed part true g t (anew, behind, is) =
    (passed, [], anew, behind, t, ap (λ (x : List Passed). passed ++ x) (is ∙ sym (append-nil (exchange anew (request_of call) (done_of call ++ behind)))))
here before call passed part false g t p = absurd (let no = g in cc)

stands : (before after : List Call) (call : Call) (calls : List Call) (passed : List Passed) → IsTalk calls passed → calls ≡ before ++ call ∷ after → is_good call ≡ true
    → StandsIn before call passed
stands before after call _ _ (begun passed) e g = absurd (not_nil before after call e)
stands before after call _ _ (called calls passed part c t p) e g =
    split (λ more is. stands before more call calls passed t is g) (which calls before after c call e)
  where
    split : ((more : List Call) → calls ≡ before ++ call ∷ more → StandsIn before call passed) → IsWhich calls before after c call → StandsIn before call (passed ++ part)
    split earlier (inl is) =
        here before call passed part (is_good call) g (subst (λ (x : List Call). IsTalk x passed) is.0 t)
        (subst (λ (x : Call). PassesAt (is_good x) (request_of x) (done_of x) part) is.1 p)
    split earlier (inr is) = further before call passed part (earlier is.0 is.1)
stands before after call _ _ (reset calls passed part domain good t p) e g = further before call passed part (stands before after call calls passed t e g)

pub good_calls_are_answered : GoodCallsAreAnswered
good_calls_are_answered before after call passed t g = stands before after call (before ++ call ∷ after) passed t refl g
