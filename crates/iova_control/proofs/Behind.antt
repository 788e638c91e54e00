-- Texts, one behind another.
use Rattle.std.proofs.Common.{ℕ, suc, ◌≡◌, ◌∙◌, ◌+◌, ◌-◌, ◌<◌, List, [], ◌∷◌, ◌++◌, Result, Ok, Err, ap, refl, sym, append_assoc, append-nil, length-append, arith}
use Rattle.std.specs.Prelude.{OnOk}
use Rattle.std.specs.declared.alloc.AllocError.{AllocError}
use Rattle.iova_control.specs.Rows.{SessionRow, row_text, rows_text, sessions_text, PutsRows, PutsSessions}

-- what follows from what holds where a call succeeds holds there
pub ok_map : {P Q : Type 0} (r : Result Unit AllocError) → (P → Q) → OnOk r P → OnOk r Q
ok_map (Ok u) f p = f p
ok_map (Err e) f p = tt

-- two texts that were put, one after another
pub behind : (old mid new x y : List ℕ) → mid ≡ old ++ x → new ≡ mid ++ y → new ≡ old ++ (x ++ y)
behind old mid new x y first then = then ∙ ap (λ t. t ++ y) first ∙ append_assoc old x y

-- what both calls put, where the second one succeeds
pub then_ok : (r : Result Unit AllocError) (old mid new x y : List ℕ) → mid ≡ old ++ x → OnOk r (new ≡ mid ++ y) → OnOk r (new ≡ old ++ (x ++ y))
then_ok r old mid new x y first then = ok_map r (behind old mid new x y first) then

-- a text by another name
pub is_put : (old new x y : List ℕ) → new ≡ old ++ x → x ≡ y → new ≡ old ++ y
is_put old new x y put same = put ∙ ap (λ t. old ++ t) same

pub is_put_ok : (r : Result Unit AllocError) (old new x y : List ℕ) → OnOk r (new ≡ old ++ x) → x ≡ y → OnOk r (new ≡ old ++ y)
is_put_ok r old new x y put same = ok_map r (λ p. is_put old new x y p same) put

-- Sessions.

rows_more : (worker : ℕ) (rows more : List SessionRow) → rows_text worker (rows ++ more) ≡ rows_text worker rows ++ rows_text worker more
rows_more worker [] more = refl
rows_more worker (r ∷ rows) more =
    ap (λ t. row_text worker r ++ t) (rows_more worker rows more) ∙ sym (append_assoc (row_text worker r) (rows_text worker rows) (rows_text worker more))

pub no_rows : (worker : ℕ) (text : List ℕ) → PutsRows worker 0 text text
no_rows worker text = ([], refl, sym (append-nil text))

-- a row more
pub row_behind : (worker count : ℕ) (old mid new : List ℕ) (r : SessionRow) → PutsRows worker count old mid → new ≡ mid ++ row_text worker r
    → PutsRows worker (count + 1) old new
row_behind worker count old mid new r (rows, long, put) is = (
  rows ++ r ∷ [],
  omega (arith, long, length-append rows (r ∷ [])),
  behind old mid new (rows_text worker rows) (row_text worker r) put is
      ∙ ap (λ t. old ++ t) (sym (rows_more worker rows (r ∷ []) ∙ ap (λ t. rows_text worker rows ++ t) (append-nil (row_text worker r)))),
)

-- a worker more
pub more_sessions : (r : Result Unit AllocError) (worker workers : ℕ) (old mid new : List ℕ) → worker < workers → (count : ℕ) × PutsRows worker count old mid
    → OnOk r (PutsSessions (worker + 1) (workers - (worker + 1)) mid new) → OnOk r (PutsSessions worker (workers - worker) old new)
more_sessions r worker workers old mid new below rows then =
    let next : worker + 1 ≡ suc worker = omega arith in
    ok_map r
    (λ others. (
      rows.1.0 ∷ others.0,
      omega (arith, below, others.1),
      behind old mid new (rows_text worker rows.1.0) (sessions_text (suc worker) others.0) rows.1.2
          (others.2 ∙ ap (λ k. mid ++ sessions_text k others.0) next),
    ))
    then
