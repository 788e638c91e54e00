-- Bytes pass from a link to a writer.
use Rattle.std.proofs.Common.{ℕ, ◌≡◌, ◌+◌, ◌∙◌, List, [], ◌++◌, Option, Result, Ok, Err, MatchResult, take, drop, sym, ap, subst, arith}
use Rattle.std.proofs.lemmas.List.{append-nil, append_assoc, take-append-drop}
use Rattle.std.proofs.KnownBytes.{Appends-nil, Appends-trans, Consumes-nil, Consumes-trans}
use Rattle.std.specs.Io.KnownBytes.{Appends, Consumes}
use Rattle.iova_ask.specs.Answers.{IsAnswered, LeavesOwed}
use Rattle.iova_ask.specs.Asking.{Breaks, Passes, lines_text}
use Rattle.iova_ask.specs.LineRuns.{Copies, CopiesMore}
use Rattle.iova_ask.specs.declared.answers.Owed.{Owed}
use Rattle.iova_ask.specs.declared.fault.AskFault.{AskFault}
use Rattle.iova_ask.proofs.Answering.{answered_front, answers_append, leaves_trans, no_answers}
use Rattle.iova_ask.proofs.Lined.{lines_text-append, lines_text-none}

pub Passes-refl : (left out : Option (List ℕ)) (kept : List ℕ) → Passes left left out out kept kept []
Passes-refl left out kept = record { got = []; reads = Consumes-nil left; writes = Appends-nil out; whole = append-nil kept }

pub Passes-trans : (a b c p q r : Option (List ℕ)) (k l m s t : List ℕ) → Passes a b p q k l s → Passes b c q r l m t → Passes a c p r k m (s ++ t)
Passes-trans a b c p q r k l m s t x y = record {
  got = x.got ++ y.got;
  reads = Consumes-trans a b c x.got y.got x.reads y.reads;
  writes = Appends-trans p q r s t x.writes y.writes;
  whole = sym (append_assoc k x.got y.got) ∙ (ap (λ (z : List ℕ). z ++ y.got) x.whole ∙ (append_assoc s l y.got
      ∙ (ap (λ (z : List ℕ). s ++ z) y.whole ∙ sym (append_assoc s t m))));
}

-- the front of what is kept is written, or some of it
pub Passes-written : (a b p q r : Option (List ℕ)) (k l s : List ℕ) (n : ℕ) → Passes a b p q k l s → Appends q r (take n l)
    → Passes a b p r k (drop n l) (s ++ take n l)
Passes-written a b p q r k l s n x writes = Passes-trans a b b p q r k l (drop n l) s (take n l) x record {
  got = [];
  reads = Consumes-nil b;
  writes = writes;
  whole = append-nil l ∙ sym (take-append-drop n l);
}

-- the lines at the front are written
pub Passes-lines : (a b p q r : Option (List ℕ)) (k l m : List ℕ) (ls ms : List (List ℕ)) (n : ℕ) → Passes a b p q k l (lines_text ls) → Appends q r (take n l)
    → m ≡ drop n l → take n l ≡ lines_text ms → Passes a b p r k m (lines_text (ls ++ ms))
Passes-lines a b p q r k l m ls ms n x writes is text =
    subst (λ (z : List ℕ). Passes a b p r k z (lines_text (ls ++ ms))) (sym is)
    (subst (Passes a b p r k (drop n l)) (ap (λ (z : List ℕ). lines_text ls ++ z) text ∙ sym (lines_text-append ls ms))
    (Passes-written a b p q r k l (lines_text ls) n x writes))

-- and what is owed after them
pub answered_on : (owed mid left : Owed) (len : ℕ) (a b p q r : Option (List ℕ)) (k l m seen : List ℕ)
    → (ls : List (List ℕ)) × LeavesOwed owed ls mid × Passes a b p q k l (lines_text ls) → IsAnswered seen mid len left → seen ≡ l → Appends q r (take len l)
    → m ≡ drop len l → (ls : List (List ℕ)) × LeavesOwed owed ls left × Passes a b p r k m (lines_text ls)
answered_on owed mid left len a b p q r k l m seen x y same writes is =
    let answered = subst (λ (t : List ℕ). IsAnswered t mid len left) same y in (
      x.0 ++ answered.ls,
      leaves_trans owed mid left x.0 answered.ls x.1 answered.leaves,
      Passes-lines a b p q r k l m x.0 answered.ls len x.2 writes is (answered_front l mid len left answered),
    )

pub Passes-some : (a b p q r : Option (List ℕ)) (k l s : List ℕ) (n i : ℕ) → Passes a b p q k l s → Appends q r (take i (take n l))
    → Passes a b p r k (drop i (take n l) ++ drop n l) (s ++ take i (take n l))
Passes-some a b p q r k l s n i x writes = Passes-trans a b b p q r k l (drop i (take n l) ++ drop n l) s (take i (take n l)) x record {
  got = [];
  reads = Consumes-nil b;
  writes = writes;
  whole = append-nil l ∙ (sym (take-append-drop n l) ∙ (ap (λ (z : List ℕ). z ++ drop n l) (sym (take-append-drop i (take n l)))
      ∙ append_assoc (take i (take n l)) (drop i (take n l)) (drop n l)));
}

pub Passes-read : (a b c p q : Option (List ℕ)) (k l m s got : List ℕ) → Passes a b p q k l s → Consumes b c got → m ≡ l ++ got → Passes a c p q k m s
Passes-read a b c p q k l m s got x reads is =
    subst (Passes a c p q k m) (append-nil s)
    (Passes-trans a b c p q q k l m s [] x record { got = got; reads = reads; writes = Appends-nil q; whole = sym is })

pub Passes-same : (a b out : Option (List ℕ)) (k : List ℕ) → b ≡ a → Passes a b out out k k []
Passes-same a b out k same = subst (λ (x : Option (List ℕ)). Passes a x out out k k []) (sym same) (Passes-refl a out k)

-- and as answers

pub Copies-none : (left out : Option (List ℕ)) (kept : List ℕ) → Copies 0 left left out out kept kept
Copies-none left out kept = record {
  ls = [];
  answers = no_answers;
  passes = subst (Passes left left out out kept kept) (sym lines_text-none) (Passes-refl left out kept);
}

pub Copies-trans : (i j : ℕ) (a b c p q r : Option (List ℕ)) (k l m : List ℕ) → Copies i a b p q k l → Copies j b c q r l m → Copies (i + j) a c p r k m
Copies-trans i j a b c p q r k l m x y = record {
  ls = x.ls ++ y.ls;
  answers = answers_append i j x.ls y.ls x.answers y.answers;
  passes = subst (Passes a c p r k m) (sym (lines_text-append x.ls y.ls))
      (Passes-trans a b c p q r k l m (lines_text x.ls) (lines_text y.ls) x.passes y.passes);
}

pub copied_more : (before mid now : ℕ) (a b c p q r : Option (List ℕ)) (k l m : List ℕ) → CopiesMore before mid a b p q k l → CopiesMore mid now b c q r l m
    → CopiesMore before now a c p r k m
copied_more before mid now a b c p q r k l m x y = (x.0 + y.0, omega (arith, x.1, y.1), Copies-trans x.0 y.0 a b c p q r k l m x.2 y.2)

pub copied_none : (before : ℕ) (left out : Option (List ℕ)) (kept : List ℕ) → CopiesMore before before left left out out kept kept
copied_none before left out kept = (0, omega arith, Copies-none left out kept)

-- where asking ends early
pub breaks_after : (n : ℕ) (a b c p q r : Option (List ℕ)) (k l : List ℕ) → Copies n a b p q k l → Breaks b c q r l → Breaks a c p r k
breaks_after n a b c p q r k l x y = (y.0, lines_text x.ls ++ y.1, Passes-trans a b c p q r k l y.0 (lines_text x.ls) y.1 x.passes y.2)

pub Copies-breaks : (n : ℕ) (a b p q : Option (List ℕ)) (k l : List ℕ) → Copies n a b p q k l → Breaks a b p q k
Copies-breaks n a b p q k l x = (l, lines_text x.ls, x.passes)

pub breaks_same : (a b out : Option (List ℕ)) (k : List ℕ) → b ≡ a → Breaks a b out out k
breaks_same a b out k same = (k, [], Passes-same a b out k same)

-- the count of lines that were sent, from the first on
pub copies_further : (before now : ℕ) (a b c p q r : Option (List ℕ)) (k l m : List ℕ) → Copies before a b p q k l → CopiesMore before now b c q r l m
    → Copies now a c p r k m
copies_further before now a b c p q r k l m x y =
    subst (λ (n : ℕ). Copies n a c p r k m) (sym y.1) (Copies-trans before y.0 a b c p q r k l m x y.2)

-- and of the rest of the input
pub copied_rest : (x : Result ℕ AskFault) (before : ℕ) (a b c p q r : Option (List ℕ)) (k l m : List ℕ) → Copies before a b p q k l
    → MatchResult x (λ n. CopiesMore before n b c q r l m) (λ e. Breaks b c q r l)
    → MatchResult x (λ n. (rest : List ℕ) × Copies n a c p r k rest) (λ e. Breaks a c p r k)
copied_rest (Ok n) before a b c p q r k l m x y = (m, copies_further before n a b c p q r k l m x y)
copied_rest (Err e) before a b c p q r k l m x y = breaks_after before a b c p q r k l x y
