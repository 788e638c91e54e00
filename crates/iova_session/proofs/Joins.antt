-- What one piece gives, and then the next.
use Rattle.std.proofs.Common.{◌≡◌, ℕ, ◌+◌, ◌≤◌, inl, inr, List, [], ◌++◌, length, take, sym, ap, ◌∙◌, subst, append_assoc, append-nil, arith, length-append, refl}
use Rattle.std.specs.List.{AllByRecursion}
use Rattle.std.proofs.Math.Seq.{take-append-add}
use Rattle.iova_range.specs.declared.limits.TheConstants.{MAX_SESSION_READS}
use Rattle.iova_proto.specs.Requests.{IsRequest}
use Rattle.iova_proto.specs.declared.request.Request.{Request}
use Rattle.iova_session.specs.Pairs.{Pair, requests_of, answers_of, requests_text, answers_text}
use Rattle.iova_session.specs.Sessions.{bad_line, too_many, HasNoBye, StopsAtBye, EndsInBye, BeginsWith, IsPastLimit, IsLastLine, EndsSo, Serves, ServesWithin}
use Rattle.iova_session.specs.Rounds.{AllAnswered}
use Rattle.iova_session.specs.declared.end.End.{End}
use Rattle.iova_session.specs.declared.end.End.TheVariants as ends
use Rattle.iova_session.proofs.Texts.{requests_text-nil, requests_of-append, asked_both, told_both, length-asked, requests_of-nil, none_told}
use Rattle.iova_session.proofs.Byes.{All-append, HasNoBye-nil, HasNoBye-append, StopsAtBye-none, StopsAtBye-behind, EndsInBye-behind}

-- a piece after what is kept
behind : (bytes piece next first later more : List ℕ) → bytes ≡ first ++ next → next ++ piece ≡ later ++ more
    → bytes ++ piece ≡ (first ++ later) ++ more
behind bytes piece next first later more e f =
    ap (λ x. x ++ piece) e ∙ append_assoc first next piece ∙ ap (λ x. first ++ x) f ∙ sym (append_assoc first later more)

behind_pairs : (bytes piece next more : List ℕ) (ps qs : List Pair) → bytes ≡ requests_text (requests_of ps) ++ next
    → next ++ piece ≡ requests_text (requests_of qs) ++ more → bytes ++ piece ≡ requests_text (requests_of (ps ++ qs)) ++ more
behind_pairs bytes piece next more ps qs e f =
    behind bytes piece next (requests_text (requests_of ps)) (requests_text (requests_of qs)) more e f ∙ ap (λ x. x ++ more) (sym (asked_both ps qs))

good_both : (ps qs : List Pair) → AllByRecursion IsRequest (requests_of ps) → AllByRecursion IsRequest (requests_of qs) → AllByRecursion IsRequest (requests_of (ps ++ qs))
good_both ps qs h k =
    subst (AllByRecursion IsRequest) (sym (requests_of-append ps qs)) (All-append IsRequest (requests_of ps) (requests_of qs) h k)

no_bye_both : (ps qs : List Pair) → HasNoBye (requests_of ps) → HasNoBye (requests_of qs) → HasNoBye (requests_of (ps ++ qs))
no_bye_both ps qs h k = subst HasNoBye (sym (requests_of-append ps qs)) (HasNoBye-append (requests_of ps) (requests_of qs) h k)

last_bye_both : (ps qs : List Pair) → HasNoBye (requests_of ps) → EndsInBye (requests_of qs) → EndsInBye (requests_of (ps ++ qs))
last_bye_both ps qs h k = subst EndsInBye (sym (requests_of-append ps qs)) (EndsInBye-behind (requests_of ps) (requests_of qs) h k)

text_both : (ps qs : List Pair) (w v : List ℕ) → w ≡ answers_text (answers_of ps) → v ≡ answers_text (answers_of qs) → w ++ v ≡ answers_text (answers_of (ps ++ qs))
text_both ps qs w v e f = ap (λ x. x ++ v) e ∙ ap (λ x. answers_text (answers_of ps) ++ x) f ∙ sym (told_both ps qs)

line_both : (ps qs : List Pair) (w v line : List ℕ) → w ≡ answers_text (answers_of ps) → v ≡ answers_text (answers_of qs) ++ line
    → w ++ v ≡ answers_text (answers_of (ps ++ qs)) ++ line
line_both ps qs w v line e f =
    ap (λ x. x ++ v) e ∙ ap (λ x. answers_text (answers_of ps) ++ x) f
    ∙ sym (append_assoc (answers_text (answers_of ps)) (answers_text (answers_of qs)) line) ∙ ap (λ x. x ++ line) (sym (told_both ps qs))

cut_both : (ps qs : List Pair) (w v line : List ℕ) (n : ℕ) → w ≡ answers_text (answers_of ps) → v ≡ take n (answers_text (answers_of qs) ++ line)
    → w ++ v ≡ take (length w + n) (answers_text (answers_of (ps ++ qs)) ++ line)
cut_both ps qs w v line n e f =
    ap (λ x. w ++ x) f ∙ sym (take-append-add w (answers_text (answers_of qs) ++ line) n)
    ∙ ap (take (length w + n)) (line_both ps qs w (answers_text (answers_of qs) ++ line) line e refl)

pub AllAnswered-none : AllAnswered [] [] [] []
AllAnswered-none = record {
  lines = record {
    good = let P : List Request → Type 0 = λ x. AllByRecursion IsRequest x in subst P (sym requests_of-nil) tt;
    whole = sym (append-nil (requests_text (requests_of [])) ∙ ap requests_text requests_of-nil ∙ requests_text-nil);
  };
  byes = subst HasNoBye (sym requests_of-nil) HasNoBye-nil;
  answered = none_told;
}

pub AllAnswered-kept : (kept : List ℕ) → AllAnswered kept [] kept []
AllAnswered-kept kept = record {
  lines = record {
    good = let P : List Request → Type 0 = λ x. AllByRecursion IsRequest x in subst P (sym requests_of-nil) tt;
    whole = ap (λ x. x ++ kept) (sym (ap requests_text requests_of-nil ∙ requests_text-nil));
  };
  byes = subst HasNoBye (sym requests_of-nil) HasNoBye-nil;
  answered = none_told;
}

pub AllAnswered-then : (bytes piece next more w v : List ℕ) (ps qs : List Pair) → AllAnswered bytes ps next w → AllAnswered (next ++ piece) qs more v
    → AllAnswered (bytes ++ piece) (ps ++ qs) more (w ++ v)
AllAnswered-then bytes piece next more w v ps qs a b = record {
  lines = record {
    good = good_both ps qs a.lines.good b.lines.good;
    whole = behind_pairs bytes piece next more ps qs a.lines.whole b.lines.whole;
  };
  byes = no_bye_both ps qs a.byes b.byes;
  answered = text_both ps qs w v a.answered b.answered;
}

limit_both : (most bound here reads : ℕ) (ps qs : List Pair) (rest : List ℕ) → length ps + here ≡ most → IsPastLimit here MAX_SESSION_READS (requests_of qs) rest 0
    → IsPastLimit most bound (requests_of (ps ++ qs)) rest reads
limit_both most bound here reads ps qs rest l (inl a) =
    inl (omega (arith, length-asked (ps ++ qs), length-asked qs, length-append {A = Pair} ps qs, a.0, l), a.1)
limit_both most bound here reads ps qs rest l (inr b) = absurd (omega (arith, b.0))

last_line_both : (most bound here reads : ℕ) (ps qs : List Pair) (rest line : List ℕ) → length ps + here ≡ most → HasNoBye (requests_of ps)
    → IsLastLine here MAX_SESSION_READS (requests_of qs) rest 0 line → IsLastLine most bound (requests_of (ps ++ qs)) rest reads line
last_line_both most bound here reads ps qs rest line l h (inl a) = inl a
last_line_both most bound here reads ps qs rest line l h (inr (inl b)) = inr (inl (b.0, no_bye_both ps qs h b.1, b.2))
last_line_both most bound here reads ps qs rest line l h (inr (inr d)) =
    inr (inr (d.0, no_bye_both ps qs h d.1, limit_both most bound here reads ps qs rest l d.2))

says_both : (most bound here reads : ℕ) (w v rest : List ℕ) (ps qs : List Pair) (end : End) → length ps + here ≡ most
    → w ≡ answers_text (answers_of ps) → HasNoBye (requests_of ps) → EndsSo here MAX_SESSION_READS (requests_of qs) rest 0 (answers_text (answers_of qs)) v end
    → EndsSo most bound (requests_of (ps ++ qs)) rest reads (answers_text (answers_of (ps ++ qs))) (w ++ v) end
says_both most bound here reads w v rest ps qs ends.Bye l e h b = (last_bye_both ps qs h b.0, text_both ps qs w v e b.1)
says_both most bound here reads w v rest ps qs ends.Closed l e h b = (no_bye_both ps qs h b.0, b.1, text_both ps qs w v e b.2)
says_both most bound here reads w v rest ps qs ends.LinkFault l e h b =
    (b.0, length w + b.1, last_line_both most bound here reads ps qs rest b.0 l h b.2, cut_both ps qs w v b.0 b.1 e b.3)
says_both most bound here reads w v rest ps qs ends.BadLine l e h b = (no_bye_both ps qs h b.0, b.1, line_both ps qs w v bad_line e b.2)
says_both most bound here reads w v rest ps qs ends.TooMany l e h b =
    (no_bye_both ps qs h b.0, limit_both most bound here reads ps qs rest l b.1, line_both ps qs w v too_many e b.2)
says_both most bound here reads w v rest ps qs ends.NoMemory l e h b = (
  length w + b.0,
  ap (λ x. w ++ x) b.1 ∙ sym (take-append-add w (answers_text (answers_of qs)) b.0)
      ∙ ap (take (length w + b.0)) (text_both ps qs w (answers_text (answers_of qs)) e refl),
)

-- a session goes on, and ends at the next piece
pub Serves-then : (most bound here reads : ℕ) (bytes piece next w v : List ℕ) (ps qs : List Pair) (end : End) → length ps + here ≡ most
    → reads ≤ bound → AllAnswered bytes ps next w → Serves here (next ++ piece) qs v 0 end
    → ServesWithin most bound (bytes ++ piece) (ps ++ qs) (w ++ v) reads end
Serves-then most bound here reads bytes piece next w v ps qs end l few a b = record {
  rest = b.rest;
  requests = record {
    good = good_both ps qs a.lines.good b.requests.good;
    whole = behind_pairs bytes piece next b.rest ps qs a.lines.whole b.requests.whole;
    byes = subst StopsAtBye (sym (requests_of-append ps qs)) (StopsAtBye-behind (requests_of ps) (requests_of qs) a.byes b.requests.byes);
    few = omega (arith, length-asked (ps ++ qs), length-asked qs, length-append {A = Pair} ps qs, b.requests.few, l);
  };
  few = few;
  says = says_both most bound here reads w v b.rest ps qs end l a.answered a.byes b.says;
}

-- what stands in the bytes where a session goes on
pub begins : (most here : ℕ) (bytes next w : List ℕ) (ps : List Pair) → length ps + here ≡ most → AllAnswered bytes ps next w
    → BeginsWith most bytes (requests_of ps) next
begins most here bytes next w ps l a = record {
  good = a.lines.good;
  whole = a.lines.whole;
  byes = StopsAtBye-none (requests_of ps) a.byes;
  few = omega (arith, length-asked ps, l);
}
