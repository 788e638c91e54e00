-- One request more is gathered from a piece.
use Rattle.std.proofs.Common.{◌≡◌, ℕ, ◌+◌, ◌-◌, ◌≤◌, List, [], ◌∷◌, ◌++◌, length, take, drop, refl, sym, ap, ◌∙◌, subst, append_assoc, append-nil, take-append-drop}
use Rattle.std.specs.List.{AllByRecursion}
use Rattle.std.specs.Prelude.{Option, Some, None, IsSome}
use Rattle.iova_proto.specs.Requests.{IsRequest, Spells}
use Rattle.iova_proto.specs.declared.request.Request.{Request}
use Rattle.iova_proto.specs.declared.request.Request.TheVariants as request
use Rattle.iova_session.specs.Pairs.{requests_text}
use Rattle.iova_session.specs.Sessions.{HasNoBye, BeginsRequest}
use Rattle.iova_session.specs.Rounds.{IsLines}
use Rattle.iova_session.proofs.Texts.{take_plus, all_after, requests_text-append, requests_text-one, requests_text-nil}
use Rattle.iova_session.proofs.Byes.{All-append, HasNoBye-append, HasNoBye-one}

-- what is kept of a line
pub some_kept : (o : Option (List ℕ)) → IsSome o → (k : List ℕ) × (o ≡ Some k)
some_kept None h = absurd (cc)
some_kept (Some k) h = (k, refl)

-- nothing is gathered yet
pub IsLines-none : (kept piece : List ℕ) (rs : List Request) → rs ≡ [] → IsLines (kept ++ take 0 piece) rs kept
IsLines-none kept piece rs e = record {
  good = let P : List Request → Type 0 = λ x. AllByRecursion IsRequest x in subst P (sym e) tt;
  whole = append-nil kept ∙ ap (λ x. x ++ kept) (sym (ap requests_text e ∙ requests_text-nil));
}

-- what the piece has after the part that is used
pub IsLines-rest : (kept piece next : List ℕ) (rs : List Request) (used : ℕ) → IsLines (kept ++ take used piece) rs next
    → IsLines (kept ++ piece) rs (next ++ take (length piece - used) (drop used piece))
IsLines-rest kept piece next rs used e = record {
  good = e.good;
  whole = ap (λ x. kept ++ x) (sym (take-append-drop used piece))
      ∙ sym (append_assoc kept (take used piece) (drop used piece))
      ∙ ap (λ x. x ++ drop used piece) e.whole
      ∙ append_assoc (requests_text rs) next (drop used piece)
      ∙ ap (λ x. requests_text rs ++ (next ++ x)) (sym (all_after piece used));
}

-- one request more
pub IsLines-one : (kept piece next : List ℕ) (rs after : List Request) (r : Request) (used n : ℕ) → used ≤ length piece
    → IsLines (kept ++ take used piece) rs next
    → Spells (next ++ take n (take (length piece - used) (drop used piece))) r
    → after ≡ rs ++ r ∷ []
    → IsLines (kept ++ take (used + n) piece) after []
IsLines-one kept piece next rs after r used n h e f a = record {
  good = subst (AllByRecursion IsRequest) (sym a) (All-append IsRequest rs (r ∷ []) e.good (f.good, tt));
  whole = ap (λ x. kept ++ x) (take_plus piece used n h)
      ∙ sym (append_assoc kept (take used piece) (take n (drop used piece)))
      ∙ ap (λ x. x ++ take n (drop used piece)) e.whole
      ∙ append_assoc (requests_text rs) next (take n (drop used piece))
      ∙ ap (λ x. requests_text rs ++ (next ++ take n x)) (sym (all_after piece used))
      ∙ ap (λ x. requests_text rs ++ x) (f.text ∙ sym (requests_text-one r))
      ∙ sym (requests_text-append rs (r ∷ []))
      ∙ ap requests_text (sym a)
      ∙ sym (append-nil (requests_text after));
}

pub begins_request : (next bs : List ℕ) (r : Request) (n : ℕ) → Spells (next ++ take n bs) r → BeginsRequest (next ++ bs)
begins_request next bs r n f = record {
  request = r;
  more = drop n bs;
  good = f.good;
  whole = ap (λ x. next ++ x) (sym (take-append-drop n bs)) ∙ sym (append_assoc next (take n bs) (drop n bs)) ∙ ap (λ x. x ++ drop n bs) f.text;
}

pub no_bye_more : (rs after : List Request) (r : Request) → HasNoBye rs → (r ≡ request.Bye → ⊥) → after ≡ rs ++ r ∷ [] → HasNoBye after
no_bye_more rs after r h b a = subst HasNoBye (sym a) (HasNoBye-append rs (r ∷ []) h (HasNoBye-one r b))
