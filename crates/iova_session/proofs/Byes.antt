-- Where bye stands among requests.
use Rattle.std.proofs.Common.{◌≡◌, List, [], ◌∷◌, ◌++◌, sym, ap, ◌∙◌, subst, append_assoc, refl, append-nil}
use Rattle.std.specs.List.{AllByRecursion}
use Rattle.iova_proto.specs.declared.request.Request.{Request}
use Rattle.iova_proto.specs.declared.request.Request.TheVariants as request
use Rattle.iova_session.specs.Sessions.{HasNoBye, StopsAtBye, EndsInBye}

pub All-append : {A : Type 0} (P : A → Type 0) (rs qs : List A) → AllByRecursion P rs → AllByRecursion P qs → AllByRecursion P (rs ++ qs)
All-append P [] qs h k = k
All-append P (r ∷ rs) qs h k = (h.0, All-append P rs qs h.1 k)

pub All-front : (P : Request → Type 0) (rs qs : List Request) → AllByRecursion P (rs ++ qs) → AllByRecursion P rs
All-front P [] qs h = tt
All-front P (r ∷ rs) qs h = (h.0, All-front P rs qs h.1)

pub HasNoBye-nil : HasNoBye []
unfolding HasNoBye
HasNoBye-nil = tt

pub HasNoBye-append : (rs qs : List Request) → HasNoBye rs → HasNoBye qs → HasNoBye (rs ++ qs)
unfolding HasNoBye
HasNoBye-append rs qs h k = All-append (λ r. r ≡ request.Bye → ⊥) rs qs h k

pub HasNoBye-one : (r : Request) → (r ≡ request.Bye → ⊥) → HasNoBye (r ∷ [])
unfolding HasNoBye
HasNoBye-one r h = (h, tt)

-- none is bye in front, so what holds after holds of all
pub StopsAtBye-behind : (rs qs : List Request) → HasNoBye rs → StopsAtBye qs → StopsAtBye (rs ++ qs)
unfolding HasNoBye StopsAtBye
StopsAtBye-behind [] qs h k = k
StopsAtBye-behind (r ∷ rs) qs h k = (λ e. absurd (h.0 e), StopsAtBye-behind rs qs h.1 k)

StopsAtBye-nil : StopsAtBye []
unfolding StopsAtBye
StopsAtBye-nil = tt

StopsAtBye-one : (r : Request) → StopsAtBye (r ∷ [])
unfolding StopsAtBye
StopsAtBye-one r = (λ e. refl, tt)

pub StopsAtBye-none : (rs : List Request) → HasNoBye rs → StopsAtBye rs
StopsAtBye-none rs h = subst StopsAtBye (append-nil rs) (StopsAtBye-behind rs [] h StopsAtBye-nil)

pub StopsAtBye-last : (rs : List Request) → EndsInBye rs → StopsAtBye rs
StopsAtBye-last rs h = subst StopsAtBye (sym h.whole) (StopsAtBye-behind h.others (request.Bye ∷ []) h.none (StopsAtBye-one request.Bye))

front_nil : (rs qs : List Request) → rs ++ qs ≡ [] → rs ≡ []
front_nil [] qs e = refl
front_nil (r ∷ rs) qs e = absurd (cc)

pub StopsAtBye-front : (rs qs : List Request) → StopsAtBye (rs ++ qs) → StopsAtBye rs
unfolding StopsAtBye
StopsAtBye-front [] qs h = tt
StopsAtBye-front (r ∷ rs) qs h = (λ e. front_nil rs qs (h.0 e), StopsAtBye-front rs qs h.1)

pub EndsInBye-behind : (rs qs : List Request) → HasNoBye rs → EndsInBye qs → EndsInBye (rs ++ qs)
EndsInBye-behind rs qs h k = record {
  others = rs ++ k.others;
  whole = ap (λ x. rs ++ x) k.whole ∙ sym (append_assoc rs k.others (request.Bye ∷ []));
  none = HasNoBye-append rs k.others h k.none;
}

pub EndsInBye-one : (rs : List Request) (r : Request) → HasNoBye rs → r ≡ request.Bye → EndsInBye (rs ++ r ∷ [])
EndsInBye-one rs r h e = record { others = rs; whole = ap (λ x. rs ++ x ∷ []) e; none = h }
