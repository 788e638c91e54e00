-- `take` gives the first name of the row to the hand.
use Rattle.iova_annals.proofs.Walks.{ℕ, ◌+◌, List, [], ◌∷◌, drop_front, refl, a_type, named, Val, vptr, inst_fn, SProp, Fml, ftrue, fsep, flft, ‵, raw, ◌⊛◌, given, ◌$◌, ◌∵◌, !, qed, by, move, keep, drop, split, fsplit, fsplit3, fjoin, fjoin3, learn, use0, use1, feq_i, no_more, and_then, returns, enter, alloc_all, pass_all, free_all, look_at, get, sets, agg, fact, tables, RattleType, owns, types_at, plain, mut_vals, mut_Tells, nothing, opens, closes, param, layouts, Stays, stay_ref, walk_of, Goes-ref, proved, token, Token, token_made, ends, also, last}
use Rattle.iova_annals.specs.Owned.{hand_owns, hands_own}
use Rattle.iova_annals.specs.contracts.Hand as Hand
use Rattle.iova_annals.specs.contracts.Hands as Hands
use Rattle.iova_annals.proofs.Steps as steps
use Rattle.iova_annals.specs.contracts.Hands.take.{ended, clauses}
use Rattle.iova_annals.specs.contracts.Hands.take.Key.{name as #self}
use Rattle.iova_annals.proofs.Hands.take.Statement.{statement}
use Rattle.iova_annals.proofs.Hands.take.Code as code

pub take_spec : {M : Type 1} → statement M
take_spec 𝓤 𝓛 𝓜 𝓡 wired E L =
    let H = 𝓛.H in let 𝓣 = tables 𝓤 H 𝓜 𝓡 𝓡.env in let E' : RattleType = param 0 E in let Hs : RattleType = Hands.the_row E' in let Hn : RattleType = Hand.the_row E' in let En = ended E in
    let inst = layouts (a_type ∷ []) (E, tt) in let fn = inst_fn inst code.function in let c = clauses E 𝓛 𝓜.mem 𝓡.returns in let cv = E'.coded in
    let hs : Stays En.signature.params En.kept = (stay_ref (0 ∷ []) tt (plain (λ _. Hs)), tt) in
    proved 𝓛 En hs c 𝓜 𝓡 (Goes-ref 𝓛 2 0 tt (plain (λ _. Hs)), tt) (#self inst) fn (code.unfolded 𝓤 H 𝓜 𝓡 wired (E, tt))
    (λ κs. (mut_vals, tt)) (λ κs. (mut_Tells (named 0) κs.0 Hs, tt)) (λ κs qs bounds a gh are.
    let b : ℕ = a.0.ref_ptr.0 in let o : ℕ = a.0.ref_ptr.1 in let h : Hs.Denot = a.0.now in let δ : ℕ = steps.first_of h.names in
    let h' : Hs.Denot = record { marker = h.marker; book = h.book; names = drop_front 1 h.names; first = h.first + 1 } in let hd : Hn.Denot = record { marker = record {}; book = h.book; name = δ; number = h.first; mine = []; seen = [] } in
    let y : (walk_of 𝓛 En hs c).Ghost = ((κs, qs, bounds, a, (vptr b o ∷ [], tt)), gh) in let Post : Val → SProp 𝓤 = (walk_of 𝓛 En hs c).post y in let toks : Fml = fsep (flft κs.0 qs.0) (fsep (flft κs.1.0 qs.1.0) ftrue) in
    qed 𝓛 ((‵ toks ⊛ ‵ (owns (types_at En.signature.params κs) a y.0.4)) ∷ raw (fact 𝓤 _) ∷ given _ (‵ ftrue) ∷ []) ∵ keep ! (2 ∷ 0 ∷ []) $ learn ! (λ asked. drop ! $ split ! $
    fsplit ! $ move ! (2 ∷ []) $ fsplit ! $ fsplit3 ! $ keep ! (1 ∷ 2 ∷ 4 ∷ 5 ∷ []) $
    enter ! 𝓣.C 𝓣.Λ fn (vptr b o ∷ []) Post $ alloc_all ! (λ l. pass_all ! refl ((tt, tt), tt) $ opens ! tt Hs b o (λ ts. move ! (1 ∷ []) $ fsplit ! $ move ! (1 ∷ []) $
    use1 𝓛 (‵ (hand_owns cv h.book δ [] []) ⊛ ‵ (hands_own cv h.book h'.names)) (steps.first_leaves 𝓛 cv h.book h.names asked) $ split ! $
    move ! (2 ∷ 1 ∷ []) $ fjoin ! $ move ! (2 ∷ 0 ∷ 3 ∷ 4 ∷ 5 ∷ []) $ closes ! tt Hs h' ts b o $
    feq_i ! (List Val) (vptr b o ∷ []) (vptr b o ∷ []) refl $ fjoin3 ! $ nothing ! $ move ! (1 ∷ 0 ∷ []) $ fjoin ! $ move ! (1 ∷ 3 ∷ []) $ fjoin ! $
    use0 𝓛 (‵ ((Token E').own_val (record {}, tt) (token ∷ []))) (token_made E' 𝓛) $ move ! (0 ∷ 3 ∷ []) $ fjoin ! $
    sets ! (agg ! (no_more !)) refl (tt, tt) $ sets ! (agg ! (and_then ! (get ! refl) (no_more !))) refl (tt, (tt, tt)) $
    returns ! (look_at ! 0 refl) $ free_all ! refl $ keep ! (1 ∷ 2 ∷ 0 ∷ []) $ by ! (ends 𝓛 En hs c y token hd (h', tt) (tt, tt) (also 𝓛 _ (refl, refl) (also 𝓛 _ (refl, refl) (also 𝓛 _ (refl, refl) (last 𝓛 _ (steps.first_then h.names asked))))))))))
