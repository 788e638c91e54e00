-- `open` makes an empty history, and a name for each hand.
use Rattle.iova_annals.proofs.Walks.{◌≡◌, ℕ, List, [], ◌∷◌, ◌++◌, length, refl, w64, a_type, Val, vint, vstruct, vcons, vnil, of_list, inst_fn, SProp, Fml, ftrue, fsep, feq, flft, ‵, raw, ◌⊛◌, some, given, later, ◌$◌, ◌∵◌, !, qed, by, move, keep, split, fjoin, fjoin3, fpack, pick, learn, use0, await, feq_i, no_more, and_then, returns, enter, alloc_all, pass_all, free_all, look_at, get, sets, agg, tables, yes, RattleType, owns, Valss, types_at, plain, u64, uint_vals, uint_Tells, nothing, param, layouts, Stays, stay_dropped, walk_of, Goes-dropped, proved, token, Token, token_made, ends, also, last}
use Rattle.iova_annals.specs.Owned.{annals_owns, hands_own}
use Rattle.iova_annals.specs.contracts.Annals as Annals
use Rattle.iova_annals.specs.contracts.Hands as Hands
use Rattle.iova_annals.proofs.Steps as steps
use Rattle.iova_annals.specs.contracts.Annals.open.{ended, clauses}
use Rattle.iova_annals.specs.contracts.Annals.open.Key.{name as #self}
use Rattle.iova_annals.proofs.Annals.open.Statement.{statement}
use Rattle.iova_annals.proofs.Annals.open.Code as code

pub open_spec : {M : Type 1} → statement M
open_spec 𝓤 𝓛 𝓜 𝓡 wired E L =
    let H = 𝓛.H in let 𝓣 = tables 𝓤 H 𝓜 𝓡 𝓡.env in let E' : RattleType = param 0 E in let An : RattleType = Annals.the_row E' in let Hs : RattleType = Hands.the_row E' in let En = ended E in
    let inst = layouts (a_type ∷ []) (E, tt) in let fn = inst_fn inst code.function in let c = clauses E 𝓛 𝓜.mem 𝓡.returns in let cv = E'.coded in
    let hs : Stays En.signature.params En.kept = (stay_dropped (plain (λ _. u64)) yes, tt) in
    proved 𝓛 En hs c 𝓜 𝓡 (Goes-dropped 𝓛 1 (plain (λ _. u64)) yes (λ κs x f. refl), tt) (#self inst) fn (code.unfolded 𝓤 H 𝓜 𝓡 wired (E, tt))
    (λ κs. (uint_vals w64, tt)) (λ κs. (uint_Tells w64, tt)) (λ κs qs bounds a gh are.
    let n : ℕ = a.0 in
    let y : (walk_of 𝓛 En hs c).Ghost = ((κs, qs, bounds, a, (vint w64 n ∷ [], tt)), gh) in let Post : Val → SProp 𝓤 = (walk_of 𝓛 En hs c).post y in let toks : Fml = fsep (flft κs.0 qs.0) ftrue in
    qed 𝓛 ((‵ toks ⊛ ‵ (owns (types_at En.signature.params κs) a y.0.4)) ∷ raw ((c κs a).requires gh) ∷ []) ∵ keep ! (0 ∷ []) $ split ! $ keep ! (0 ∷ []) $
    enter ! 𝓣.C 𝓣.Λ fn (vint w64 n ∷ []) Post $ alloc_all ! (λ l. pass_all ! refl ((tt, record { fits = are.0.1 }), tt) $
    use0 𝓛 (later (some (λ (t : ℕ × List ℕ). given (length t.1 ≡ n) (‵ (annals_owns cv t.0 t.1 []) ⊛ ‵ (hands_own cv t.0 t.1))))) (steps.begins 𝓛 cv n) $ await ! tt $ pick ! (λ t. learn ! (λ so. split ! $
    sets ! (agg ! (no_more !)) refl (tt, tt) $ sets ! (agg ! (and_then ! (get ! refl) (no_more !))) refl (tt, (tt, tt)) $
    sets ! (agg ! (no_more !)) refl (tt, tt) $ sets ! (agg ! (and_then ! (get ! refl) (no_more !))) refl (tt, (tt, tt)) $ sets ! (agg ! (and_then ! (get ! refl) (and_then ! (get ! refl) (no_more !)))) refl (tt, ((tt, tt), ((tt, tt), tt))) $
    use0 𝓛 (‵ ((Token E').own_val (record {}, tt) (token ∷ []))) (token_made E' 𝓛) $ fjoin ! $ move ! (1 ∷ []) $ use0 𝓛 (‵ ((Token E').own_val (record {}, tt) (token ∷ []))) (token_made E' 𝓛) $ fjoin ! $ nothing ! $ move ! (2 ∷ 1 ∷ 0 ∷ []) $ fjoin3 ! $
    let v : Val = vstruct (vcons token (vcons token vnil)) in let Rs : List RattleType = An ∷ Hs ∷ [] in
    let an : An.Denot = record { marker = record {}; book = t.0; hands = t.1; log = [] } in let h : Hs.Denot = record { marker = record {}; book = t.0; names = t.1; first = 0 } in
    feq_i ! (List Val) (v ∷ []) (v ∷ []) refl $ fjoin ! $ fpack ! (Valss Rs) (λ vss. fsep (feq (List Val) (v ∷ []) (vstruct (of_list (vss.0 ++ (vss.1.0 ++ []))) ∷ [])) (owns Rs (an, (h, tt)) vss)) (token ∷ [], (token ∷ [], tt)) $
    nothing ! $ nothing ! $ fjoin ! $
    returns ! (look_at ! 0 refl) $ free_all ! refl $ keep ! (2 ∷ 0 ∷ 1 ∷ []) $ by ! (ends 𝓛 En hs c y v (an, h) (tt, tt) (tt, tt) (also 𝓛 _ (so, refl) (last 𝓛 _ (refl, refl, refl))))))))
