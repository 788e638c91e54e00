-- `look` shows the hand the history. Both halves of its name have the same entries.
use Rattle.iova_annals.proofs.Walks.{◌≡◌, ℕ, List, [], ◌∷◌, sym, refl, a_type, named, Val, vunit, vptr, inst_fn, IsPrefix, SProp, Fml, ftrue, fsep, flft, ‵, raw, ◌⊛◌, given, later, ◌$◌, ◌∵◌, !, qed, by, move, keep, drop, split, fsplit, fsplit3, fjoin, fjoin3, learn, use2, await, rewrite, feq_i, unit_lit, of_opd, returns, enter, alloc_all, pass_all, free_all, look_at, sets, fact, tables, RattleType, owns, types_at, plain, mut_vals, mut_Tells, nothing, opens, closes, param, layouts, Stays, stay_ref, walk_of, Goes-ref, proved, ends, also, last}
use Rattle.iova_annals.specs.Histories.{of_hand}
use Rattle.iova_annals.specs.Owned.{annals_owns, hand_owns}
use Rattle.iova_annals.specs.contracts.Annals as Annals
use Rattle.iova_annals.specs.contracts.Hand as Hand
use Rattle.iova_annals.proofs.Steps as steps
use Rattle.iova_annals.specs.contracts.Annals.look.{ended, clauses}
use Rattle.iova_annals.specs.contracts.Annals.look.Key.{name as #self}
use Rattle.iova_annals.proofs.Annals.look.Statement.{statement}
use Rattle.iova_annals.proofs.Annals.look.Code as code

pub look_spec : {M : Type 1} → statement M
look_spec 𝓤 𝓛 𝓜 𝓡 wired E L =
    let H = 𝓛.H in let 𝓣 = tables 𝓤 H 𝓜 𝓡 𝓡.env in let E' : RattleType = param 0 E in let An : RattleType = Annals.the_row E' in let Hn : RattleType = Hand.the_row E' in let En = ended E in
    let inst = layouts (a_type ∷ []) (E, tt) in let fn = inst_fn inst code.function in let c = clauses E 𝓛 𝓜.mem 𝓡.returns in let cv = E'.coded in
    let hs : Stays En.signature.params En.kept = (stay_ref (0 ∷ []) tt (plain (λ _. An)), (stay_ref (1 ∷ []) tt (plain (λ _. Hn)), tt)) in
    proved 𝓛 En hs c 𝓜 𝓡 (Goes-ref 𝓛 3 0 tt (plain (λ _. An)), (Goes-ref 𝓛 3 1 tt (plain (λ _. Hn)), tt)) (#self inst) fn (code.unfolded 𝓤 H 𝓜 𝓡 wired (E, tt))
    (λ κs. (mut_vals, (mut_vals, tt))) (λ κs. (mut_Tells (named 0) κs.0 An, (mut_Tells (named 1) κs.1.0 Hn, tt))) (λ κs qs bounds a gh are.
    let b : ℕ = a.0.ref_ptr.0 in let o : ℕ = a.0.ref_ptr.1 in let an : An.Denot = a.0.now in let d : ℕ = a.1.0.ref_ptr.0 in let q : ℕ = a.1.0.ref_ptr.1 in let hd : Hn.Denot = a.1.0.now in
    let an' : An.Denot = an in let hd' : Hn.Denot = record { marker = hd.marker; book = an.book; name = hd.name; number = hd.number; mine = hd.mine; seen = an.log } in
    let y : (walk_of 𝓛 En hs c).Ghost = ((κs, qs, bounds, a, (vptr b o ∷ [], (vptr d q ∷ [], tt))), gh) in let Post : Val → SProp 𝓤 = (walk_of 𝓛 En hs c).post y in let toks : Fml = fsep (flft κs.0 qs.0) (fsep (flft κs.1.0 qs.1.0) (fsep (flft κs.1.1.0 qs.1.1.0) ftrue)) in
    qed 𝓛 ((‵ toks ⊛ ‵ (owns (types_at En.signature.params κs) a y.0.4)) ∷ raw (fact 𝓤 _) ∷ given _ (‵ ftrue) ∷ given _ (‵ ftrue) ∷ []) ∵ keep ! (2 ∷ 3 ∷ 0 ∷ []) $ learn ! (λ same. drop ! $ learn ! (λ at. drop ! $ split ! $
    fsplit ! $ move ! (1 ∷ []) $ fsplit ! $ move ! (3 ∷ []) $ fsplit ! $ fsplit3 ! $ move ! (3 ∷ []) $ fsplit ! $ fsplit3 ! $ keep ! (5 ∷ 6 ∷ 9 ∷ 1 ∷ 2 ∷ 7 ∷ 8 ∷ []) $
    enter ! 𝓣.C 𝓣.Λ fn (vptr b o ∷ vptr d q ∷ []) Post $ alloc_all ! (λ l. pass_all ! refl ((tt, tt), ((tt, tt), tt)) $
    opens ! tt An b o (λ ts. move ! (5 ∷ 6 ∷ 7 ∷ []) $ opens ! tt Hn d q (λ us. move ! (1 ∷ []) $ fsplit ! $ move ! (7 ∷ []) $ fsplit ! $ move ! (1 ∷ 3 ∷ []) $
    rewrite ! 1 (λ (γ : ℕ). ‵ (hand_owns cv γ hd.name hd.mine hd.seen)) same refl $
    use2 𝓛 (later (given ((hd.mine ≡ of_hand hd.number an.log) × IsPrefix hd.seen an.log) (‵ (annals_owns cv an'.book an'.hands an'.log) ⊛ ‵ (hand_owns cv hd'.book hd'.name hd'.mine hd'.seen)))) (steps.looks 𝓛 cv an.book an.hands hd.number hd.name an.log hd.seen hd.mine at) $
    await ! tt $ learn ! (λ so. split ! $ move ! (2 ∷ 0 ∷ []) $ fjoin ! $ move ! (2 ∷ 1 ∷ []) $ fjoin ! $ move ! (2 ∷ 0 ∷ 3 ∷ 4 ∷ 5 ∷ []) $ closes ! tt Hn hd' us d q $ move ! (4 ∷ 3 ∷ 5 ∷ 6 ∷ 7 ∷ []) $ closes ! tt An an' ts b o $
    sets ! (of_opd ! (unit_lit !)) refl (tt, tt) $ feq_i ! (List Val) (vunit ∷ []) (vunit ∷ []) refl $ move ! (6 ∷ 7 ∷ []) $ fjoin ! $ move ! (4 ∷ 0 ∷ []) $ fjoin ! $
    nothing ! $ feq_i ! (List Val) (vptr d q ∷ []) (vptr d q ∷ []) refl $ move ! (0 ∷ 6 ∷ 7 ∷ []) $ fjoin3 ! $ fjoin ! $ feq_i ! (List Val) (vptr b o ∷ []) (vptr b o ∷ []) refl $ move ! (0 ∷ 4 ∷ 5 ∷ []) $ fjoin3 ! $ fjoin ! $
    returns ! (look_at ! 0 refl) $ free_all ! refl $ keep ! (1 ∷ 0 ∷ 2 ∷ []) $ by ! (ends 𝓛 En hs c y vunit tt (an', (hd', tt)) (tt, (tt, tt)) (also 𝓛 _ refl (also 𝓛 _ (sym same, refl) (also 𝓛 _ refl (also 𝓛 _ refl (also 𝓛 _ refl (last 𝓛 _ so))))))))))))))
