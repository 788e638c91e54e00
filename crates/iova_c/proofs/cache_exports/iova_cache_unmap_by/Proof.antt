-- The slots at the pointers are lent for lifetimes that are made for the call, and lie there again once these are ended.
use Rattle.iova_c.proofs.Words.{ℕ, ◌^◌, ◌<◌, [], ◌∷◌, ◌++◌, refl, sym, subst, w64, MutBor, full_share, named, Val, vint, vptr, SProp, ent, sep, emp, ex, ex_i, never, id⊢, Lft, GName, ftrue, flft, flent, WpFn, sem, Body, suffices, ‵, raw, ◌⊛◌, some, later, ◌$◌, ◌∵◌, !, qed, by, move, keep, use0, use1, use2, use3, split, join, pick, fsplit, fjoin, await, lft_new, lft_end, stop, addr, of_opd, and_then, no_more, returns, enter, alloc_all, pass_all, free_all, look_at, get, through, sets, lands_as, fact, fact_i, tables, yes, RattleType, Is, shows, part_at, mem, uint_vals, uint_Tells, uint_Makes, u64, MutRef, lends_ref, ref_back, Ptr, block_ptr, RawPtr, rawptr_vals, rawptr_Tells, lies_at, in_a_block, plain, owned, peeks, heard, nothing, calls_at, Lasts, lasts, on_entry, triple_of, Stays, stay_dropped, walk_of, Goes-dropped, fm, proved, leaves}
use Rattle.iova_c.specs.contracts.cached.CacheSlot.{the_row}
use Rattle.iova_c.specs.contracts.slot.Slot.{the_row as slot_row}
use Rattle.iova_c.specs.Caches.{UnmapByCall}
use Rattle.iova_c.specs.contracts.answer.RangeAnswer.{the_row as Out}
use Rattle.iova_c.proofs.answer.RangeAnswer.TheLaws as out_laws
use Rattle.iova_c.specs.contracts.exchanged.unmap_by as of
use Rattle.iova_c.proofs.exchanged.unmap_by.Met.{met}
use Rattle.iova_c.specs.contracts.cache_exports.iova_cache_unmap_by.{ended, clauses}
use Rattle.iova_c.specs.contracts.cache_exports.iova_cache_unmap_by.Key.{name as #self}
use Rattle.iova_c.proofs.cache_exports.iova_cache_unmap_by.Statement.{statement}
use Rattle.iova_c.proofs.cache_exports.iova_cache_unmap_by.Code as code

pub iova_cache_unmap_by_spec : {M : Type 1} → statement M
iova_cache_unmap_by_spec 𝓤 𝓛 𝓜 𝓡 wired =
    let H = 𝓛.H in let 𝓣 = tables 𝓤 H 𝓜 𝓡 𝓡.env in let c = clauses 𝓛 𝓜.mem 𝓡.returns in let R : RattleType = slot_row in let RB : RattleType = the_row in
    let k = triple_of 𝓛 of.signature (of.spec 𝓛 𝓜.mem 𝓡.returns) in
    let hs : Stays ended.signature.params ended.kept = (stay_dropped (plain (λ _. RawPtr)) yes, (stay_dropped (plain (λ _. RawPtr)) yes, (stay_dropped (plain (λ _. u64)) yes, tt))) in
    proved 𝓛 ended hs c 𝓜 𝓡 (Goes-dropped 𝓛 0 (plain (λ _. RawPtr)) yes (λ κs x f. refl), (Goes-dropped 𝓛 0 (plain (λ _. RawPtr)) yes (λ κs x f. refl), (Goes-dropped 𝓛 0 (plain (λ _. u64)) yes (λ κs x f. refl), tt))) #self code.function (code.unfolded 𝓤 H 𝓜 𝓡 wired)
    (λ κs. (rawptr_vals, (rawptr_vals, (uint_vals w64, tt)))) (λ κs. (rawptr_Tells, (rawptr_Tells, (uint_Tells w64, tt)))) (λ κs qs bounds a old are.
    let x0 : ℕ = a.1.1.0 in let fx0 : x0 < 2 ^ 64 = are.1.1.0.1 in
    let At : Ptr → Ptr → (walk_of 𝓛 ended hs c).Ghost = λ p p2. ((tt, tt, tt, (p, (p2, (x0, tt))), (rawptr_vals p, (rawptr_vals p2, (vint w64 x0 ∷ [], tt)))), old) in
    let Ends : Ptr → Ptr → Val → SProp 𝓤 = λ p p2. (walk_of 𝓛 ended hs c).post (At p p2) in
    let Told : Out.Denot → R.Denot → RB.Denot → Type 0 = λ result new new2. UnmapByCall old.0.domain old.1.cache x0 result new.domain new2.cache in
    let New : Ptr → Ptr → Out.Denot → (R.Denot × RB.Denot) → SProp 𝓤 = λ p p2 r new. sep 𝓤 (sem 𝓛 (lies_at R full_share p new.0)) (sep 𝓤 (sem 𝓛 (lies_at RB full_share p2 new.1)) (fact 𝓤 (Told r new.0 new.1))) in
    let Runs : Ptr → Ptr → SProp 𝓤 = λ p p2. WpFn 𝓤 H 𝓣.C 𝓣.Λ code.function ((rawptr_vals p ++ (rawptr_vals p2 ++ (vint w64 x0 ∷ [])))) (Ends p p2) in
    qed 𝓛 (raw (on_entry 𝓛 ended.signature tt tt a (rawptr_vals a.0, (rawptr_vals a.1.0, (vint w64 x0 ∷ [], tt)))) ∷ (‵ (lies_at R full_share a.0 old.0) ⊛ ‵ (lies_at RB full_share a.1.0 old.1)) ∷ []) ∵ move ! (1 ∷ []) $ split ! $
    in_a_block ! a.0 (λ p. lies_at R full_share p old.0) (id⊢ 𝓤 (never 𝓤)) (λ b o ep. move ! (1 ∷ []) $
    in_a_block ! a.1.0 (λ p. lies_at RB full_share p old.1) (id⊢ 𝓤 (never 𝓤)) (λ b2 o2 ep2.
    suffices ! (Runs (block_ptr b o) (block_ptr b2 o2)) (subst (λ (p : Ptr). ent 𝓤 (Runs (block_ptr b o) (block_ptr b2 o2)) (Runs p a.1.0)) (sym ep) (subst (λ (p : Ptr). ent 𝓤 (Runs (block_ptr b o) (block_ptr b2 o2)) (Runs (block_ptr b o) p)) (sym ep2) (id⊢ 𝓤 (Runs (block_ptr b o) (block_ptr b2 o2))))) $ keep ! (1 ∷ 0 ∷ []) $
    enter ! 𝓣.C 𝓣.Λ code.function (vptr b o ∷ vptr b2 o2 ∷ vint w64 x0 ∷ []) (Ends (block_ptr b o) (block_ptr b2 o2)) $ alloc_all ! (λ l. pass_all ! refl ((tt, tt), ((tt, tt), ((tt, record { fits = fx0 }), tt))) $
    sets ! (of_opd ! (get ! refl)) refl (tt, tt) $ sets ! (addr ! (through ! refl (stop !))) refl (tt, tt) $ sets ! (of_opd ! (get ! refl)) refl (tt, tt) $ sets ! (addr ! (through ! refl (stop !))) refl (tt, tt) $
    lft_new ! tt (λ α. let κ : Lft = α ∷ [] in move ! (1 ∷ []) $
    use1 𝓛 (later (some (λ (γ : GName). ‵ ((MutRef (named 0) κ R).own_val (record { ref_ptr = (b, o); ghost_name = γ; now = old.0 }) (vptr b o ∷ [])) ⊛ ‵ (flent κ (Body (mem R) b o γ))))) (lends_ref 𝓛 R (named 0) κ old.0 b o) $ await ! tt $ pick ! (λ γ. split ! $
    lft_new ! tt (λ α2. let κ2 : Lft = α2 ∷ [] in move ! (4 ∷ []) $
    use1 𝓛 (later (some (λ (γ : GName). ‵ ((MutRef (named 1) κ2 RB).own_val (record { ref_ptr = (b2, o2); ghost_name = γ; now = old.1 }) (vptr b2 o2 ∷ [])) ⊛ ‵ (flent κ2 (Body (mem RB) b2 o2 γ))))) (lends_ref 𝓛 RB (named 1) κ2 old.1 b2 o2) $ await ! tt $ pick ! (λ γ2. split ! $
    -- [the second reference, its lender's part and token; those of the first; the locals]
    let m : MutBor R.Denot = record { ref_ptr = (b, o); ghost_name = γ; now = old.0 } in let m2 : MutBor RB.Denot = record { ref_ptr = (b2, o2); ghost_name = γ2; now = old.1 } in
    let y : k.Ghost = (((κ, (κ2, tt)), (full_share, (full_share, tt)), tt, (m, (m2, (x0, tt))), (vptr b o ∷ [], (vptr b2 o2 ∷ [], (vint w64 x0 ∷ [], tt)))), tt) in
    nothing ! $ owned ! u64 (Is u64) (uint_Makes 𝓛 w64) x0 _ (refl, fx0) $ fjoin ! $ move ! (1 ∷ 0 ∷ []) $ fjoin ! $ move ! (3 ∷ 0 ∷ []) $ fjoin ! $
    nothing ! $ move ! (3 ∷ 0 ∷ []) $ join ! $ move ! (4 ∷ 0 ∷ []) $ join ! $ join ! $ nothing ! $ move ! (1 ∷ 0 ∷ []) $ join ! $ use1 𝓛 (raw (k.pre y)) (id⊢ 𝓤 (k.pre y)) $
    calls_at ! (fm 𝓛 𝓜 𝓡) k (met 𝓤 𝓛 𝓜 𝓡 (code.calls-iova_c::exchanged::unmap_by 𝓡.env wired)) y (and_then ! (get ! refl) (and_then ! (get ! refl) (and_then ! (get ! refl) (no_more !)))) (λ v.
    use1 𝓛 (later (some (λ (r : Out.Denot). ((‵ (flft κ full_share) ⊛ (‵ (flft κ2 full_share) ⊛ ‵ ftrue)) ⊛ ‵ (Out.own_val r (v ∷ []))) ⊛ some (λ (ws : Lasts of.ended (κ, (κ2, tt)) (m, (m2, (x0, tt)))). ‵ (lasts of.ended (κ, (κ2, tt)) (m, (m2, (x0, tt))) ws) ⊛ raw (fact 𝓤 (Told r ws.0 ws.1.0)))))) (id⊢ 𝓤 (k.post y v)) $
    await ! tt $ pick ! (λ r. split ! $ move ! (1 ∷ []) $ pick ! (λ ws. split ! $ move ! (1 ∷ []) $ heard ! (Told r ws.0 ws.1.0) (λ e.
    -- [the last values; the tokens and the result; the lenders' parts; the locals]
    fsplit ! $ fsplit ! $ move ! (2 ∷ []) $ fsplit ! $ fsplit ! $ move ! (5 ∷ []) $ split ! $ split ! $ lft_end ! tt $
    move ! (0 ∷ 9 ∷ 6 ∷ []) $ use3 𝓛 (later (‵ (part_at R full_share ws.0 b o))) (ref_back 𝓛 R κ γ ws.0 b o) $ await ! tt $
    move ! (1 ∷ []) $ split ! $ lft_end ! tt $
    move ! (0 ∷ 8 ∷ 4 ∷ []) $ use3 𝓛 (later (‵ (part_at RB full_share ws.1.0 b2 o2))) (ref_back 𝓛 RB κ2 γ2 ws.1.0 b2 o2) $ await ! tt $
    move ! (3 ∷ []) $ peeks ! Out (Is Out) (shows 𝓛 Out) r (v ∷ []) (λ is. lands_as ! refl refl ((out_laws.the_row_laws.lawful 𝓛).typed r _ is).0 $
    returns ! (look_at ! 0 refl) $ free_all ! refl $
    use0 𝓛 (raw (fact 𝓤 (Told r ws.0 ws.1.0))) (fact_i 𝓤 (Told r ws.0 ws.1.0) (emp 𝓤) e) $ move ! (2 ∷ 0 ∷ []) $ join ! $ move ! (3 ∷ 0 ∷ []) $ use2 𝓛 (raw (ex 𝓤 (New (block_ptr b o) (block_ptr b2 o2) r))) (ex_i 𝓤 (New (block_ptr b o) (block_ptr b2 o2) r) (ws.0, ws.1.0)) $
    nothing ! $ nothing ! $ fjoin ! $ nothing ! $ fjoin ! $ nothing ! $ fjoin ! $ nothing ! $ keep ! (0 ∷ 1 ∷ 3 ∷ 2 ∷ []) $
    by ! (leaves 𝓛 ended hs c (At (block_ptr b o) (block_ptr b2 o2)) v r (tt, (tt, (tt, tt))) (tt, (tt, (tt, tt)))))))))))))))))
