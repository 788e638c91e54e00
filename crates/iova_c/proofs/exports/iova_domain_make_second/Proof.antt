-- The slot at the pointer is lent for a lifetime that is made for the call, and lies there again once it is ended.
use Rattle.iova_c.proofs.Words.{ℕ, ◌^◌, ◌<◌, [], ◌∷◌, ◌++◌, refl, sym, subst, w64, MutBor, full_share, named, Val, vint, vptr, SProp, ent, sep, emp, ex, ex_i, never, id⊢, Lft, GName, ftrue, flft, flent, WpFn, sem, Body, suffices, ‵, raw, ◌⊛◌, some, later, ◌$◌, ◌∵◌, !, qed, by, move, keep, use0, use1, use2, use3, split, join, pick, fsplit, fjoin, await, lft_new, lft_end, stop, addr, of_opd, and_then, no_more, returns, enter, alloc_all, pass_all, free_all, look_at, get, through, sets, lands_as, fact, fact_i, tables, yes, RattleType, Is, shows, part_at, mem, uint_vals, uint_Tells, uint_Makes, uint_Lawful, u64, MutRef, lends_ref, ref_back, Ptr, block_ptr, RawPtr, rawptr_vals, rawptr_Tells, lies_at, in_a_block, plain, owned, peeks, heard, nothing, calls_at, Lasts, lasts, triple_of, Stays, stay_dropped, walk_of, Goes-dropped, fm, proved, leaves}
use Rattle.iova_c.specs.contracts.slot.Slot.{the_row}
use Rattle.iova_c.specs.Slots.{HasMadeSecond}
use Rattle.iova_range.specs.declared.limits.TheConstants.{FRAME_BYTES}
use denote.RattleType.{owns}
use denote.Signature.{types_at}
use Rattle.std.specs.contracts.alloc.Global.{the_row as Heap}
use Rattle.std.proofs.alloc.Global.TheLaws as heap_laws
use Rattle.iova_c.specs.contracts.slot.make_second as of
use Rattle.iova_c.proofs.slot.make_second.Met.{met}
use Rattle.iova_c.specs.contracts.exports.iova_domain_make_second.{ended, clauses}
use Rattle.iova_c.specs.contracts.exports.iova_domain_make_second.Key.{name as #self}
use Rattle.iova_c.proofs.exports.iova_domain_make_second.Statement.{statement}
use Rattle.iova_c.proofs.exports.iova_domain_make_second.Code as code

pub iova_domain_make_second_spec : {M : Type 1} → statement M
iova_domain_make_second_spec 𝓤 𝓛 𝓜 𝓡 wired =
    let H = 𝓛.H in let 𝓣 = tables 𝓤 H 𝓜 𝓡 𝓡.env in let c = clauses 𝓛 𝓜.mem 𝓡.returns in let R : RattleType = the_row in
    let k = triple_of 𝓛 of.signature (of.spec 𝓛 𝓜.mem 𝓡.returns) in
    let hs : Stays ended.signature.params ended.kept = (stay_dropped (plain (λ _. Heap)) yes, (stay_dropped (plain (λ _. RawPtr)) yes, (stay_dropped (plain (λ _. u64)) yes, (stay_dropped (plain (λ _. u64)) yes, (stay_dropped (plain (λ _. u64)) yes, (stay_dropped (plain (λ _. u64)) yes, tt)))))) in
    proved 𝓛 ended hs c 𝓜 𝓡 (Goes-dropped 𝓛 0 (plain (λ _. Heap)) yes (λ κs x f. refl), (Goes-dropped 𝓛 0 (plain (λ _. RawPtr)) yes (λ κs x f. refl), (Goes-dropped 𝓛 0 (plain (λ _. u64)) yes (λ κs x f. refl), (Goes-dropped 𝓛 0 (plain (λ _. u64)) yes (λ κs x f. refl), (Goes-dropped 𝓛 0 (plain (λ _. u64)) yes (λ κs x f. refl), (Goes-dropped 𝓛 0 (plain (λ _. u64)) yes (λ κs x f. refl), tt)))))) #self code.function (code.unfolded 𝓤 H 𝓜 𝓡 wired)
    (λ κs. ((λ h. heap_laws.the_told.val h ∷ []), (rawptr_vals, (uint_vals w64, (uint_vals w64, (uint_vals w64, (uint_vals w64, tt))))))) (λ κs. (heap_laws.the_told.tells, (rawptr_Tells, (uint_Tells w64, (uint_Tells w64, (uint_Tells w64, (uint_Tells w64, tt))))))) (λ κs qs bounds a old are.
    let al : Heap.Denot = a.0 in let w : Val = heap_laws.the_told.val al in let tw = ((heap_laws.the_row_laws.lawful 𝓛).typed al (w ∷ []) are.0).0 in
    let x0 : ℕ = a.1.1.0 in let fx0 : x0 < 2 ^ 64 = are.1.1.0.1 in
    let x1 : ℕ = a.1.1.1.0 in let fx1 : x1 < 2 ^ 64 = are.1.1.1.0.1 in
    let x2 : ℕ = a.1.1.1.1.0 in let fx2 : x2 < 2 ^ 64 = are.1.1.1.1.0.1 in
    let x3 : ℕ = a.1.1.1.1.1.0 in let fx3 : x3 < 2 ^ 64 = are.1.1.1.1.1.0.1 in
    let At : Ptr → (walk_of 𝓛 ended hs c).Ghost = λ p. ((tt, tt, tt, (al, (p, (x0, (x1, (x2, (x3, tt)))))), (w ∷ [], (rawptr_vals p, (vint w64 x0 ∷ [], (vint w64 x1 ∷ [], (vint w64 x2 ∷ [], (vint w64 x3 ∷ [], tt))))))), old) in
    let Ends : Ptr → Val → SProp 𝓤 = λ p. (walk_of 𝓛 ended hs c).post (At p) in
    let Told : ℕ → R.Denot → Type 0 = λ result new. HasMadeSecond FRAME_BYTES old.domain x0 x1 x2 x3 result new.domain in
    let New : Ptr → ℕ → R.Denot → SProp 𝓤 = λ p r new. sep 𝓤 (sem 𝓛 (lies_at R full_share p new)) (fact 𝓤 (Told r new)) in
    let Runs : Ptr → SProp 𝓤 = λ p. WpFn 𝓤 H 𝓣.C 𝓣.Λ code.function (w ∷ (rawptr_vals p ++ (vint w64 x0 ∷ vint w64 x1 ∷ vint w64 x2 ∷ vint w64 x3 ∷ []))) (Ends p) in
    qed 𝓛 ((‵ ftrue ⊛ ‵ (owns (types_at ended.signature.params κs) a (w ∷ [], (rawptr_vals a.1.0, (vint w64 x0 ∷ [], (vint w64 x1 ∷ [], (vint w64 x2 ∷ [], (vint w64 x3 ∷ [], tt)))))))) ∷ ‵ (lies_at R full_share a.1.0 old) ∷ []) ∵ split ! $ move ! (1 ∷ []) $ fsplit ! $ move ! (3 ∷ []) $
    in_a_block ! a.1.0 (λ p. lies_at R full_share p old) (id⊢ 𝓤 (never 𝓤)) (λ b o ep.
    suffices ! (Runs (block_ptr b o)) (subst (λ (p : Ptr). ent 𝓤 (Runs (block_ptr b o)) (Runs p)) (sym ep) (id⊢ 𝓤 (Runs (block_ptr b o)))) $ keep ! (0 ∷ 1 ∷ []) $
    enter ! 𝓣.C 𝓣.Λ code.function (w ∷ vptr b o ∷ vint w64 x0 ∷ vint w64 x1 ∷ vint w64 x2 ∷ vint w64 x3 ∷ []) (Ends (block_ptr b o)) $ alloc_all ! (λ l. pass_all ! refl (tw, ((tt, tt), ((tt, record { fits = fx0 }), ((tt, record { fits = fx1 }), ((tt, record { fits = fx2 }), ((tt, record { fits = fx3 }), tt)))))) $
    sets ! (of_opd ! (get ! refl)) refl (tt, tt) $ sets ! (addr ! (through ! refl (stop !))) refl (tt, tt) $
    lft_new ! tt (λ α. let κ : Lft = α ∷ [] in move ! (1 ∷ []) $
    use1 𝓛 (later (some (λ (γ : GName). ‵ ((MutRef (named 0) κ R).own_val (record { ref_ptr = (b, o); ghost_name = γ; now = old }) (vptr b o ∷ [])) ⊛ ‵ (flent κ (Body (mem R) b o γ))))) (lends_ref 𝓛 R (named 0) κ old b o) $ await ! tt $ pick ! (λ γ. split ! $
    -- [the reference; the lender's part; the token; the locals]
    let m : MutBor R.Denot = record { ref_ptr = (b, o); ghost_name = γ; now = old } in
    let y : k.Ghost = (((κ, tt), (full_share, tt), tt, (al, (m, (x0, (x1, (x2, (x3, tt)))))), (w ∷ [], (vptr b o ∷ [], (vint w64 x0 ∷ [], (vint w64 x1 ∷ [], (vint w64 x2 ∷ [], (vint w64 x3 ∷ [], tt))))))), tt) in
    nothing ! $ owned ! u64 (Is u64) (uint_Makes 𝓛 w64) x3 _ (refl, fx3) $ fjoin ! $ owned ! u64 (Is u64) (uint_Makes 𝓛 w64) x2 _ (refl, fx2) $ fjoin ! $ owned ! u64 (Is u64) (uint_Makes 𝓛 w64) x1 _ (refl, fx1) $ fjoin ! $ owned ! u64 (Is u64) (uint_Makes 𝓛 w64) x0 _ (refl, fx0) $ fjoin ! $ move ! (1 ∷ 0 ∷ []) $ fjoin ! $ move ! (3 ∷ 0 ∷ []) $ fjoin ! $
    nothing ! $ move ! (3 ∷ 0 ∷ []) $ join ! $ join ! $ nothing ! $ move ! (1 ∷ 0 ∷ []) $ join ! $ use1 𝓛 (raw (k.pre y)) (id⊢ 𝓤 (k.pre y)) $
    calls_at ! (fm 𝓛 𝓜 𝓡) k (met 𝓤 𝓛 𝓜 𝓡 (code.calls-iova_c::slot::make_second 𝓡.env wired)) y (and_then ! (get ! refl) (and_then ! (get ! refl) (and_then ! (get ! refl) (and_then ! (get ! refl) (and_then ! (get ! refl) (and_then ! (get ! refl) (no_more !))))))) (λ v.
    use1 𝓛 (later (some (λ (r : ℕ). ((‵ (flft κ full_share) ⊛ ‵ ftrue) ⊛ ‵ (u64.own_val r (v ∷ []))) ⊛ some (λ (ws : Lasts of.ended (κ, tt) (al, (m, (x0, (x1, (x2, (x3, tt))))))). ‵ (lasts of.ended (κ, tt) (al, (m, (x0, (x1, (x2, (x3, tt)))))) ws) ⊛ raw (fact 𝓤 (Told r ws.1.0)))))) (id⊢ 𝓤 (k.post y v)) $
    await ! tt $ pick ! (λ r. split ! $ move ! (1 ∷ []) $ pick ! (λ ws. split ! $ move ! (1 ∷ []) $ heard ! (Told r ws.1.0) (λ e.
    -- [the last values; the token and the result; the lender's part; the locals]
    fsplit ! $ move ! (1 ∷ []) $ fsplit ! $ fsplit ! $ move ! (4 ∷ []) $ split ! $ split ! $ lft_end ! tt $
    -- [the lifetime is over; true; the result; the last value; the borrow; the rest; the lender's part; the locals]
    move ! (0 ∷ 7 ∷ 3 ∷ []) $ use3 𝓛 (later (‵ (part_at R full_share ws.1.0 b o))) (ref_back 𝓛 R κ γ ws.1.0 b o) $ await ! tt $
    move ! (2 ∷ []) $ peeks ! u64 (Is u64) (shows 𝓛 u64) r (v ∷ []) (λ is. lands_as ! refl refl ((uint_Lawful 𝓛 w64).typed r _ is).0 $
    returns ! (look_at ! 0 refl) $ free_all ! refl $
    use0 𝓛 (raw (fact 𝓤 (Told r ws.1.0))) (fact_i 𝓤 (Told r ws.1.0) (emp 𝓤) e) $ move ! (2 ∷ 0 ∷ []) $ use2 𝓛 (raw (ex 𝓤 (New (block_ptr b o) r))) (ex_i 𝓤 (New (block_ptr b o) r) ws.1.0) $
    nothing ! $ nothing ! $ fjoin ! $ nothing ! $ fjoin ! $ nothing ! $ fjoin ! $ nothing ! $ fjoin ! $ nothing ! $ fjoin ! $ nothing ! $ fjoin ! $ nothing ! $ keep ! (0 ∷ 1 ∷ 3 ∷ 2 ∷ []) $
    by ! (leaves 𝓛 ended hs c (At (block_ptr b o)) v r (tt, (tt, (tt, (tt, (tt, (tt, tt)))))) (tt, (tt, (tt, (tt, (tt, (tt, tt)))))))))))))))))
