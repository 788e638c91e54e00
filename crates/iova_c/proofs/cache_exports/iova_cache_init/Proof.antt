-- The room at the pointer is written, with a slot that a call makes.
use Rattle.iova_c.proofs.Words.{◌≡◌, List, [], ◌∷◌, ◌++◌, refl, sym, subst, full_share, Val, vptr, vunit, SProp, ent, id⊢, ftrue, WpFn, suffices, ‵, raw, ◌⊛◌, some, later, ◌$◌, ◌∵◌, !, qed, by, move, keep, use1, use2, split, join, pick, await, stop, of_opd, no_more, returns, enter, alloc_all, pass_all, free_all, look_at, get, through, sets, lands_as, fact, tables, yes, RattleType, Is, shows, part_at, Ptr, block_ptr, RawPtr, rawptr_vals, rawptr_Tells, in_a_block, plain, peeks, heard, nothing, calls_at, Lasts, lasts, on_entry, triple_of, Stays, stay_dropped, walk_of, Goes-dropped, fm, proved, leaves, never}
use Rattle.std.specs.Prelude.{Option, None}
use Rattle.iova_c.specs.declared.cached.PagedCache.{PagedCache}
use types.Kit.{feq_i, rewrite, fjoin}
use types.Run.{init, unit_lit, assigns}
use denote.RawPtr.{room_at}
use borrow.Table.OneValue.{part_in}
use Rattle.iova_c.specs.contracts.cached.CacheSlot.{the_row}
use Rattle.iova_c.proofs.cached.CacheSlot.TheLaws as laws
use Rattle.iova_c.specs.contracts.cached.no_cache as of
use Rattle.iova_c.proofs.cached.no_cache.Met.{met}
use Rattle.iova_c.specs.contracts.cache_exports.iova_cache_init.{ended, clauses}
use Rattle.iova_c.specs.contracts.cache_exports.iova_cache_init.Key.{name as #self}
use Rattle.iova_c.proofs.cache_exports.iova_cache_init.Statement.{statement}
use Rattle.iova_c.proofs.cache_exports.iova_cache_init.Code as code

pub iova_cache_init_spec : {M : Type 1} → statement M
iova_cache_init_spec 𝓤 𝓛 𝓜 𝓡 wired =
    let H = 𝓛.H in let 𝓣 = tables 𝓤 H 𝓜 𝓡 𝓡.env in let c = clauses 𝓛 𝓜.mem 𝓡.returns in let R : RattleType = the_row in
    let k = triple_of 𝓛 of.signature (of.spec 𝓛 𝓜.mem 𝓡.returns) in
    let hs : Stays ended.signature.params ended.kept = (stay_dropped (plain (λ _. RawPtr)) yes, tt) in
    proved 𝓛 ended hs c 𝓜 𝓡 (Goes-dropped 𝓛 0 (plain (λ _. RawPtr)) yes (λ κs x f. refl), tt) #self code.function (code.unfolded 𝓤 H 𝓜 𝓡 wired)
    (λ κs. (rawptr_vals, tt)) (λ κs. (rawptr_Tells, tt)) (λ κs qs bounds a g are.
    let At : Ptr → (walk_of 𝓛 ended hs c).Ghost = λ p. ((tt, tt, tt, (p, tt), (rawptr_vals p, tt)), g) in
    let Ends : Ptr → Val → SProp 𝓤 = λ p. (walk_of 𝓛 ended hs c).post (At p) in
    let Runs : Ptr → SProp 𝓤 = λ p. WpFn 𝓤 H 𝓣.C 𝓣.Λ code.function (rawptr_vals p ++ []) (Ends p) in
    qed 𝓛 (raw (on_entry 𝓛 ended.signature tt tt a (rawptr_vals a.0, tt)) ∷ ‵ (room_at R a.0) ∷ []) ∵ move ! (1 ∷ []) $
    in_a_block ! a.0 (λ p. room_at R p) (id⊢ 𝓤 (never 𝓤)) (λ b o ep.
    suffices ! (Runs (block_ptr b o)) (subst (λ (p : Ptr). ent 𝓤 (Runs (block_ptr b o)) (Runs p)) (sym ep) (id⊢ 𝓤 (Runs (block_ptr b o)))) $ keep ! (0 ∷ []) $
    enter ! 𝓣.C 𝓣.Λ code.function (vptr b o ∷ []) (Ends (block_ptr b o)) $ alloc_all ! (λ l. pass_all ! refl ((tt, tt), tt) $
    sets ! (of_opd ! (get ! refl)) refl (tt, tt) $
    -- [the room; the locals]
    let y : k.Ghost = ((tt, tt, tt, tt, tt), tt) in
    nothing ! $ nothing ! $ join ! $ nothing ! $ move ! (1 ∷ 0 ∷ []) $ join ! $ use1 𝓛 (raw (k.pre y)) (id⊢ 𝓤 (k.pre y)) $
    calls_at ! (fm 𝓛 𝓜 𝓡) k (met 𝓤 𝓛 𝓜 𝓡 (code.calls-iova_c::cached::no_cache 𝓡.env wired)) y (no_more !) (λ v.
    use1 𝓛 (later (some (λ (r : R.Denot). (‵ ftrue ⊛ ‵ (R.own_val r (v ∷ []))) ⊛ some (λ (ws : Lasts of.ended tt tt). ‵ (lasts of.ended tt tt ws) ⊛ raw (fact 𝓤 (r.cache ≡ None)))))) (id⊢ 𝓤 (k.post y v)) $
    await ! tt $ pick ! (λ r. split ! $ move ! (1 ∷ []) $ pick ! (λ ws. split ! $ move ! (1 ∷ []) $ heard ! (r.cache ≡ None) (λ e. move ! (1 ∷ []) $ split ! $ move ! (1 ∷ []) $
    -- [the slot; ..; the room; the locals]
    peeks ! R (Is R) (shows 𝓛 R) r (v ∷ []) (λ is. let typed = ((laws.the_row_laws.lawful 𝓛).typed r (v ∷ []) is).0 in lands_as ! refl refl typed $
    assigns ! (of_opd ! (get ! refl)) (through ! refl (stop !)) (init ! 3 refl typed) $
    move ! (3 ∷ 0 ∷ []) $ use2 𝓛 (‵ (part_at R full_share r b o)) (part_in 𝓛 R refl full_share r b o v) $
    sets ! (of_opd ! (unit_lit !)) refl (tt, tt) $ returns ! (look_at ! 0 refl) $ free_all ! refl $
    rewrite ! 0 (λ (d : Option PagedCache). ‵ (part_at R full_share (record { cache = d }) b o)) e refl $
    keep ! (0 ∷ []) $ feq_i ! (List Val) (vunit ∷ []) (vunit ∷ []) refl $ nothing ! $ nothing ! $ fjoin ! $ nothing ! $ keep ! (0 ∷ 1 ∷ 2 ∷ 3 ∷ []) $
    by ! (leaves 𝓛 ended hs c (At (block_ptr b o)) vunit tt (tt, tt) (tt, tt))))))))))
