-- The change of ghost state in each function. Assumes `Logic`.
use Rattle.std.proofs.Common.{◌≡◌, ℕ, zero, suc, ◌+◌, ◌<◌, ◌≤◌, ◌==◌, false, List, [], ◌∷◌, ◌++◌, map, length, take, drop as drop_front, slice_get, Some, sym, refl, ap, ◌∙◌, subst, arith, tests, append-nil}
use mathlib.Core.List.{IsPrefix}
use seplogic.Ra.Ura.{Ura}
use base.Fraction.{full_share}
use base.Stored.{Gv, Coded}
use base.Logic.{SProp, ent, sep, ex, guard, upd, emp, id⊢, via, upd_i}
use base.Fml.{Fml, fobs, fauth}
use base.Growing.{latest, at_least}
use types.Logic.{Logic, sem}
use types.Owned.{basic}
use types.Growing.{latest_new, latest_grows, latest_shows, latest_bounds}
use types.Tokens.{name_new}
use types.Kit.{‵, raw, ◌⊛◌, some, given, later, ◌$◌, ◌∵◌, !, qed, move, keep, split, split3, fsplit, fjoin, learn, pick, show, check, suffices, settle, done, use0, use1, use2, updating, await, now, rewrite}
use denote.Steps.{nothing}
use Rattle.logbook.proofs.Roster.{prefix_in, prefix_out}
use Rattle.iova_annals.specs.Histories.{marks, of_hand}
use Rattle.iova_annals.specs.Owned.{logs, lists, marked, rows, unused, annals_owns, hand_owns, hands_own}
use Rattle.iova_annals.proofs.Entries.{of_own, of_other}

less : (i k : ℕ) → i < k → (i == k) ≡ false
less i k lt = grind (arith, tests)

more_than : (k j i : ℕ) → k + suc j ≡ i → (i == k) ≡ false
more_than k j i sum = grind (arith, tests)

abbrev pub first_of : List ℕ → ℕ
first_of [] = 0
first_of (δ ∷ δs) = δ

pub first_then : (names : List ℕ) → 1 ≤ length names → names ≡ first_of names ∷ drop_front 1 names
first_then [] le = absurd (omega arith)
first_then (δ ∷ δs) le = refl

module _ {M : Type 1} {𝓤 : Ura M} (𝓛 : Logic 𝓤) {E : Type 0} (cv : Coded E) where
  open 𝓛 use {H, A}

  abbrev Pr : Type 2
  Pr = SProp 𝓤

  abbrev ◌⊢◌ : Pr → Pr → Type 1
  P ⊢ Q = ent 𝓤 P Q

  abbrev ◌∗◌ : Pr → Pr → Pr
  P ∗ Q = sep 𝓤 P Q

  abbrev ⟦◌⟧ : Fml → Pr
  ⟦ P ⟧ = sem 𝓛 P

  infix 26 ◌⊢◌
  infixr 35 ◌∗◌
  abbrev wrote : List E → Gv
  wrote xs = (lists cv).code xs

  abbrev all_of : List (ℕ × E) → List Gv
  all_of log = map (marked cv).code log

  abbrev top : ℕ → List (ℕ × E) → Fml
  top γ log = latest logs full_share γ (all_of log)

  abbrev had : ℕ → List (ℕ × E) → Fml
  had γ log = at_least logs γ (all_of log)

  -- the entries of one hand leave the halves of the other hands
  rows_stay : (hands : List ℕ) (k i : ℕ) (log : List (ℕ × E)) (more : List E) → i < k → ⟦ rows cv k hands log ⟧ ⊢ ⟦ rows cv k hands (log ++ marks i more) ⟧
  rows_stay [] k i log more lt = id⊢ 𝓤 _
  rows_stay (δ ∷ δs) k i log more lt = qed 𝓛 (‵ (rows cv k (δ ∷ δs) log) ∷ []) ∵ fsplit ! $
      rewrite ! 0 (λ (xs : List E). ‵ (fauth δ (wrote xs))) (sym (of_other k i log more (less i k lt))) refl $ move ! (1 ∷ []) $
      use1 𝓛 (‵ (rows cv (suc k) δs (log ++ marks i more))) (rows_stay δs (suc k) i log more (omega arith)) $ move ! (1 ∷ 0 ∷ []) $ fjoin ! $ done !

  module _ (i δ : ℕ) (log : List (ℕ × E)) (mine more : List E) where
    abbrev Gone : ℕ → List ℕ → Pr
    Gone k hands = guard 𝓤 (mine ≡ of_hand i log) (⟦ rows cv k hands (log ++ marks i more) ⟧ ∗ ⟦ fobs δ (wrote (mine ++ more)) ⟧)

    -- both halves of a name have the same entries, and get the new entries
    row_goes : (hands : List ℕ) (k j : ℕ) → k + j ≡ i → slice_get hands j ≡ Some δ → ⟦ rows cv k hands log ⟧ ∗ ⟦ fobs δ (wrote mine) ⟧ ⊢ upd 𝓤 (Gone k hands)
    row_goes [] k j sum at = absurd (cc at)
    row_goes (γ ∷ γs) k zero sum at = let G : Pr = Gone k (γ ∷ γs) in let is : γ ≡ δ = cc at in let ki : k ≡ i = omega arith in
        qed 𝓛 (‵ (rows cv k (γ ∷ γs) log) ∷ ‵ (fobs δ (wrote mine)) ∷ []) ∵ fsplit ! $
        rewrite ! 0 (λ (n : ℕ). ‵ (fauth n (wrote (of_hand k log)))) is refl $ rewrite ! 0 (λ (n : ℕ). ‵ (fauth δ (wrote (of_hand n log)))) ki refl $ move ! (2 ∷ 0 ∷ []) $
        use2 𝓛 (given (wrote mine ≡ wrote (of_hand i log)) (‵ (fobs δ (wrote mine)) ⊛ ‵ (fauth δ (wrote (of_hand i log))))) (𝓛.names.name_agree δ (wrote mine) (wrote (of_hand i log))) $ learn ! (λ same.
        let e : mine ≡ of_hand i log = (lists cv).inj mine (of_hand i log) same in
        use1 𝓛 (raw (upd 𝓤 (A.obs δ (wrote (mine ++ more)) ∗ A.auth δ (wrote (mine ++ more))))) (𝓛.names.name_set_upd δ (wrote mine) (wrote (of_hand i log)) (wrote (mine ++ more))) $
        settle 𝓛 G (‵ (fobs δ (wrote (mine ++ more))) ⊛ ‵ (fauth δ (wrote (mine ++ more)))) $ split ! $ suffices ! G (upd_i 𝓤 G) $ check ! e $
        rewrite ! 1 (λ (xs : List E). ‵ (fauth δ (wrote xs))) (ap (λ (xs : List E). xs ++ more) e ∙ sym (of_own i log more)) refl $
        rewrite ! 1 (λ (n : ℕ). ‵ (fauth δ (wrote (of_hand n (log ++ marks i more))))) (sym ki) refl $
        rewrite ! 1 (λ (n : ℕ). ‵ (fauth n (wrote (of_hand k (log ++ marks i more))))) (sym is) refl $ move ! (2 ∷ []) $
        use1 𝓛 (‵ (rows cv (suc k) γs (log ++ marks i more))) (rows_stay γs (suc k) i log more (omega arith)) $ move ! (2 ∷ 0 ∷ []) $ fjoin ! $ done !)
    row_goes (γ ∷ γs) k (suc j) sum at = let G : Pr = Gone k (γ ∷ γs) in
        qed 𝓛 (‵ (rows cv k (γ ∷ γs) log) ∷ ‵ (fobs δ (wrote mine)) ∷ []) ∵ fsplit ! $ move ! (1 ∷ 2 ∷ []) $
        use2 𝓛 (raw (upd 𝓤 (Gone (suc k) γs))) (row_goes γs (suc k) j (omega arith) at) $
        settle 𝓛 G (given (mine ≡ of_hand i log) (‵ (rows cv (suc k) γs (log ++ marks i more)) ⊛ ‵ (fobs δ (wrote (mine ++ more))))) $ learn ! (λ e. split ! $
        suffices ! G (upd_i 𝓤 G) $ check ! e $ rewrite ! 2 (λ (xs : List E). ‵ (fauth γ (wrote xs))) (sym (of_other k i log more (more_than k j i sum))) refl $
        move ! (2 ∷ 0 ∷ []) $ fjoin ! $ done !)

  module _ (γ : ℕ) (hands : List ℕ) where
    abbrev Wrote : (i δ : ℕ) (log seen : List (ℕ × E)) (mine more : List E) → Pr
    Wrote i δ log seen mine more = guard 𝓤 ((mine ≡ of_hand i log) × IsPrefix seen log) (⟦ annals_owns cv γ hands (log ++ marks i more) ⟧ ∗ ⟦ hand_owns cv γ δ (mine ++ more) (log ++ marks i more) ⟧)

    pub writes : (i δ : ℕ) (log seen : List (ℕ × E)) (mine more : List E) → slice_get hands i ≡ Some δ
        → ⟦ annals_owns cv γ hands log ⟧ ∗ ⟦ hand_owns cv γ δ mine seen ⟧ ⊢ H.⇛ (Wrote i δ log seen mine more)
    unfolding annals_owns hand_owns
    writes i δ log seen mine more at = let after : List (ℕ × E) = log ++ marks i more in
        qed 𝓛 (‵ (annals_owns cv γ hands log) ∷ ‵ (hand_owns cv γ δ mine seen) ∷ []) ∵ updating ! $ fsplit ! $ move ! (2 ∷ []) $ fsplit ! $ move ! (2 ∷ 1 ∷ []) $
        use2 𝓛 (given (IsPrefix (all_of seen) (all_of log)) (‵ (top γ log) ⊛ ‵ (had γ seen))) (latest_bounds logs 𝓛 full_share γ (all_of log) (all_of seen)) $ learn ! (λ p. split ! $
        use1 𝓛 (later (‵ (top γ after))) (via 𝓤 _ (latest_grows logs 𝓛 γ (all_of log) (all_of after) (prefix_in (marked cv) log (marks i more))) (basic 𝓛 _)) $ await ! tt $
        use1 𝓛 (‵ (top γ after) ⊛ ‵ (had γ after)) (latest_shows logs 𝓛 full_share γ (all_of after) (all_of after) (logs.same (all_of after))) $ split ! $ move ! (4 ∷ 3 ∷ []) $
        use2 𝓛 (later (given (mine ≡ of_hand i log) (‵ (rows cv 0 hands after) ⊛ ‵ (fobs δ (wrote (mine ++ more)))))) (via 𝓤 _ (row_goes i δ log mine more hands 0 i (omega arith) at) (basic 𝓛 _)) $ await ! tt $ learn ! (λ e. split ! $ now ! $
        check ! (e, prefix_out (marked cv) seen log p) $ move ! (2 ∷ 0 ∷ []) $ fjoin ! $ keep ! (0 ∷ 1 ∷ 2 ∷ []) $ move ! (1 ∷ 2 ∷ []) $ fjoin ! $ move ! (1 ∷ 0 ∷ []) $ done !))

    abbrev Looked : (i δ : ℕ) (log seen : List (ℕ × E)) (mine : List E) → Pr
    Looked i δ log seen mine = guard 𝓤 ((mine ≡ of_hand i log) × IsPrefix seen log) (⟦ annals_owns cv γ hands log ⟧ ∗ ⟦ hand_owns cv γ δ mine log ⟧)

    pub looks : (i δ : ℕ) (log seen : List (ℕ × E)) (mine : List E) → slice_get hands i ≡ Some δ
        → ⟦ annals_owns cv γ hands log ⟧ ∗ ⟦ hand_owns cv γ δ mine seen ⟧ ⊢ H.⇛ (Looked i δ log seen mine)
    looks i δ log seen mine at = subst (λ (t : List (ℕ × E) × List E). ⟦ annals_owns cv γ hands log ⟧ ∗ ⟦ hand_owns cv γ δ mine seen ⟧ ⊢ H.⇛ (guard 𝓤 ((mine ≡ of_hand i log) × IsPrefix seen log) (⟦ annals_owns cv γ hands t.0 ⟧ ∗ ⟦ hand_owns cv γ δ t.1 t.0 ⟧)))
        (λ x. (append-nil log x, append-nil mine x)) (writes i δ log seen mine [] at)

  module _ (γ : ℕ) where
    abbrev Dealt : ℕ → ℕ → List ℕ → Pr
    Dealt n k hands = guard 𝓤 (length hands ≡ n) (⟦ top γ [] ⟧ ∗ ⟦ rows cv k hands [] ⟧ ∗ ⟦ unused cv γ hands ⟧)

    -- n names: the annals get one half of each name, and the row gets the other half
    deals : (n k : ℕ) → ⟦ top γ [] ⟧ ⊢ H.⇛ (ex 𝓤 (Dealt n k))
    unfolding hand_owns
    deals zero k = qed 𝓛 (‵ (top γ []) ∷ []) ∵ updating ! $ nothing ! $ nothing ! $ now ! $ show ! (Dealt zero k) [] $ check ! refl $ move ! (2 ∷ 0 ∷ 1 ∷ []) $ done !
    deals (suc n) k = qed 𝓛 (‵ (top γ []) ∷ []) ∵ updating ! $
        use1 𝓛 (later (some (λ (hands : List ℕ). given (length hands ≡ n) (‵ (top γ []) ⊛ ‵ (rows cv (suc k) hands []) ⊛ ‵ (unused cv γ hands))))) (deals n (suc k)) $ await ! tt $ pick ! (λ hands. learn ! (λ so. split3 ! $
        name_new ! tt (wrote []) (λ δ. move ! (1 ∷ 3 ∷ []) $ fjoin ! $ move ! (2 ∷ []) $
        use1 𝓛 (‵ (top γ []) ⊛ ‵ (had γ [])) (latest_shows logs 𝓛 full_share γ [] [] (logs.same [])) $ split ! $ move ! (3 ∷ 1 ∷ []) $ fjoin ! $ move ! (0 ∷ 3 ∷ []) $ fjoin ! $ now ! $
        show ! (Dealt (suc n) k) (δ ∷ hands) $ check ! (ap suc so) $ move ! (1 ∷ 2 ∷ 0 ∷ []) $ done !)))

    pub first_leaves : (names : List ℕ) → 1 ≤ length names → ⟦ hands_own cv γ names ⟧ ⊢ ⟦ hand_owns cv γ (first_of names) [] [] ⟧ ∗ ⟦ hands_own cv γ (drop_front 1 names) ⟧
    unfolding hand_owns hands_own
    first_leaves [] le = absurd (omega arith)
    first_leaves (δ ∷ δs) le = id⊢ 𝓤 _

    pub parts : (n : ℕ) (names : List ℕ) → ⟦ hands_own cv γ names ⟧ ⊢ ⟦ hands_own cv γ (take n names) ⟧ ∗ ⟦ hands_own cv γ (drop_front n names) ⟧
    unfolding hands_own
    parts zero names = qed 𝓛 (‵ (unused cv γ names) ∷ []) ∵ nothing ! $ done !
    parts (suc n) [] = qed 𝓛 (‵ (unused cv γ []) ∷ []) ∵ nothing ! $ done !
    parts (suc n) (δ ∷ δs) = qed 𝓛 (‵ (unused cv γ (δ ∷ δs)) ∷ []) ∵ fsplit ! $ move ! (1 ∷ []) $
        use1 𝓛 (‵ (unused cv γ (take n δs)) ⊛ ‵ (unused cv γ (drop_front n δs))) (parts n δs) $ split ! $ move ! (2 ∷ 0 ∷ []) $ fjoin ! $ done !

  abbrev Begun : ℕ → ℕ × List ℕ → Pr
  Begun n t = guard 𝓤 (length t.1 ≡ n) (⟦ annals_owns cv t.0 t.1 [] ⟧ ∗ ⟦ hands_own cv t.0 t.1 ⟧)

  pub begins : (n : ℕ) → emp 𝓤 ⊢ H.⇛ (ex 𝓤 (Begun n))
  unfolding annals_owns hands_own
  begins n = qed 𝓛 [] ∵ updating ! $ use0 𝓛 (later (some (λ (γ : ℕ). ‵ (top γ [])))) (via 𝓤 _ (latest_new logs 𝓛 []) (basic 𝓛 _)) $ await ! tt $ pick ! (λ γ.
      use1 𝓛 (later (some (λ (hands : List ℕ). given (length hands ≡ n) (‵ (top γ []) ⊛ ‵ (rows cv 0 hands []) ⊛ ‵ (unused cv γ hands))))) (deals γ n 0) $ await ! tt $ pick ! (λ hands. learn ! (λ so. split3 ! $
      fjoin ! $ now ! $ show ! (Begun n) (γ, hands) $ check ! so $ done !)))
