-- The clients and their spares, as the accounts change.
use Rattle.std.proofs.Common.{◌≡◌, ◌≢◌, ℕ, Bool, true, false, cond, List, [], ◌∷◌, ◌++◌, Option, None, Some, option_map, unwrap_or, IsSome, refl, sym, ap, ◌∙◌, arith}
use Rattle.std.specs.Prelude.{IsSomeAnd, Result, Ok, Err, ok_or}
use Rattle.iova_range.specs.declared.refusal.Refusal.{Refusal}
use Rattle.std.specs.Option.{option_copied_mut}
use Rattle.std.specs.Borrow.{MutBor}
use Rattle.std.specs.Map.{lookup, remove_entry, set_value}
use Rattle.std.proofs.lemmas.Bool.Decides.{nat_tests}
use Rattle.iova_model.specs.Clients.{Client, client_with, change_client, without_client}
use Rattle.iova_clients.specs.Registry.{is_serial}
use Rattle.iova_clients.specs.Accounts.{Account, client_at, clients_at, spares_at}

-- Finding.

client_with_step : (b : Bool) (id : ℕ) (e : ℕ × Account) (rest : Option Client) (later : Option Account) → is_serial id e.0 ≡ b
    → rest ≡ option_map (λ a. client_at (id, a)) later
    → cond b (Some (client_at e)) rest ≡ option_map (λ a. client_at (id, a)) (cond b (Some e.1) later)
client_with_step true id e rest later is ih = let same : e.0 ≡ id = grind (arith, nat_tests) in ap (λ k. Some (client_at (k, e.1))) same
client_with_step false id e rest later is ih = ih

pub client_with-at : (id : ℕ) (es : List (ℕ × Account)) → client_with id (clients_at es) ≡ option_map (λ a. client_at (id, a)) (lookup (is_serial id) es)
client_with-at id [] = refl
client_with-at id (e ∷ es) =
    client_with_step (is_serial id e.0) id e (client_with id (clients_at es)) (lookup (is_serial id) es) refl (client_with-at id es)

pub lookup-spares : (q : ℕ) (es : List (ℕ × Account)) → lookup (is_serial q) (spares_at es) ≡ option_map (λ a. a.spare) (lookup (is_serial q) es)
lookup-spares q [] = refl
lookup-spares q (e ∷ es) = step (is_serial q e.0) (lookup-spares q es)
  where
    step : (b : Bool) → lookup (is_serial q) (spares_at es) ≡ option_map (λ a. a.spare) (lookup (is_serial q) es)
        → cond b (Some e.1.spare) (lookup (is_serial q) (spares_at es)) ≡ option_map (λ a. a.spare) (cond b (Some e.1) (lookup (is_serial q) es))
    step true ih = refl
    step false ih = ih

-- the spare of a client whose account is this
pub spare_at : (id : ℕ) (es : List (ℕ × Account)) (a : Account) → lookup (is_serial id) es ≡ Some a → unwrap_or (lookup (is_serial id) (spares_at es)) 0 ≡ a.spare
spare_at id es a is = rw (lookup-spares id es, is) refl

pub spare_none : (id : ℕ) (es : List (ℕ × Account)) → lookup (is_serial id) es ≡ None → unwrap_or (lookup (is_serial id) (spares_at es)) 0 ≡ 0
spare_none id es is = rw (lookup-spares id es, is) refl

-- where two lists have the same account, they have the same spare
pub spare_same : (id : ℕ) (es fs : List (ℕ × Account)) → lookup (is_serial id) fs ≡ lookup (is_serial id) es
    → unwrap_or (lookup (is_serial id) (spares_at fs)) 0 ≡ unwrap_or (lookup (is_serial id) (spares_at es)) 0
spare_same id es fs same = rw (lookup-spares id fs, lookup-spares id es, same) refl

-- Changing one account.

changed_step : (b : Bool) (id : ℕ) (f : Client → Client) (e : ℕ × Account) (a w : Account) (es : List (ℕ × Account)) → is_serial id e.0 ≡ b
    → cond b (Some e.1) (lookup (is_serial id) es) ≡ Some a → f (client_at (id, a)) ≡ client_at (id, w)
    → (lookup (is_serial id) es ≡ Some a → clients_at (set_value (is_serial id) es w) ≡ change_client id f (clients_at es))
    → clients_at (cond b ((e.0, w) ∷ es) (e ∷ set_value (is_serial id) es w)) ≡ cond b (f (client_at e) ∷ clients_at es) (client_at e ∷ change_client id f (clients_at es))
changed_step true id f e a w es is q change ih =
    let same : e.0 ≡ id = grind (arith, nat_tests) in
    let mine : e.1 ≡ a = cc in
    let now : client_at (e.0, w) ≡ f (client_at e) = rw same (sym change ∙ ap f (ap (λ x. client_at (id, x)) (sym mine))) in
    ap (λ c. c ∷ clients_at es) now
changed_step false id f e a w es is q change ih = ap (λ cs. client_at e ∷ cs) (ih q)

pub changed-at : (id : ℕ) (f : Client → Client) (a w : Account) (es : List (ℕ × Account)) → lookup (is_serial id) es ≡ Some a
    → f (client_at (id, a)) ≡ client_at (id, w) → clients_at (set_value (is_serial id) es w) ≡ change_client id f (clients_at es)
changed-at id f a w [] q change = refl
changed-at id f a w (e ∷ es) q change =
    changed_step (is_serial id e.0) id f e a w es refl q change (λ later. changed-at id f a w es later change)

pub set_value_same : (id : ℕ) (a : Account) (es : List (ℕ × Account)) → lookup (is_serial id) es ≡ Some a → set_value (is_serial id) es a ≡ es
set_value_same id a [] q = refl
set_value_same id a (e ∷ es) q = step (is_serial id e.0) q (λ later. set_value_same id a es later)
  where
    step : (b : Bool) → cond b (Some e.1) (lookup (is_serial id) es) ≡ Some a → (lookup (is_serial id) es ≡ Some a → set_value (is_serial id) es a ≡ es)
        → cond b ((e.0, a) ∷ es) (e ∷ set_value (is_serial id) es a) ≡ e ∷ es
    step true is ih = let mine : a ≡ e.1 = cc in ap (λ x. (e.0, x) ∷ es) mine
    step false is ih = ap (λ xs. e ∷ xs) (ih is)

pub lookup-set_same : (id : ℕ) (a w : Account) (es : List (ℕ × Account)) → lookup (is_serial id) es ≡ Some a → lookup (is_serial id) (set_value (is_serial id) es w) ≡ Some w
lookup-set_same id a w [] q = absurd (let bad : None ≡ Some a = q in cc)
lookup-set_same id a w (e ∷ es) q = step (is_serial id e.0) refl q (λ later. lookup-set_same id a w es later)
  where
    step : (b : Bool) → is_serial id e.0 ≡ b → cond b (Some e.1) (lookup (is_serial id) es) ≡ Some a → (lookup (is_serial id) es ≡ Some a → lookup (is_serial id) (set_value (is_serial id) es w) ≡ Some w)
        → lookup (is_serial id) (cond b ((e.0, w) ∷ es) (e ∷ set_value (is_serial id) es w)) ≡ Some w
    step true is q ih = rw is refl
    step false is q ih = rw is (ih q)

apart_tests : (id q k : ℕ) → q ≢ id → is_serial id k ≡ true → is_serial q k ≡ false
apart_tests id q k ne is = grind (arith, nat_tests)

pub lookup-set_other : (id q : ℕ) (w : Account) (es : List (ℕ × Account)) → q ≢ id → lookup (is_serial q) (set_value (is_serial id) es w) ≡ lookup (is_serial q) es
lookup-set_other id q w [] ne = refl
lookup-set_other id q w (e ∷ es) ne = step (is_serial id e.0) refl (lookup-set_other id q w es ne)
  where
    step : (b : Bool) → is_serial id e.0 ≡ b → lookup (is_serial q) (set_value (is_serial id) es w) ≡ lookup (is_serial q) es
        → lookup (is_serial q) (cond b ((e.0, w) ∷ es) (e ∷ set_value (is_serial id) es w)) ≡ cond (is_serial q e.0) (Some e.1) (lookup (is_serial q) es)
    step true is ih = rw (apart_tests id q e.0 ne is) refl
    step false is ih = ap (λ o. cond (is_serial q e.0) (Some e.1) o) ih

-- the spares stay where the account's does
pub spares-set : (id : ℕ) (a w : Account) (es : List (ℕ × Account)) → lookup (is_serial id) es ≡ Some a → w.spare ≡ a.spare
    → spares_at (set_value (is_serial id) es w) ≡ spares_at es
spares-set id a w [] q same = refl
spares-set id a w (e ∷ es) q same = step (is_serial id e.0) q (λ later. spares-set id a w es later same)
  where
    step : (b : Bool) → cond b (Some e.1) (lookup (is_serial id) es) ≡ Some a → (lookup (is_serial id) es ≡ Some a → spares_at (set_value (is_serial id) es w) ≡ spares_at es)
        → spares_at (cond b ((e.0, w) ∷ es) (e ∷ set_value (is_serial id) es w)) ≡ (e.0, e.1.spare) ∷ spares_at es
    step true is ih = let mine : e.1 ≡ a = cc in ap (λ n. (e.0, n) ∷ spares_at es) (same ∙ ap (λ x. x.spare) (sym mine))
    step false is ih = ap (λ xs. (e.0, e.1.spare) ∷ xs) (ih is)

-- Leaving.

pub forgotten-at : (id : ℕ) (es : List (ℕ × Account)) → clients_at (remove_entry (is_serial id) es) ≡ without_client id (clients_at es)
forgotten-at id [] = refl
forgotten-at id (e ∷ es) = step (is_serial id e.0) (forgotten-at id es)
  where
    step : (b : Bool) → clients_at (remove_entry (is_serial id) es) ≡ without_client id (clients_at es)
        → clients_at (cond b es (e ∷ remove_entry (is_serial id) es)) ≡ cond b (clients_at es) (client_at e ∷ without_client id (clients_at es))
    step true ih = refl
    step false ih = ap (λ cs. client_at e ∷ cs) ih

pub lookup-remove_other : (id q : ℕ) (es : List (ℕ × Account)) → q ≢ id → lookup (is_serial q) (remove_entry (is_serial id) es) ≡ lookup (is_serial q) es
lookup-remove_other id q [] ne = refl
lookup-remove_other id q (e ∷ es) ne = step (is_serial id e.0) refl (lookup-remove_other id q es ne)
  where
    step : (b : Bool) → is_serial id e.0 ≡ b → lookup (is_serial q) (remove_entry (is_serial id) es) ≡ lookup (is_serial q) es
        → lookup (is_serial q) (cond b es (e ∷ remove_entry (is_serial id) es)) ≡ cond (is_serial q e.0) (Some e.1) (lookup (is_serial q) es)
    step true is ih = rw (apart_tests id q e.0 ne is) refl
    step false is ih = ap (λ o. cond (is_serial q e.0) (Some e.1) o) ih

-- Coming in.

pub clients_at_push : (es : List (ℕ × Account)) (e : ℕ × Account) → clients_at (es ++ e ∷ []) ≡ clients_at es ++ client_at e ∷ []
clients_at_push [] e = refl
clients_at_push (x ∷ es) e = ap (λ cs. client_at x ∷ cs) (clients_at_push es e)

-- an account with no spare changes no spare
pub spare_push : (q id : ℕ) (a : Account) (es : List (ℕ × Account)) → a.spare ≡ 0
    → unwrap_or (lookup (is_serial q) (spares_at (es ++ (id, a) ∷ []))) 0 ≡ unwrap_or (lookup (is_serial q) (spares_at es)) 0
spare_push q id a [] none = step (is_serial q id)
  where
    step : (b : Bool) → unwrap_or (cond b (Some a.spare) None) 0 ≡ 0
    step true = none
    step false = refl
spare_push q id a (e ∷ es) none = step (is_serial q e.0) (spare_push q id a es none)
  where
    step : (b : Bool) → unwrap_or (lookup (is_serial q) (spares_at (es ++ (id, a) ∷ []))) 0 ≡ unwrap_or (lookup (is_serial q) (spares_at es)) 0
        → unwrap_or (cond b (Some e.1.spare) (lookup (is_serial q) (spares_at (es ++ (id, a) ∷ [])))) 0 ≡ unwrap_or (cond b (Some e.1.spare) (lookup (is_serial q) (spares_at es))) 0
    step true ih = refl
    step false ih = ih

-- What a look-up says of the clients.

pub client_some : (id : ℕ) (es : List (ℕ × Account)) (a : Account) → lookup (is_serial id) es ≡ Some a → client_with id (clients_at es) ≡ Some (client_at (id, a))
client_some id es a is = client_with-at id es ∙ ap (λ o. option_map (λ x. client_at (id, x)) o) is

pub client_none : (id : ℕ) (es : List (ℕ × Account)) → lookup (is_serial id) es ≡ None → client_with id (clients_at es) ≡ None
client_none id es is = client_with-at id es ∙ ap (λ o. option_map (λ x. client_at (id, x)) o) is

-- The account behind a `&mut` that was found.

pub found_mut : (r : Option (MutBor Account)) (b : MutBor Account) (o : Option Account) → option_copied_mut r ≡ o → r ≡ Some b → o ≡ Some b.now
found_mut r b o value is = sym value ∙ ap (λ x. option_copied_mut x) is

copied_some : (r : Option (MutBor Account)) → IsSome (option_copied_mut r) → IsSome r
copied_some None h = h
copied_some (Some b) h = refl

-- what is known of the client with this serial, is known of its account
pub client_known : (P : Client → Type 0) (id : ℕ) (es : List (ℕ × Account)) (a : Account) → lookup (is_serial id) es ≡ Some a
    → IsSomeAnd (client_with id (clients_at es)) P → P (client_at (id, a))
client_known P id es a is h = rw (client_some id es a is) at h

account_there : (P : Client → Type 0) (id : ℕ) (es : List (ℕ × Account)) (o : Option Account) → lookup (is_serial id) es ≡ o → IsSomeAnd (client_with id (clients_at es)) P → IsSome o
account_there P id es None is h = absurd (let none = rw (client_none id es is) at h in none)
account_there P id es (Some a) is h = refl

pub mut_there : (P : Client → Type 0) (id : ℕ) (es : List (ℕ × Account)) (r : Option (MutBor Account)) → option_copied_mut r ≡ lookup (is_serial id) es
    → IsSomeAnd (client_with id (clients_at es)) P → IsSome r
mut_there P id es r value h = copied_some r (account_there P id es (option_copied_mut r) (sym value) h)

-- Where there is none, the refusal is the one that was named.
pub refused_at : {X : Type 0} (r : Option X) (s : Result X Refusal) (e why : Refusal) → s ≡ ok_or r why → s ≡ Err e → (e ≡ why) × (r ≡ None)
refused_at {X} None s e why value is = (let both : ◌≡◌ {A = Result X Refusal} (Err e) (Err why) = sym is ∙ value in cc, refl)
refused_at {X} (Some x) s e why value is = absurd (let bad : ◌≡◌ {A = Result X Refusal} (Err e) (Ok x) = sym is ∙ value in cc)

pub none_mut : (r : Option (MutBor Account)) (o : Option Account) → option_copied_mut r ≡ o → r ≡ None → o ≡ None
none_mut r o value is = sym value ∙ ap (λ x. option_copied_mut x) is

-- a write that leaves the client as it is leaves all of them
pub clients-set : (id : ℕ) (a w : Account) (es : List (ℕ × Account)) → lookup (is_serial id) es ≡ Some a → client_at (id, w) ≡ client_at (id, a)
    → clients_at (set_value (is_serial id) es w) ≡ clients_at es
clients-set id a w [] q same = refl
clients-set id a w (e ∷ es) q same = step (is_serial id e.0) refl q (λ later. clients-set id a w es later same)
  where
    step : (b : Bool) → is_serial id e.0 ≡ b → cond b (Some e.1) (lookup (is_serial id) es) ≡ Some a → (lookup (is_serial id) es ≡ Some a → clients_at (set_value (is_serial id) es w) ≡ clients_at es)
        → clients_at (cond b ((e.0, w) ∷ es) (e ∷ set_value (is_serial id) es w)) ≡ client_at e ∷ clients_at es
    step true this is ih =
        let serial : e.0 ≡ id = grind (arith, nat_tests) in
        let mine : a ≡ e.1 = cc in
        let now : client_at (e.0, w) ≡ client_at e = ap (λ k. client_at (k, w)) serial ∙ (same ∙ (ap (λ x. client_at (id, x)) mine ∙ ap (λ k. client_at (k, e.1)) (sym serial))) in
        ap (λ c. c ∷ clients_at es) now
    step false this is ih = ap (λ cs. client_at e ∷ cs) (ih is)

pub lookup_none : (id : ℕ) (es : List (ℕ × Account)) → client_with id (clients_at es) ≡ None → lookup (is_serial id) es ≡ None
lookup_none id es none = step (lookup (is_serial id) es) (sym (client_with-at id es) ∙ none)
  where
    step : (o : Option Account) → option_map (λ a. client_at (id, a)) o ≡ None → o ≡ None
    step None is = refl
    step (Some a) is = absurd (let bad : Some (client_at (id, a)) ≡ None = is in cc)

-- a client of which something is known
pub known_there : (o : Option Client) (P : Client → Type 0) → IsSomeAnd o P → (c : Client) × (o ≡ Some c) × P c
known_there None P h = absurd h
known_there (Some c) P h = (c, refl, h)
