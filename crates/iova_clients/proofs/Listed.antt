-- The list of accounts as the slab and the map change.
use Rattle.std.proofs.Common.{◌≡◌, ◌≢◌, ℕ, suc, ◌<◌, ◌==◌, Bool, true, false, cond, List, [], ◌∷◌, ◌++◌, length, Option, None, Some, IsSome, refl, sym, ap, ◌∙◌, subst, append_assoc, arith}
use Rattle.std.specs.List.{AllByRecursion, find}
use Rattle.std.specs.Map.{lookup, remove_entry, set_value}
use Rattle.std.specs.BTreeMap.{is_at, insert_entry}
use Rattle.std.specs.Ordering.{nat_cmp}
use Rattle.std.specs.Cmp.{nat_cmp_is}
use Rattle.std.specs.declared.cmp.Ordering.TheVariants.{Greater}
use Rattle.std.proofs.lemmas.Bool.Decides.{nat_tests}
use Rattle.iova_clients.specs.Registry.{is_serial}
use Rattle.iova_clients.specs.Accounts.{Account, entry_of, listed_accounts, IsApart, AreKeyed, IsKeyFor, IsRemembered}

-- The map's test of a key is the serial's.

is_at-is_serial : (id k : ℕ) → is_at (nat_cmp id) k ≡ is_serial id k
is_at-is_serial id k = grind (arith, nat_tests)

pub lookup_at : {X : Type 0} (id : ℕ) (es : List (ℕ × X)) → lookup (is_at (nat_cmp id)) es ≡ lookup (is_serial id) es
lookup_at id [] = refl
lookup_at id (e ∷ es) = rw (is_at-is_serial id e.0, lookup_at id es)

pub remove_entry_at : {X : Type 0} (id : ℕ) (es : List (ℕ × X)) → remove_entry (is_at (nat_cmp id)) es ≡ remove_entry (is_serial id) es
remove_entry_at id [] = refl
remove_entry_at id (e ∷ es) = rw (is_at-is_serial id e.0, remove_entry_at id es)

some_is : (o : Option Account) → IsSome o → (a : Account) × (o ≡ Some a)
some_is None h = absurd (let bad : false ≡ true = h in cc)
some_is (Some a) h = (a, refl)

-- A key with no account is nobody's.

fresh : (at : ℕ → Option Account) (key : ℕ) (es : List (ℕ × ℕ)) → AreKeyed at es → at key ≡ None → IsApart key es
fresh at key [] h none = tt
fresh at key (e ∷ es) h none =
    let some = some_is (at e.1) h.0 in
    let apart : e.1 ≢ key = λ same. let bad : None ≡ Some some.0 = sym none ∙ ap at (sym same) ∙ some.1 in cc in
    (apart, fresh at key es h.2 none)

-- Other keys keep their accounts.

listed_kept : (at new : ℕ → Option Account) (key : ℕ) (es : List (ℕ × ℕ)) → IsApart key es
    → ((other : ℕ) → other ≢ key → new other ≡ at other) → listed_accounts new es ≡ listed_accounts at es
listed_kept at new key [] h kept = refl
listed_kept at new key (e ∷ es) h kept = rw (kept e.1 h.0) (ap (λ xs. entry_of e.0 (at e.1) ++ xs) (listed_kept at new key es h.1 kept))

keyed_kept : (at new : ℕ → Option Account) (key : ℕ) (es : List (ℕ × ℕ)) → IsApart key es
    → ((other : ℕ) → other ≢ key → new other ≡ at other) → AreKeyed at es → AreKeyed new es
keyed_kept at new key [] h kept s = tt
keyed_kept at new key (e ∷ es) h kept s = (rw (kept e.1 h.0) s.0, s.1, keyed_kept at new key es h.1 kept s.2)

-- Reads.

pub length-listed_accounts : (at : ℕ → Option Account) (es : List (ℕ × ℕ)) → AreKeyed at es → length (listed_accounts at es) ≡ length es
length-listed_accounts at [] h = refl
length-listed_accounts at (e ∷ es) h = let some = some_is (at e.1) h.0 in rw some.1 (ap (λ n. suc n) (length-listed_accounts at es h.2))

-- the account at a key that was found
abbrev pub found : (ℕ → Option Account) → Option ℕ → Option Account
found at None = None
found at (Some key) = at key

lookup_step : (b : Bool) (at : ℕ → Option Account) (key : ℕ) (a : Account) (rest : Option Account) (later : Option ℕ)
    → at key ≡ Some a → rest ≡ found at later → cond b (Some a) rest ≡ found at (cond b (Some key) later)
lookup_step true at key a rest later p q = sym p
lookup_step false at key a rest later p q = q

pub lookup-listed_accounts : (at : ℕ → Option Account) (test : ℕ → Bool) (es : List (ℕ × ℕ)) → AreKeyed at es
    → lookup test (listed_accounts at es) ≡ found at (lookup test es)
lookup-listed_accounts at test [] h = refl
lookup-listed_accounts at test (e ∷ es) h =
    let some = some_is (at e.1) h.0 in
    rw some.1 (lookup_step (test e.0) at e.1 some.0 (lookup test (listed_accounts at es)) (lookup test es) some.1 (lookup-listed_accounts at test es h.2))

-- what the map finds, at its key
pub get_listed : (at : ℕ → Option Account) (id : ℕ) (es : List (ℕ × ℕ)) (o : Option ℕ) → AreKeyed at es → lookup (is_at (nat_cmp id)) es ≡ o
    → lookup (is_serial id) (listed_accounts at es) ≡ found at o
get_listed at id es o h is = lookup-listed_accounts at (is_serial id) es h ∙ ap (found at) (sym (lookup_at id es) ∙ is)

-- a key that was found has an account
found_step : (b : Bool) (at : ℕ → Option Account) (key mine : ℕ) (later : Option ℕ) → IsSome (at mine) → (later ≡ Some key → IsSome (at key))
    → cond b (Some mine) later ≡ Some key → IsSome (at key)
found_step true at key mine later some ih e = let same : mine ≡ key = cc in subst (λ k. IsSome (at k)) same some
found_step false at key mine later some ih e = ih e

pub found_some : (at : ℕ → Option Account) (test : ℕ → Bool) (key : ℕ) (es : List (ℕ × ℕ)) → AreKeyed at es → lookup test es ≡ Some key → IsSome (at key)
found_some at test key [] h e = absurd (let bad : None ≡ Some key = e in cc)
found_some at test key (e ∷ es) h q =
    found_step (test e.0) at key e.1 (lookup test es) h.0 (found_some at test key es h.2) q

apart_step : (b : Bool) (k key mine : ℕ) (later : Option ℕ) → mine ≢ k → (later ≡ Some key → key ≢ k)
    → cond b (Some mine) later ≡ Some key → key ≢ k
apart_step true k key mine later ne ih e = let same : mine ≡ key = cc in λ h. ne (same ∙ h)
apart_step false k key mine later ne ih e = ih e

apart_found : (test : ℕ → Bool) (k key : ℕ) (es : List (ℕ × ℕ)) → IsApart k es → lookup test es ≡ Some key → key ≢ k
apart_found test k key [] h e = λ _. let bad : None ≡ Some key = e in cc
apart_found test k key (e ∷ es) h q =
    apart_step (test e.0) k key e.1 (lookup test es) h.0 (apart_found test k key es h.1) q

-- A serial above all others comes in, under a fresh key.

insert_last : (at : ℕ → Option Account) (id key : ℕ) (es : List (ℕ × ℕ)) → AreKeyed at es → AllByRecursion (λ e. e.0 < id) (listed_accounts at es)
    → insert_entry nat_cmp es id key ≡ es ++ (id, key) ∷ []
insert_last at id key [] h below = refl
insert_last at id key (e ∷ es) h below =
    let some = some_is (at e.1) h.0 in
    let all : AllByRecursion (λ e. e.0 < id) ((e.0, some.0) ∷ listed_accounts at es) = rw some.1 at below in
    let after : nat_cmp id e.0 ≡ Greater = sym (nat_cmp_is id e.0 Greater all.0) in
    rw after (ap (λ xs. e ∷ xs) (insert_last at id key es h.2 all.1))

listed_last : (new : ℕ → Option Account) (id key : ℕ) (a : Account) (es : List (ℕ × ℕ)) → new key ≡ Some a
    → listed_accounts new (es ++ (id, key) ∷ []) ≡ listed_accounts new es ++ (id, a) ∷ []
listed_last new id key a [] h = rw h refl
listed_last new id key a (e ∷ es) h =
    ap (λ xs. entry_of e.0 (new e.1) ++ xs) (listed_last new id key a es h)
    ∙ sym (append_assoc (entry_of e.0 (new e.1)) (listed_accounts new es) ((id, a) ∷ []))

apart_last : (k id key : ℕ) (es : List (ℕ × ℕ)) → IsApart k es → key ≢ k → IsApart k (es ++ (id, key) ∷ [])
apart_last k id key [] h ne = (ne, tt)
apart_last k id key (e ∷ es) h ne = (h.0, apart_last k id key es h.1 ne)

keyed_last : (new : ℕ → Option Account) (id key : ℕ) (es : List (ℕ × ℕ)) → AreKeyed new es → IsApart key es
    → IsSome (new key) → AreKeyed new (es ++ (id, key) ∷ [])
keyed_last new id key [] h apart some = (some, tt, tt)
keyed_last new id key (e ∷ es) h apart some =
    let ne : key ≢ e.1 = λ same. apart.0 (sym same) in
    (h.0, apart_last e.1 id key es h.1 ne, keyed_last new id key es h.2 apart.1 some)

pub listed_pushed : (at new : ℕ → Option Account) (id key : ℕ) (a : Account) (es : List (ℕ × ℕ)) → AreKeyed at es
    → AllByRecursion (λ e. e.0 < id) (listed_accounts at es)
    → at key ≡ None → new key ≡ Some a → ((other : ℕ) → other ≢ key → new other ≡ at other)
    → listed_accounts new (insert_entry nat_cmp es id key) ≡ listed_accounts at es ++ (id, a) ∷ []
listed_pushed at new id key a es h below none some kept =
    ap (listed_accounts new) (insert_last at id key es h below) ∙ listed_last new id key a es some
    ∙ ap (λ xs. xs ++ (id, a) ∷ []) (listed_kept at new key es (fresh at key es h none) kept)

pub keyed_pushed : (at new : ℕ → Option Account) (id key : ℕ) (a : Account) (es : List (ℕ × ℕ)) → AreKeyed at es
    → AllByRecursion (λ e. e.0 < id) (listed_accounts at es)
    → at key ≡ None → new key ≡ Some a → ((other : ℕ) → other ≢ key → new other ≡ at other)
    → AreKeyed new (insert_entry nat_cmp es id key)
keyed_pushed at new id key a es h below none some kept =
    let apart = fresh at key es h none in
    let P : List (ℕ × ℕ) → Type 0 = λ xs. AreKeyed new xs in
    subst P (sym (insert_last at id key es h below))
    (keyed_last new id key es (keyed_kept at new key es apart kept h) apart (rw some refl))

-- An account is written at a key that was found.

set_step : (b : Bool) (at new : ℕ → Option Account) (test : ℕ → Bool) (key : ℕ) (e : ℕ × ℕ) (a w : Account) (es : List (ℕ × ℕ))
    → at e.1 ≡ Some a → new key ≡ Some w → IsApart e.1 es → ((other : ℕ) → other ≢ key → new other ≡ at other)
    → cond b (Some e.1) (lookup test es) ≡ Some key
    → (lookup test es ≡ Some key → listed_accounts new es ≡ set_value test (listed_accounts at es) w)
    → entry_of e.0 (new e.1) ++ listed_accounts new es ≡ cond b ((e.0, w) ∷ listed_accounts at es) ((e.0, a) ∷ set_value test (listed_accounts at es) w)
set_step true at new test key e a w es p here apart kept q ih =
    let same : e.1 ≡ key = cc in
    let P : ℕ → Type 0 = λ k. IsApart k es in
    let mine : new e.1 ≡ Some w = ap new same ∙ here in
    rw mine (ap (λ xs. (e.0, w) ∷ xs) (listed_kept at new key es (subst P same apart) kept))
set_step false at new test key e a w es p here apart kept q ih =
    let ne : e.1 ≢ key = λ same. apart_found test e.1 key es apart q (sym same) in
    let mine : new e.1 ≡ Some a = kept e.1 ne ∙ p in
    rw mine (ap (λ xs. (e.0, a) ∷ xs) (ih q))

pub listed_set : (at new : ℕ → Option Account) (test : ℕ → Bool) (key : ℕ) (w : Account) (es : List (ℕ × ℕ)) → AreKeyed at es
    → lookup test es ≡ Some key → new key ≡ Some w → ((other : ℕ) → other ≢ key → new other ≡ at other)
    → listed_accounts new es ≡ set_value test (listed_accounts at es) w
listed_set at new test key w [] h q here kept = refl
listed_set at new test key w (e ∷ es) h q here kept =
    let some = some_is (at e.1) h.0 in
    let step = set_step (test e.0) at new test key e some.0 w es some.1 here h.1 kept q (λ later. listed_set at new test key w es h.2 later here kept) in
    rw some.1 step

one_kept : (at new : ℕ → Option Account) (key k : ℕ) (w : Account) (b : Bool) → (k == key) ≡ b → new key ≡ Some w → ((other : ℕ) → other ≢ key → new other ≡ at other)
    → IsSome (at k) → IsSome (new k)
one_kept at new key k w true is here kept some = let e : k ≡ key = grind (arith, nat_tests) in rw (e, here) refl
one_kept at new key k w false is here kept some = let ne : k ≢ key = grind (arith, nat_tests) in rw (kept k ne) some

pub keyed_set : (at new : ℕ → Option Account) (key : ℕ) (w : Account) (es : List (ℕ × ℕ)) → AreKeyed at es
    → new key ≡ Some w → ((other : ℕ) → other ≢ key → new other ≡ at other)
    → AreKeyed new es
keyed_set at new key w [] h here kept = tt
keyed_set at new key w (e ∷ es) h here kept =
    (one_kept at new key e.1 w (e.1 == key) refl here kept h.0, h.1, keyed_set at new key w es h.2 here kept)

-- A serial leaves.

removed_step : (b : Bool) (at new : ℕ → Option Account) (test : ℕ → Bool) (key : ℕ) (e : ℕ × ℕ) (a : Account) (es : List (ℕ × ℕ))
    → at e.1 ≡ Some a → IsApart e.1 es → ((other : ℕ) → other ≢ key → new other ≡ at other)
    → cond b (Some e.1) (lookup test es) ≡ Some key
    → (lookup test es ≡ Some key → listed_accounts new (remove_entry test es) ≡ remove_entry test (listed_accounts at es))
    → listed_accounts new (cond b es (e ∷ remove_entry test es)) ≡ cond b (listed_accounts at es) ((e.0, a) ∷ remove_entry test (listed_accounts at es))
removed_step true at new test key e a es p apart kept q ih =
    let same : e.1 ≡ key = cc in
    let P : ℕ → Type 0 = λ k. IsApart k es in
    listed_kept at new key es (subst P same apart) kept
removed_step false at new test key e a es p apart kept q ih =
    let ne : e.1 ≢ key = λ same. apart_found test e.1 key es apart q (sym same) in
    rw (kept e.1 ne ∙ p) (ap (λ xs. (e.0, a) ∷ xs) (ih q))

pub listed_removed : (at new : ℕ → Option Account) (test : ℕ → Bool) (key : ℕ) (es : List (ℕ × ℕ)) → AreKeyed at es
    → lookup test es ≡ Some key → ((other : ℕ) → other ≢ key → new other ≡ at other)
    → listed_accounts new (remove_entry test es) ≡ remove_entry test (listed_accounts at es)
listed_removed at new test key [] h q kept = refl
listed_removed at new test key (e ∷ es) h q kept =
    let some = some_is (at e.1) h.0 in
    rw some.1
    (removed_step (test e.0) at new test key e some.0 es some.1 h.1 kept q (λ later. listed_removed at new test key es h.2 later kept))

apart_removed_step : (b : Bool) (k : ℕ) (test : ℕ → Bool) (e : ℕ × ℕ) (es : List (ℕ × ℕ)) → e.1 ≢ k → IsApart k es
    → IsApart k (remove_entry test es) → IsApart k (cond b es (e ∷ remove_entry test es))
apart_removed_step true k test e es ne h ih = h
apart_removed_step false k test e es ne h ih = (ne, ih)

apart_removed : (k : ℕ) (test : ℕ → Bool) (es : List (ℕ × ℕ)) → IsApart k es → IsApart k (remove_entry test es)
apart_removed k test [] h = tt
apart_removed k test (e ∷ es) h = apart_removed_step (test e.0) k test e es h.0 h.1 (apart_removed k test es h.1)

keyed_step : (b : Bool) (at new : ℕ → Option Account) (test : ℕ → Bool) (key : ℕ) (e : ℕ × ℕ) (es : List (ℕ × ℕ))
    → AreKeyed at (e ∷ es) → ((other : ℕ) → other ≢ key → new other ≡ at other)
    → cond b (Some e.1) (lookup test es) ≡ Some key
    → (lookup test es ≡ Some key → AreKeyed new (remove_entry test es))
    → AreKeyed new (cond b es (e ∷ remove_entry test es))
keyed_step true at new test key e es h kept q ih =
    let same : e.1 ≡ key = cc in
    let P : ℕ → Type 0 = λ k. IsApart k es in
    keyed_kept at new key es (subst P same h.1) kept h.2
keyed_step false at new test key e es h kept q ih =
    let ne : e.1 ≢ key = λ same. apart_found test e.1 key es h.1 q (sym same) in
    (rw (kept e.1 ne) h.0, apart_removed e.1 test es h.1, ih q)

pub keyed_removed : (at new : ℕ → Option Account) (test : ℕ → Bool) (key : ℕ) (es : List (ℕ × ℕ)) → AreKeyed at es
    → lookup test es ≡ Some key → ((other : ℕ) → other ≢ key → new other ≡ at other)
    → AreKeyed new (remove_entry test es)
keyed_removed at new test key [] h q kept = tt
keyed_removed at new test key (e ∷ es) h q kept =
    keyed_step (test e.0) at new test key e es h kept q (λ later. keyed_removed at new test key es h.2 later kept)

-- Where there is no such entry, none leaves.

none_step : {X : Type 0} (b : Bool) (e : ℕ × X) (es : List (ℕ × X)) (test : ℕ → Bool) → cond b (Some e.1) (lookup test es) ≡ None
    → (lookup test es ≡ None → remove_entry test es ≡ es) → cond b es (e ∷ remove_entry test es) ≡ e ∷ es
none_step true e es test q ih = absurd (let bad : Some e.1 ≡ None = q in cc)
none_step false e es test q ih = ap (λ xs. e ∷ xs) (ih q)

pub none_removed : {X : Type 0} (test : ℕ → Bool) (es : List (ℕ × X)) → lookup test es ≡ None → remove_entry test es ≡ es
none_removed test [] q = refl
none_removed test (e ∷ es) q = none_step (test e.0) e es test q (none_removed test es)

-- The first account with a property.

pub find_skipped : (at : ℕ → Option Account) (p : ℕ × Account → Bool) (e : ℕ × ℕ) (es : List (ℕ × ℕ)) → at e.1 ≡ None
    → find p (listed_accounts at (e ∷ es)) ≡ find p (listed_accounts at es)
find_skipped at p e es none = rw none refl

pub find_passed : (at : ℕ → Option Account) (p : ℕ × Account → Bool) (e : ℕ × ℕ) (es : List (ℕ × ℕ)) (a : Account) → at e.1 ≡ Some a → p (e.0, a) ≡ false
    → find p (listed_accounts at (e ∷ es)) ≡ find p (listed_accounts at es)
find_passed at p e es a some fails = rw (some, fails) refl

pub find_met : (at : ℕ → Option Account) (p : ℕ × Account → Bool) (e : ℕ × ℕ) (es : List (ℕ × ℕ)) (a : Account) → at e.1 ≡ Some a → p (e.0, a) ≡ true
    → find p (listed_accounts at (e ∷ es)) ≡ Some (e.0, a)
find_met at p e es a some holds = rw (some, holds) refl

-- What is remembered.

-- a serial's own key is a key for it
pub own_key : (at : ℕ → Option Account) (key : ℕ) (o : Option ℕ) → o ≡ Some key → IsKeyFor at key o
own_key at key o own = rw own refl

sought : (at : ℕ → Option Account) (key : ℕ) (o : Option ℕ) → IsKeyFor at key o
    → at key ≡ found at o
sought at key None h = h
sought at key (Some own) h = ap at (sym h)

-- at the key that is remembered stands what the serial has
pub remembered_at : (at : ℕ → Option Account) (id : ℕ) (es : List (ℕ × ℕ)) (last : ℕ × ℕ)
    → AreKeyed at es → IsRemembered at es last → last.0 ≡ id
    → at last.1 ≡ lookup (is_serial id) (listed_accounts at es)
remembered_at at id es last keyed h same =
    let key : IsKeyFor at last.1 (lookup (is_serial id) es) = rw same at h in
    sought at last.1 (lookup (is_serial id) es) key
    ∙ sym (lookup-listed_accounts at (is_serial id) es keyed)

key_step : (at : ℕ → Option Account) (key : ℕ) (a : Account) (o : Option ℕ) → IsKeyFor at key o
    → at key ≡ Some a → o ≡ Some key
key_step at key a None h some = absurd (let bad : None ≡ Some a = sym h ∙ some in cc)
key_step at key a (Some own) h some = ap (λ k. Some k) h

-- and where an account stands there, the key is the serial's own
pub remembered_key : (at : ℕ → Option Account) (a : Account) (id : ℕ) (es : List (ℕ × ℕ))
    (last : ℕ × ℕ) → IsRemembered at es last → last.0 ≡ id → at last.1 ≡ Some a
    → lookup (is_serial id) es ≡ Some last.1
remembered_key at a id es last h same some =
    let key : IsKeyFor at last.1 (lookup (is_serial id) es) = rw same at h in
    key_step at last.1 a (lookup (is_serial id) es) key some

-- What is remembered stays as a serial leaves. Where it is this one, its key has no account now.

vacant_step : (b : Bool) (at new : ℕ → Option Account) (k key : ℕ) → (k == key) ≡ b
    → new key ≡ None → ((other : ℕ) → other ≢ key → new other ≡ at other)
    → at k ≡ None → new k ≡ None
vacant_step true at new k key is gone kept none =
    let same : k ≡ key = grind (arith, nat_tests) in
    ap new same ∙ gone
vacant_step false at new k key is gone kept none =
    let ne : k ≢ key = grind (arith, nat_tests) in
    kept k ne ∙ none

key_kept : (at new : ℕ → Option Account) (k key : ℕ) (o : Option ℕ)
    → new key ≡ None → ((other : ℕ) → other ≢ key → new other ≡ at other)
    → IsKeyFor at k o → IsKeyFor new k o
key_kept at new k key None gone kept h = vacant_step (k == key) at new k key refl gone kept h
key_kept at new k key (Some own) gone kept h = h

left_step : (b : Bool) (at new : ℕ → Option Account) (k key : ℕ) (o : Option ℕ)
    → (b ≡ true → o ≡ Some key)
    → new key ≡ None → ((other : ℕ) → other ≢ key → new other ≡ at other)
    → IsKeyFor at k o → IsKeyFor new k (cond b None o)
left_step true at new k key o mine gone kept h =
    let own : key ≡ k = rw (mine refl) at h in
    ap new (sym own) ∙ gone
left_step false at new k key o mine gone kept h = key_kept at new k key o gone kept h

pub remembered_removed : (at new : ℕ → Option Account) (id key : ℕ) (es fs : List (ℕ × ℕ))
    (last : ℕ × ℕ) → IsRemembered at es last → lookup (is_at (nat_cmp id)) es ≡ Some key
    → ((q : ℕ) → lookup (is_at (nat_cmp q)) fs
    ≡ cond (is_at (nat_cmp id) q) None (lookup (is_at (nat_cmp q)) es))
    → new key ≡ None → ((other : ℕ) → other ≢ key → new other ≡ at other)
    → IsRemembered new fs last
remembered_removed at new id key es fs last h was left gone kept =
    let test = is_serial id last.0 in
    let own = lookup (is_serial last.0) es in
    let now : lookup (is_serial last.0) fs ≡ cond test None own =
    sym (lookup_at last.0 fs)
    ∙ (left last.0 ∙ rw (is_at-is_serial id last.0, lookup_at last.0 es) refl) in
    let mine : test ≡ true → own ≡ Some key = λ is.
    let same : last.0 ≡ id = grind (arith, nat_tests) in
    rw same (sym (lookup_at id es) ∙ was) in
    rw now (left_step test at new last.1 key own mine gone kept h)
