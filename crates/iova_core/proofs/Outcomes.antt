-- What a call's clauses on its refusals say together, and whose a client is.
use Rattle.std.proofs.Common.{ℕ, ◌≡◌, ◌==◌, Bool, true, false, Option, Some, None, refl, sym, ap, subst, ◌∙◌, ◌⊎◌, inl, inr}
use Rattle.std.specs.Prelude.{Result, Ok, Err, IfSome, IfNone, IsOkUnless, option_map, option_and_then, if◌then◌else◌}
use Rattle.std.proofs.lemmas.Bool.Decides.{nat_tests}
use Rattle.std.proofs.Common.{arith}
use Rattle.iova_range.specs.declared.refusal.Refusal.{Refusal}
use Rattle.iova_range.specs.declared.refusal.Refusal.TheVariants as refusal
use Rattle.iova_model.specs.Clients.{Client, if_owned}
use Rattle.iova_clients.specs.declared.flags.ClientFlags.{ClientFlags}
use Rattle.iova_clients.specs.Registry.{flags_of}

-- A call that is refused where a test says so, and else only for want of memory.
pub record Refuses {A : Type 0} (tested : Option Refusal) (result : Result A Refusal) : Type 0 where
  pub refused : IfSome tested (λ r. result ≡ Err r)
  pub accepted : IfNone tested (IsOkUnless result refusal.NoMemory)

pub refuses_ok : {A : Type 0} (tested : Option Refusal) (result : Result A Refusal) (x : A) → Refuses tested result → result ≡ Ok x → tested ≡ None
refuses_ok None result x h is = refl
refuses_ok (Some r) result x h is = absurd (let both : Ok x ≡ Err r = sym is ∙ h.refused in cc)

pub refuses_err : {A : Type 0} (tested : Option Refusal) (result : Result A Refusal) (r : Refusal) → Refuses tested result → result ≡ Err r → ((r ≡ refusal.NoMemory) × (tested ≡ None)) ⊎ (tested ≡ Some r)
refuses_err {A} None result r h is =
    let only = subst (λ (x : Result A Refusal). IsOkUnless x refusal.NoMemory) is h.accepted in
    inl (only, refl)
refuses_err (Some t) result r h is = let both : Err r ≡ Err t = sym is ∙ h.refused in inr (let e : r ≡ t = cc in ap (λ x. Some x) (sym e))

-- the client with this serial, which the worker opened
pub record IsOwned (w : ℕ) (o : Option Client) (c : Client) : Type 0 where
  pub found : o ≡ Some c
  pub owned : option_and_then (if_owned w) o ≡ Some c

owned_step : (w : ℕ) (c : Client) (b : Bool) → (c.worker == w) ≡ b → Some c.worker ≡ Some w → (if c.worker == w then Some c else None) ≡ Some c
owned_step w c true is e = rw is refl
owned_step w c false is e = let same : c.worker ≡ w = cc in absurd (grind (arith, nat_tests))

pub owner_is : (w : ℕ) (o : Option Client) → option_map (λ c. c.worker) o ≡ Some w → (c : Client) × IsOwned w o c
owner_is w None e = absurd cc
owner_is w (Some c) e = (c, record { found = refl; owned = owned_step w c (c.worker == w) refl e })

-- a client that was looked up for its worker
marks_step : (w : ℕ) (m : ClientFlags) (c : Client) (b : Bool) → (c.worker == w) ≡ b → Some m ≡ option_map flags_of (if c.worker == w then Some c else None) → (c.worker ≡ w) × (m ≡ flags_of c)
marks_step w m c true is e = (grind (arith, nat_tests), let f : Some m ≡ Some (flags_of c) = rw is at e in cc)
marks_step w m c false is e = absurd (let f : Some m ≡ None = rw is at e in cc)

pub looked_up : (w : ℕ) (o : Option Client) (m : ClientFlags) → Some m ≡ option_map flags_of (option_and_then (if_owned w) o) → option_map (λ c. c.worker) o ≡ Some w
looked_up w None m e = absurd (let f : Some m ≡ None = e in cc)
looked_up w (Some c) m e = ap (λ n. Some n) (marks_step w m c (c.worker == w) refl e).0

pub looked_up_sac : (w : ℕ) (o : Option Client) (m : ClientFlags) (c : Client) → Some m ≡ option_map flags_of (option_and_then (if_owned w) o) → o ≡ Some c → m.sac ≡ c.sac
looked_up_sac w None m c e is = absurd cc
looked_up_sac w (Some x) m c e is = let same : x ≡ c = cc in ap (λ (n : ClientFlags). n.sac) (marks_step w m x (x.worker == w) refl e).1 ∙ ap (λ (y : Client). y.sac) same
