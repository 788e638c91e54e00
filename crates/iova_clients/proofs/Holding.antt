-- The client that has a frame, and the one that a worker opened behind another.
use Rattle.std.proofs.Common.{◌≡◌, ℕ, Bool, true, false, cond, List, [], ◌∷◌, Option, None, Some, option_map, find, IfSome, IfNone, All, refl, sym, ap, ◌∙◌}
use Rattle.std.specs.List.{position_or_len}
use Rattle.std.proofs.lemmas.List.Folds.{find_at}
use Rattle.std.proofs.lemmas.List.Elements.{All-nil, All-cons}
use Rattle.iova_model.specs.Fit.{is_covered}
use Rattle.iova_model.specs.Clients.{Client, is_newer, newer_client}
use Rattle.iova_clients.specs.Registry.{IsHolder}
use Rattle.iova_clients.specs.Accounts.{Account, client_at, clients_at, is_newer_entry}

abbrev pub has_frame : ℕ → Client → Bool
has_frame frame c = is_covered frame c.holdings

pub holder-at : (frame : ℕ) (es : List (ℕ × Account)) → option_map (λ (e : ℕ × Account). e.0) (find (λ (e : ℕ × Account). is_covered frame e.1.holdings) es)
    ≡ option_map (λ (c : Client). c.id) (find (has_frame frame) (clients_at es))
holder-at frame [] = refl
holder-at frame (e ∷ es) = step (is_covered frame e.1.holdings) (holder-at frame es)
  where
    step : (b : Bool) → option_map (λ (e : ℕ × Account). e.0) (find (λ (e : ℕ × Account). is_covered frame e.1.holdings) es)
        ≡ option_map (λ (c : Client). c.id) (find (has_frame frame) (clients_at es))
        → option_map (λ (e : ℕ × Account). e.0) (cond b (Some e) (find (λ (e : ℕ × Account). is_covered frame e.1.holdings) es))
        ≡ option_map (λ (c : Client). c.id) (cond b (Some (client_at e)) (find (has_frame frame) (clients_at es)))
    step true ih = refl
    step false ih = ih

find_passes : (frame : ℕ) (c : Client) (cs : List Client) → find (has_frame frame) cs ≡ Some c → has_frame frame c ≡ true
find_passes frame c [] q = absurd (let bad : None ≡ Some c = q in cc)
find_passes frame c (x ∷ cs) q = step (has_frame frame x) refl q (λ later. find_passes frame c cs later)
  where
    step : (b : Bool) → has_frame frame x ≡ b → cond b (Some x) (find (has_frame frame) cs) ≡ Some c → (find (has_frame frame) cs ≡ Some c → has_frame frame c ≡ true) → has_frame frame c ≡ true
    step true this is ih = let mine : x ≡ c = cc in ap (has_frame frame) (sym mine) ∙ this
    step false this is ih = ih is

find_none : (frame : ℕ) (cs : List Client) → find (has_frame frame) cs ≡ None → All (λ (c : Client). has_frame frame c ≡ false) cs
find_none frame [] q = All-nil (λ (c : Client). has_frame frame c ≡ false)
find_none frame (x ∷ cs) q = step (has_frame frame x) refl q (λ later. find_none frame cs later)
  where
    step : (b : Bool) → has_frame frame x ≡ b → cond b (Some x) (find (has_frame frame) cs) ≡ None → (find (has_frame frame) cs ≡ None → All (λ (c : Client). has_frame frame c ≡ false) cs)
        → All (λ (c : Client). has_frame frame c ≡ false) (x ∷ cs)
    step true this is ih = absurd (let bad : Some x ≡ None = is in cc)
    step false this is ih = All-cons (λ (c : Client). has_frame frame c ≡ false) x cs this (ih is)

pub holder_holds : (frame : ℕ) (cs : List Client) → IfSome (option_map (λ (c : Client). c.id) (find (has_frame frame) cs)) (IsHolder frame cs)
holder_holds frame cs = step (find (has_frame frame) cs) refl
  where
    step : (o : Option Client) → find (has_frame frame) cs ≡ o → IfSome (option_map (λ (c : Client). c.id) o) (IsHolder frame cs)
    step None is = tt
    step (Some c) is = record {
      place = position_or_len (has_frame frame) cs;
      client = c;
      here = sym (find_at (has_frame frame) cs) ∙ is;
      serial = refl;
      covers = find_passes frame c cs is;
    }

pub holder_none : (frame : ℕ) (cs : List Client) → IfNone (option_map (λ (c : Client). c.id) (find (has_frame frame) cs)) (All (λ (c : Client). has_frame frame c ≡ false) cs)
holder_none frame cs = step (find (has_frame frame) cs) refl
  where
    step : (o : Option Client) → find (has_frame frame) cs ≡ o → IfNone (option_map (λ (c : Client). c.id) o) (All (λ (c : Client). has_frame frame c ≡ false) cs)
    step None is = find_none frame cs is
    step (Some c) is = tt

-- The client of a worker with a serial above this one.
pub newer-at : (worker than : ℕ) (es : List (ℕ × Account))
    → option_map (λ (e : ℕ × Account). e.0) (find (λ (e : ℕ × Account). is_newer_entry worker than e) es)
    ≡ option_map (λ (c : Client). c.id) (newer_client worker than (clients_at es))
newer-at worker than [] = refl
newer-at worker than (e ∷ es) = step (is_newer worker than (client_at e)) (newer-at worker than es)
  where
    step : (b : Bool) → option_map (λ (e : ℕ × Account). e.0) (find (λ (e : ℕ × Account). is_newer_entry worker than e) es)
        ≡ option_map (λ (c : Client). c.id) (newer_client worker than (clients_at es))
        → option_map (λ (e : ℕ × Account). e.0) (cond b (Some e) (find (λ (e : ℕ × Account). is_newer_entry worker than e) es))
        ≡ option_map (λ (c : Client). c.id) (cond b (Some (client_at e)) (newer_client worker than (clients_at es)))
    step true ih = refl
    step false ih = ih
