-- A client that closes.
use Rattle.std.proofs.Common.{ℕ, ◌≡◌, ◌==◌, Bool, true, false, List, [], ◌∷◌, find, Option, Some, None, refl, sym, ap, ◌∙◌, subst}
use Rattle.std.specs.Prelude.{slice_get, option_and_then}
use Rattle.iova_range.specs.Frames.{Frames}
use Rattle.iova_model.specs.declared.step.Reply.TheVariants as reply
use Rattle.iova_model.specs.Clients.{Client, client_with, client_of, begins_at, change_client, without_client, with_mark}
use Rattle.iova_model.specs.State.{State}
use Rattle.iova_model.specs.Next.{Next, no_worker, close, close_one, close_lowest, unmap_held, with_clients}
use Rattle.iova_clients.specs.Registry.{lowest}
use Rattle.iova_laws.proofs.Finds.{owned, changed_found, first_held}
use Rattle.iova_laws.proofs.Kept.{with_marked}

-- a client that was marked
pub record IsMarked (s : State) (w id : ℕ) : Type 0 where
  pub client : Client
  pub known : no_worker s w ≡ false
  pub found : client_with id s.clients ≡ Some client
  pub owned : client_of w id s.clients ≡ Some client
  pub state : (close s w id).state ≡ with_marked s id

marked_step : (s : State) (w id n : ℕ) (b : Bool) (o : Option Client) → no_worker s w ≡ b → client_of w id s.clients ≡ o → (close s w id).reply ≡ reply.Marked n → IsMarked s w id
marked_step s w id n true o known own h = absurd (let e = rw known at h in cc)
marked_step s w id n false None known own h = absurd (let e = rw (known, own) at h in cc)
marked_step s w id n false (Some c) known own h = record {
  client = c;
  known = known;
  found = (owned w id s.clients c own).is;
  owned = own;
  state = rw (known, own) refl;
}

pub marked_from : (s : State) (w id n : ℕ) → (close s w id).reply ≡ reply.Marked n → IsMarked s w id
marked_from s w id n h = marked_step s w id n (no_worker s w) (client_of w id s.clients) refl refl h

forgotten-marked : (id : ℕ) (cs : List Client) → without_client id (change_client id with_mark cs) ≡ without_client id cs
forgotten-marked id [] = refl
forgotten-marked id (c ∷ cs) = step (forgotten-marked id cs) (c.id == id) refl
  where
    step : without_client id (change_client id with_mark cs) ≡ without_client id cs → (b : Bool) → (c.id == id) ≡ b → without_client id (change_client id with_mark (c ∷ cs)) ≡ without_client id (c ∷ cs)
    step more true is = rw is (rw is refl)
    step more false is = rw is (rw is (ap (λ l. c ∷ l) more))

module _ (s : State) (w id : ℕ) (m : IsMarked s w id) where
  pub marked_found : client_with id (with_marked s id).clients ≡ Some (with_mark m.client)
  marked_found = changed_found id with_mark m.client s.clients m.found refl

  closes : close_one s w id ≡ close_lowest m.client.holdings s w id
  closes = rw (m.known, m.owned) refl

  -- its lowest holding is queued
  pub closes_lowest : (r : Frames) → Some r ≡ option_and_then lowest (client_with id (with_marked s id).clients) → close_one s w id ≡ unmap_held (find (begins_at r.lo) (with_mark m.client).holdings) (with_marked s id) w id
  closes_lowest r is = step m.client.holdings refl
    where
      step : (hs : List Frames) → m.client.holdings ≡ hs → close_one s w id ≡ unmap_held (find (begins_at r.lo) m.client.holdings) (with_marked s id) w id
      step [] none = absurd (let e : Some r ≡ slice_get m.client.holdings 0 = is ∙ ap (option_and_then lowest) marked_found in let f = rw none at e in cc)
      step (x ∷ xs) some =
          let e : Some r ≡ slice_get m.client.holdings 0 = is ∙ ap (option_and_then lowest) marked_found in
          let f : Some r ≡ Some x = rw some at e in
          let same : r ≡ x = cc (f) in
          let first : find (begins_at r.lo) (x ∷ xs) ≡ Some x = subst (λ n. find (begins_at n) (x ∷ xs) ≡ Some x) (sym (ap (λ (f : Frames). f.lo) same)) (first_held x xs) in
          let held : find (begins_at r.lo) m.client.holdings ≡ Some x = ap (find (begins_at r.lo)) some ∙ first in
          closes ∙ (ap (λ l. close_lowest l s w id) some ∙ sym (ap (λ o. unmap_held o (with_marked s id) w id) held))

  -- without one it is gone
  pub marked_empty : None ≡ option_and_then lowest (client_with id (with_marked s id).clients) → m.client.holdings ≡ []
  marked_empty is = step m.client.holdings refl
    where
      step : (hs : List Frames) → m.client.holdings ≡ hs → m.client.holdings ≡ []
      step [] none = none
      step (x ∷ xs) some = absurd (let e : None ≡ slice_get m.client.holdings 0 = is ∙ ap (option_and_then lowest) marked_found in let f = rw some at e in cc)

  pub closes_last : None ≡ option_and_then lowest (client_with id (with_marked s id).clients) → close_one s w id ≡ record { reply = reply.Empty; state = with_clients s (without_client id (with_marked s id).clients) }
  closes_last is =
      let answer : List Client → Next = λ cs. record { reply = reply.Empty; state = with_clients s cs } in
      closes ∙ (ap (λ l. close_lowest l s w id) (marked_empty is) ∙ ap answer (sym (forgotten-marked id s.clients)))
