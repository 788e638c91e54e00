-- A closing client at one step.
use Rattle.std.proofs.Common.{ℕ, ◌≡◌, ◌≢◌, ◌==◌, ◌⊎◌, inl, inr, true, false, List, [], ◌∷◌, ◌++◌, Some, None, refl, sym, ap, ◌∙◌, subst, arith}
use Rattle.std.proofs.lemmas.Bool.{cases_eq}
use Rattle.std.proofs.lemmas.Bool.Decides.{nat_tests}
use Rattle.iova_range.specs.declared.refusal.Refusal.{Refusal}
use Rattle.iova_range.specs.Frames.{Frames}
use Rattle.iova_model.specs.declared.step.Step.{Step}
use Rattle.iova_model.specs.declared.step.Step.TheVariants as step
use Rattle.iova_model.specs.declared.step.Reply.{Reply}
use Rattle.iova_model.specs.declared.step.Reply.TheVariants as reply
use Rattle.iova_model.specs.Clients.{Client, client_with, change_client, without_client, remove_at, with_holding, without_holding, with_mark}
use Rattle.iova_model.specs.State.{State}
use Rattle.iova_model.specs.Valid.{SerialsRise}
use Rattle.iova_model.specs.Effects.{queued_in, Marks, Empties}
use Rattle.iova_laws.proofs.ClosingSerials.{found-push, found-changed_other, found-forgotten_other}
use Rattle.iova_laws.proofs.Serials.{KeepsSerial, forgotten_is_gone}
use Rattle.iova_laws.proofs.ValidFound.{changed_found}
use Rattle.iova_laws.proofs.Outcomes.{IsOwned, Outcome, turned_down, opens, gives, unmaps, closes, queues_lowest, only_marks, forgets}

-- After the step the client is closing, and what was queued and what it has left are its old holdings.
pub record Closes (id : ℕ) (old : List Frames) (st : Step) (r : Reply) (t : State) : Type 0 where
  pub client : Client
  pub is : client_with id t.clients ≡ Some client
  pub closing : client.closing ≡ true
  pub left : queued_in id st r ++ client.holdings ≡ old
  pub not_emptied : Empties id st r → ⊥

-- Or it held nothing, and is gone.
pub record RefusalLeaves (id : ℕ) (old : List Frames) (st : Step) (r : Reply) (t : State) : Type 0 where
  pub gone : client_with id t.clients ≡ None
  pub nothing : old ≡ []
  pub nothing_queued : queued_in id st r ≡ []
  pub empties : Empties id st r

-- One of the two.
abbrev pub ClosesOrLeaves : ℕ → List Frames → Step → Reply → State → Type 0
ClosesOrLeaves id old st r t = Closes id old st r t ⊎ RefusalLeaves id old st r t

-- A step that queues nothing of the client and doesn't empty it.
record IsIdle (id : ℕ) (st : Step) (r : Reply) : Type 0 where
  queues : queued_in id st r ≡ []
  not_emptied : Empties id st r → ⊥

-- nothing is queued, and the closing isn't answered `Empty`
idle : {id : ℕ} {st : Step} {r : Reply} → queued_in id st r ≡ [] → (Empties id st r → ⊥) → IsIdle id st r
idle queues not_emptied = record { queues = queues; not_emptied = not_emptied }

-- each refusal is one
refused_idle : (id : ℕ) (st : Step) (r : Refusal) → IsIdle id st (reply.Refused r)
refused_idle id (step.CloseOne w other) r = idle refl (λ e. let is = e.1 in cc)
refused_idle id st r = idle refl (λ e. let is = e.1 in cc)

-- and the closing of another client
other_idle : (id w other : ℕ) (r : Frames) → other ≢ id → IsIdle id (step.CloseOne w other) (reply.Queued r)
other_idle id w other r apart = let different : (other == id) ≡ false = grind (arith, nat_tests) in idle (rw different refl) (λ e. let is = e.1 in cc)

same_client : {other id : ℕ} → Some other ≡ Some id → other ≡ id
same_client e = cc

-- the client is marked by the step that closes it, or it is closing already
closed_by : {A B : Type 0} {other id : ℕ} → A ⊎ ((Some other ≡ Some id) × B) → A ⊎ (other ≡ id)
closed_by (inl a) = inl a
closed_by (inr marks) = inr (same_client marks.0)

-- A state with this client.
module _ (s : State) (id : ℕ) (c : Client) (is : client_with id s.clients ≡ Some c) where
  -- the client is as it was
  untouched : {st : Step} {r : Reply} {t : State} → IsIdle id st r → client_with id t.clients ≡ Some c → c.closing ≡ true → Closes id c.holdings st r t
  untouched i still closing = record { client = c; is = still; closing = closing; left = ap (λ l. l ++ c.holdings) i.queues; not_emptied = i.not_emptied }

  -- it is marked
  now_marked : {st : Step} {r : Reply} {t : State} → IsIdle id st r → client_with id t.clients ≡ Some (with_mark c) → Closes id c.holdings st r t
  now_marked i still = record { client = with_mark c; is = still; closing = refl; left = ap (λ l. l ++ c.holdings) i.queues; not_emptied = i.not_emptied }

  -- and then found
  marked_is : client_with id (change_client id with_mark s.clients) ≡ Some (with_mark c)
  marked_is = changed_found id with_mark c s.clients is refl

  -- a client with its serial is itself
  is_same : (w other : ℕ) (d : Client) → IsOwned w other s.clients d → other ≡ id → d ≡ c
  is_same w other d own same =
      let mine : client_with id s.clients ≡ Some d = ap (λ i. client_with i s.clients) (sym same) ∙ own.is in
      let both : Some d ≡ Some c = sym mine ∙ is in
      cc

  -- a client that isn't closing is another
  is_other : (w other : ℕ) (d : Client) → IsOwned w other s.clients d → d.closing ≡ false → c.closing ≡ true → other ≢ id
  is_other w other d own still_open closing = λ same.
      let both : true ≡ false = sym closing ∙ (ap (λ x. x.closing) (sym (is_same w other d own same)) ∙ still_open) in
      cc

  -- another client is changed
  other_changed : (other : ℕ) (change : Client → Client) → KeepsSerial change → other ≢ id → client_with id (change_client other change s.clients) ≡ Some c
  other_changed other change keeps apart = found-changed_other id other change s.clients keeps apart ∙ is

  -- Some client is marked, and no more.
  marks_one : {st : Step} {r : Reply} (other : ℕ) → IsIdle id st r → (c.closing ≡ true) ⊎ (other ≡ id) → Closes id c.holdings st r (record s { clients = change_client other with_mark s.clients })
  marks_one {st = st} {r = r} other i why = split (cases_eq other id) why
    where
      split : (other ≡ id) ⊎ (other ≡ id → ⊥) → (c.closing ≡ true) ⊎ (other ≡ id) → Closes id c.holdings st r (record s { clients = change_client other with_mark s.clients })
      split (inl same) why = now_marked i (subst (λ k. client_with id (change_client k with_mark s.clients) ≡ Some (with_mark c)) (sym same) marked_is)
      split (inr apart) (inl closing) = untouched i (other_changed other with_mark (λ d. refl) apart) closing
      split (inr apart) (inr same) = absurd (apart same)

  -- The lowest holding of some client is queued.

  -- those that are left
  after_lowest : ℕ → Frames → List Client
  after_lowest other r = change_client other (without_holding r.lo) (change_client other with_mark s.clients)

  -- its lowest holding is queued, and it is closing with the others
  lowest_queued : (w : ℕ) (r : Frames) (rs : List Frames) (t : State) → c.holdings ≡ r ∷ rs → t.clients ≡ after_lowest id r → Closes id c.holdings (step.CloseOne w id) (reply.Queued r) t
  unfolding after_lowest
  lowest_queued w r rs t lowest clients =
      let same : (id == id) ≡ true = grind (arith, nat_tests) in
      let here : (r.lo == r.lo) ≡ true = grind (arith, nat_tests) in
      let rest : remove_at r.lo c.holdings ≡ rs = rw (lowest, here) refl in
      record {
        client = without_holding r.lo (with_mark c);
        is = ap (λ cs. client_with id cs) clients ∙ changed_found id (without_holding r.lo) (with_mark c) (change_client id with_mark s.clients) marked_is refl;
        closing = refl;
        left = rw (same, rest) (sym lowest);
        not_emptied = λ e. let is = e.1 in cc;
      }

  -- where the lowest holding of another client is queued, it stays as it is
  other_queued : (other : ℕ) (r : Frames) → other ≢ id → client_with id (after_lowest other r) ≡ Some c
  unfolding after_lowest
  other_queued other r apart = found-changed_other id other (without_holding r.lo) (change_client other with_mark s.clients) (λ x. refl) apart ∙ other_changed other with_mark (λ x. refl) apart

  -- the lowest holding of some client is queued: it is this one's, or this one is closing and stays as it is
  queues_one : (w other : ℕ) (d : Client) (r : Frames) (rs : List Frames) (t : State) → IsOwned w other s.clients d → d.holdings ≡ r ∷ rs → t.clients ≡ after_lowest other r → (c.closing ≡ true) ⊎ (other ≡ id)
      → Closes id c.holdings (step.CloseOne w other) (reply.Queued r) t
  queues_one w other d r rs t own lowest clients why = split (cases_eq other id) why
    where
      split : (other ≡ id) ⊎ (other ≡ id → ⊥) → (c.closing ≡ true) ⊎ (other ≡ id) → Closes id c.holdings (step.CloseOne w other) (reply.Queued r) t
      split (inl same) why =
          let mine = ap (λ x. x.holdings) (sym (is_same w other d own same)) ∙ lowest in
          let now = clients ∙ ap (λ i. after_lowest i r) same in
          subst (λ i. Closes id c.holdings (step.CloseOne w i) (reply.Queued r) t) (sym same) (lowest_queued w r rs t mine now)
      split (inr apart) (inl closing) = untouched (other_idle id w other r apart) (ap (λ cs. client_with id cs) clients ∙ other_queued other r apart) closing
      split (inr apart) (inr same) = absurd (apart same)

  -- Some client that holds nothing is forgotten.
  forgets_one : (w other : ℕ) (d : Client) → SerialsRise 0 s.clients s.serial → IsOwned w other s.clients d → d.holdings ≡ [] → (c.closing ≡ true) ⊎ (other ≡ id)
      → ClosesOrLeaves id c.holdings (step.CloseOne w other) reply.Empty (record s { clients = without_client other s.clients })
  forgets_one w other d rise own empty why = split (cases_eq other id) why
    where
      split : (other ≡ id) ⊎ (other ≡ id → ⊥) → (c.closing ≡ true) ⊎ (other ≡ id) → ClosesOrLeaves id c.holdings (step.CloseOne w other) reply.Empty (record s { clients = without_client other s.clients })
      split (inl same) why = inr (record {
        gone = subst (λ i. client_with id (without_client i s.clients) ≡ None) (sym same) (forgotten_is_gone id 0 s.clients s.serial rise);
        nothing = ap (λ x. x.holdings) (sym (is_same w other d own same)) ∙ empty;
        nothing_queued = refl;
        empties = (ap (λ i. Some i) same, refl);
      })
      split (inr apart) (inl closing) = inl (untouched (idle refl (λ e. apart (same_client e.0))) (found-forgotten_other id other s.clients apart ∙ is) closing)
      split (inr apart) (inr same) = absurd (apart same)

  -- the result of a step for a client that is closing, or that it marks
  pub closing_step : {st : Step} {r : Reply} {t : State} → Outcome s st r t → SerialsRise 0 s.clients s.serial → (c.closing ≡ true) ⊎ Marks id st r → ClosesOrLeaves id c.holdings st r t
  unfolding after_lowest
  closing_step (turned_down st r why) rise (inl closing) = inl (untouched (refused_idle id st r) is closing)
  closing_step (turned_down st r why) rise (inr marks) = absurd (why.unmarked id marks)
  closing_step (opens w sac) rise (inl closing) = inl (untouched (idle refl (λ e. let is = e.1 in cc)) (found-push id s.clients _ c is) closing)
  closing_step (gives w other frames limit d r caches own still_open) rise (inl closing) =
      inl (untouched (idle refl (λ e. let is = e.1 in cc)) (other_changed other (with_holding r) (λ x. refl) (is_other w other d own still_open closing)) closing)
  closing_step (unmaps w other lo d r known own still_open held) rise (inl closing) =
      inl (untouched (idle refl (λ e. let is = e.1 in cc)) (other_changed other (without_holding r.lo) (λ x. refl) (is_other w other d own still_open closing)) closing)
  closing_step (closes w other d own) rise why = inl (marks_one other (idle refl (λ e. let is = e.1 in cc)) (closed_by why))
  closing_step (queues_lowest w other d r rs known own lowest) rise why = inl (queues_one w other d r rs _ own lowest refl (closed_by why))
  closing_step (only_marks w other d own) rise why = inl (marks_one other (idle refl (λ e. let is = e.1 in cc)) (closed_by why))
  closing_step (forgets w other d own empty) rise why = forgets_one w other d rise own empty (closed_by why)
  closing_step o rise (inl closing) = inl (untouched (idle refl (λ e. let is = e.1 in cc)) is closing)
  closing_step o rise (inr marks) = let none = marks.0 in absurd cc
