use Rattle.std.proofs.Common.{refl, sym, ap, ◌∙◌, arith, append-nil}
use Rattle.std.specs.Prelude.{take, List, ◌++◌}
use Rattle.iova_session.specs.Pairs.{Pair}
use Rattle.iova_session.specs.Desks.{SessionState, told_pairs}
use Rattle.iova_session.proofs.ToldPairs.{from_told, none_done, none_asked}
use Rattle.iova_session.proofs.Leads.{goes_nowhere, same_state, same_seat, batch_goes, batch_nothing}
use Rattle.iova_session.proofs.together.ask_together.Goals as goal

pub returns-then-most-eq0-clause-ok : goal.returns-then-most-eq0-clause-ok
returns-then-most-eq0-clause-ok g c = none_asked _ _ _ _

pub returns-then-most-eq0-clause-leads : goal.returns-then-most-eq0-clause-leads
returns-then-most-eq0-clause-leads g c = λ calls. goes_nowhere _ _ _ _ _ calls _ _ refl refl (same_state _)

pub returns-then-most-eq0-clause-none : goal.returns-then-most-eq0-clause-none
returns-then-most-eq0-clause-none g c = λ zero. (refl, refl, refl, same_state _)

pub tell_all-requires-clause-told : goal.tell_all-requires-clause-told
tell_all-requires-clause-told g c =
    let h = from_told c.args.requests.now _ _ _ _ _ _ (c.asks_from-most.ensures.asks (omega (arith, c.if-most-eq0.false))) c.clear.ensures.items c.in_ok-count.ensures.told in
    rw c.as_slice.ensures.value h.0.each

pub tell_all-requires-clause-room : goal.tell_all-requires-clause-room
tell_all-requires-clause-room g c =
    let h = from_told c.args.requests.now _ _ _ _ _ _ (c.asks_from-most.ensures.asks (omega (arith, c.if-most-eq0.false))) c.clear.ensures.items c.in_ok-count.ensures.told in
    rw c.as_slice.ensures.value (omega (arith, h.0.short, c.requires.room))

pub returns-clause-most : goal.returns-clause-most
returns-clause-most g c =
    let h = from_told c.args.requests.now _ _ _ _ _ _ (c.asks_from-most.ensures.asks (omega (arith, c.if-most-eq0.false))) c.clear.ensures.items c.in_ok-count.ensures.told in
    omega (arith, h.0.short, h.1)

pub returns-clause-alone : goal.returns-clause-alone
returns-clause-alone g c = λ zero.
    (none_done c.args.requests.now _ _ _ _ _ _ (c.asks_from-most.ensures.asks (omega (arith, c.if-most-eq0.false))) c.clear.ensures.items zero c.in_ok-count.ensures.told).0

pub returns-clause-none : goal.returns-clause-none
returns-clause-none g c = λ zero.
    let h = none_done c.args.requests.now _ _ _ _ _ _ (c.asks_from-most.ensures.asks (omega (arith, c.if-most-eq0.false))) c.clear.ensures.items zero c.in_ok-count.ensures.told in
    let none = c.as_slice.ensures.value ∙ h.2 in
    let s = rw none at c.tell_all.ensures.session in
    let a = rw none at c.tell_all.ensures.answers in (
      s ∙ ap (λ (ps : List Pair). record c.args.session.now { pairs = ps }) (append-nil c.args.session.now.pairs),
      a ∙ append-nil c.args.answers.now.items,
      same_seat c.args.seat.now c.batch.new.seat c.batch.ensures.rest.0 h.1 c.batch.ensures.rest.1,
      batch_nothing c.refusals_keep_the_state.ensures _ c.args.id _ _ _ _ _ _ _ _ zero c.in_ok-count.ensures.domain,
    )

pub returns-clause-ok : goal.returns-clause-ok
returns-clause-ok g c =
    let h = from_told c.args.requests.now _ _ _ _ _ _ (c.asks_from-most.ensures.asks (omega (arith, c.if-most-eq0.false))) c.clear.ensures.items c.in_ok-count.ensures.told in
    let s = rw c.as_slice.ensures.value at c.tell_all.ensures.session in
    let a = rw c.as_slice.ensures.value at c.tell_all.ensures.answers in
    record {
      pairs = told_pairs c.args.requests.now c.batch.new.told.items;
      same = ap (λ (x : SessionState). x.number) s;
      added = ap (λ (x : SessionState). x.pairs) s;
      asked = h.0.asked ∙ ap (λ n. take n c.args.requests.now) h.1;
      told = a ∙ ap (λ more. c.args.answers.now.items ++ more) (sym h.0.told);
      shares = h.0.shares;
    }

pub returns-clause-leads : goal.returns-clause-leads
returns-clause-leads g c = λ calls.
    let h = from_told c.args.requests.now _ _ _ _ _ _ (c.asks_from-most.ensures.asks (omega (arith, c.if-most-eq0.false))) c.clear.ensures.items c.in_ok-count.ensures.told in
    let s = rw c.as_slice.ensures.value at c.tell_all.ensures.session in
    batch_goes c.refusals_keep_the_state.ensures (g.K.Keep.identity c.args.keeper.now).strict c.args.id c.args.requests.now _ _ c.batch.new.told.items _ c.args.session.now c.tell_all.new.session c.args.seat.now c.batch.new.seat calls _ _
    c.requires.client (c.asks_from-most.ensures.asks (omega (arith, c.if-most-eq0.false))) c.clear.ensures.items h.0.each (ap (λ (x : SessionState). x.pairs) s) c.batch.ensures.rest c.in_ok-count.ensures.domain
