use Rattle.std.proofs.Common.{◌≡◌, ◌<◌, ◌+◌, length, sym, ap, ◌∙◌, arith}
use Rattle.iova_depot.proofs.Moves.{true_is_not_false}
use Rattle.iova_depot.proofs.OfMagazines.{entries_at, has_newest, leaves, leaves_and_goes}
use Rattle.iova_depot.proofs.depot.Depot.take_newest.Goals as goal

pub invariant_of-self : goal.invariant_of-self
invariant_of-self c =
    let none = sym c.take_newest.ensures.value ∙ c.in_err-lo.was in
    let lt : c.in_ok-last.last < length c.self.inside.magazines.items = omega arith in
    absurd (has_newest _ _ _ _ c.self.invariant.0 lt c.index_mut-magazine.ensures.value none)

pub returns-in_err-lo-clause-none : goal.returns-in_err-lo-clause-none
returns-in_err-lo-clause-none c =
    let none = sym c.take_newest.ensures.value ∙ c.in_err-lo.was in
    let lt : c.in_ok-last.last < length c.self.inside.magazines.items = omega arith in
    absurd (has_newest _ _ _ _ c.self.invariant.0 lt c.index_mut-magazine.ensures.value none)

pub returns-in_err-lo-clause-sound : goal.returns-in_err-lo-clause-sound
returns-in_err-lo-clause-sound c =
    let none = sym c.take_newest.ensures.value ∙ c.in_err-lo.was in
    let lt : c.in_ok-last.last < length c.self.inside.magazines.items = omega arith in
    absurd (has_newest _ _ _ _ c.self.invariant.0 lt c.index_mut-magazine.ensures.value none)

pub invariant_of-self-then-is_empty : goal.invariant_of-self-then-is_empty
invariant_of-self-then-is_empty c =
    let last : c.in_ok-last.last + 1 ≡ length c.self.inside.magazines.items = omega arith in
    let some = sym c.take_newest.ensures.value ∙ c.in_ok-lo.was in
    (rw c.truncate.ensures.items (leaves_and_goes _ _ _ _ _ _ c.self.invariant.0 last c.index_mut-magazine.ensures.value some (ap entries_at c.take_newest.ensures.left) (c.is_empty.ensures.0 c.if-is_empty.true)).stored, rw c.truncate.ensures.capacity c.self.invariant.1)

pub invariant_of-self-else-is_empty : goal.invariant_of-self-else-is_empty
invariant_of-self-else-is_empty c =
    let last : c.in_ok-last.last + 1 ≡ length c.self.inside.magazines.items = omega arith in
    let some = sym c.take_newest.ensures.value ∙ c.in_ok-lo.was in
    ((leaves _ _ _ _ _ _ c.self.invariant.0 last c.index_mut-magazine.ensures.value some c.take_newest.ensures.left (λ none. true_is_not_false (c.is_empty.ensures.1 none) c.if-is_empty.false)).stored, c.self.invariant.1)

pub returns-then-is_empty-clause-taken : goal.returns-then-is_empty-clause-taken
returns-then-is_empty-clause-taken c =
    let last : c.in_ok-last.last + 1 ≡ length c.self.inside.magazines.items = omega arith in
    let some = sym c.take_newest.ensures.value ∙ c.in_ok-lo.was in
    rw (← c.self.view_is, c.truncate.ensures.items) (leaves_and_goes _ _ _ _ _ _ c.self.invariant.0 last c.index_mut-magazine.ensures.value some (ap entries_at c.take_newest.ensures.left) (c.is_empty.ensures.0 c.if-is_empty.true)).takes

pub returns-then-is_empty-clause-sound : goal.returns-then-is_empty-clause-sound
returns-then-is_empty-clause-sound c =
    let last : c.in_ok-last.last + 1 ≡ length c.self.inside.magazines.items = omega arith in
    let some = sym c.take_newest.ensures.value ∙ c.in_ok-lo.was in
    rw c.truncate.ensures.items (leaves_and_goes _ _ _ _ _ _ c.self.invariant.0 last c.index_mut-magazine.ensures.value some (ap entries_at c.take_newest.ensures.left) (c.is_empty.ensures.0 c.if-is_empty.true)).stored.sound

pub returns-else-is_empty-clause-taken : goal.returns-else-is_empty-clause-taken
returns-else-is_empty-clause-taken c =
    let last : c.in_ok-last.last + 1 ≡ length c.self.inside.magazines.items = omega arith in
    let some = sym c.take_newest.ensures.value ∙ c.in_ok-lo.was in
    rw (← c.self.view_is) (leaves _ _ _ _ _ _ c.self.invariant.0 last c.index_mut-magazine.ensures.value some c.take_newest.ensures.left (λ none. true_is_not_false (c.is_empty.ensures.1 none) c.if-is_empty.false)).takes

pub returns-else-is_empty-clause-sound : goal.returns-else-is_empty-clause-sound
returns-else-is_empty-clause-sound c =
    let last : c.in_ok-last.last + 1 ≡ length c.self.inside.magazines.items = omega arith in
    let some = sym c.take_newest.ensures.value ∙ c.in_ok-lo.was in
    (leaves _ _ _ _ _ _ c.self.invariant.0 last c.index_mut-magazine.ensures.value some c.take_newest.ensures.left (λ none. true_is_not_false (c.is_empty.ensures.1 none) c.if-is_empty.false)).stored.sound
