use Rattle.std.proofs.Common.{suc, ◌≡◌, ◌-◌, ◌<◌, ◌≤◌, ◌==◌, true, false, length, get_or, Some, None, position, remove, subst, sym, refl, arith}
use Rattle.iova_model.specs.declared.flight.Flight.{Flight}
use Rattle.iova_model.specs.Flushes.{Flushes, is_in_flight, NumbersRise}
use Rattle.iova_flush.specs.contracts.flights.Flights.{the_view}
use Rattle.iova_flush.proofs.Sound.{finish_reaches}
use Rattle.iova_flush.proofs.Taken.{IsFirst-from_position, is_in_flight-first, is_in_flight-none, credit_of-first, credit-le-credit_sum, credits-le-credit_sum, ended-well, ended-passed_on, ended-owed, AreSound-well, AreSound-passed_on, AreSound-owed}
use Rattle.iova_flush.proofs.flights.Flights.end.Goals as goal

pub returns-in_default-clause-known : goal.returns-in_default-clause-known
returns-in_default-clause-known c =
    let nowhere : position (λ (f : Flight). f.number == c.args.no) c.self.inside.in_flight.items ≡ None = cc in
    let none : is_in_flight c.args.no c.args.self.now.in_flight ≡ false = rw (← c.self.view_is) (is_in_flight-none c.args.no c.self.inside.in_flight.items nowhere) in
    sym none

pub overflow_add-self : goal.overflow_add-self
overflow_add-self c =
    let found : position (λ (f : Flight). f.number == c.args.no) c.self.inside.in_flight.items ≡ Some c.in-Some.place = cc in
    let first = IsFirst-from_position c.args.no c.self.inside.in_flight.items c.in-Some.place c.remove-flight.result found c.remove-flight.ensures.value in
    omega (arith, credit-le-credit_sum c.args.no c.self.inside.in_flight.items c.in-Some.place c.remove-flight.result first)

pub invariant_of-self : goal.invariant_of-self
invariant_of-self c =
    let found : position (λ (f : Flight). f.number == c.args.no) c.self.inside.in_flight.items ≡ Some c.in-Some.place = cc in
    let first = IsFirst-from_position c.args.no c.self.inside.in_flight.items c.in-Some.place c.remove-flight.result found c.remove-flight.ensures.value in
    rw (c.max-self-inside.ensures, c.remove-flight.ensures.items) (AreSound-well c.self.invariant c.args.no c.in-Some.place c.remove-flight.result first)

pub overflow_add-later : goal.overflow_add-later
overflow_add-later c =
    let found : position (λ (f : Flight). f.number == c.args.no) c.self.inside.in_flight.items ≡ Some c.in-Some.place = cc in
    let first = IsFirst-from_position c.args.no c.self.inside.in_flight.items c.in-Some.place c.remove-flight.result found c.remove-flight.ensures.value in
    let here : c.in-Some-get_mut.later.now ≡ get_or (remove c.self.inside.in_flight.items c.in-Some.place) c.in-Some.place c.in-Some-get_mut.later.now = rw (← c.remove-flight.ensures.items) c.in-Some-get_mut.ensures.value in
    let within : c.in-Some.place < length c.remove-flight.new.self.items = c.in-Some-get_mut.ensures.variant.0 refl in
    let more : suc c.in-Some.place < length c.self.inside.in_flight.items = omega (arith, c.remove-flight.ensures.len) in
    omega (arith, credits-le-credit_sum c.args.no c.self.inside.in_flight.items c.in-Some.place c.remove-flight.result c.in-Some-get_mut.later.now first more here)

pub invariant_of-self-in-Some-get_mut : goal.invariant_of-self-in-Some-get_mut
invariant_of-self-in-Some-get_mut c =
    let found : position (λ (f : Flight). f.number == c.args.no) c.self.inside.in_flight.items ≡ Some c.in-Some.place = cc in
    let first = IsFirst-from_position c.args.no c.self.inside.in_flight.items c.in-Some.place c.remove-flight.result found c.remove-flight.ensures.value in
    let here : c.in-Some-get_mut.later.now ≡ get_or (remove c.self.inside.in_flight.items c.in-Some.place) c.in-Some.place c.in-Some-get_mut.later.now = rw (← c.remove-flight.ensures.items) c.in-Some-get_mut.ensures.value in
    let within : c.in-Some.place < length c.remove-flight.new.self.items = c.in-Some-get_mut.ensures.variant.0 refl in
    let more : suc c.in-Some.place < length c.self.inside.in_flight.items = omega (arith, c.remove-flight.ensures.len) in
    rw c.remove-flight.ensures.items (AreSound-passed_on c.self.invariant c.args.no c.in-Some.place c.remove-flight.result c.in-Some-get_mut.later.now first more here)

pub overflow_add-self-in_default-get_mut : goal.overflow_add-self-in_default-get_mut
overflow_add-self-in_default-get_mut c =
    let found : position (λ (f : Flight). f.number == c.args.no) c.self.inside.in_flight.items ≡ Some c.in-Some.place = cc in
    let first = IsFirst-from_position c.args.no c.self.inside.in_flight.items c.in-Some.place c.remove-flight.result found c.remove-flight.ensures.value in
    omega (arith, credit-le-credit_sum c.args.no c.self.inside.in_flight.items c.in-Some.place c.remove-flight.result first)

pub invariant_of-self-in_default-get_mut : goal.invariant_of-self-in_default-get_mut
invariant_of-self-in_default-get_mut c =
    let found : position (λ (f : Flight). f.number == c.args.no) c.self.inside.in_flight.items ≡ Some c.in-Some.place = cc in
    let first = IsFirst-from_position c.args.no c.self.inside.in_flight.items c.in-Some.place c.remove-flight.result found c.remove-flight.ensures.value in
    let last : length c.self.inside.in_flight.items ≤ suc c.in-Some.place = grind (arith, c.remove-flight.ensures.len, c.in_default-get_mut.ensures.variant) in
    rw c.remove-flight.ensures.items (AreSound-owed c.self.invariant c.args.no c.in-Some.place c.remove-flight.result first last)

pub returns-then-ok-clause-known : goal.returns-then-ok-clause-known
returns-then-ok-clause-known c =
    let found : position (λ (f : Flight). f.number == c.args.no) c.self.inside.in_flight.items ≡ Some c.in-Some.place = cc in
    let first = IsFirst-from_position c.args.no c.self.inside.in_flight.items c.in-Some.place c.remove-flight.result found c.remove-flight.ensures.value in
    let is : is_in_flight c.args.no c.args.self.now.in_flight ≡ true = rw (← c.self.view_is) (is_in_flight-first c.args.no c.self.inside.in_flight.items c.in-Some.place c.remove-flight.result first) in
    sym is

pub returns-then-ok-clause-ended : goal.returns-then-ok-clause-ended
returns-then-ok-clause-ended c =
    let found : position (λ (f : Flight). f.number == c.args.no) c.self.inside.in_flight.items ≡ Some c.in-Some.place = cc in
    let first = IsFirst-from_position c.args.no c.self.inside.in_flight.items c.in-Some.place c.remove-flight.result found c.remove-flight.ensures.value in
    rw (← c.self.view_is, c.if-ok.true, c.max-self-inside.ensures, c.remove-flight.ensures.items) (sym (ended-well (the_view c.self.inside) c.args.no c.in-Some.place c.remove-flight.result first))

pub returns-then-ok-clause-reaches : goal.returns-then-ok-clause-reaches
returns-then-ok-clause-reaches c =
    let found : position (λ (f : Flight). f.number == c.args.no) c.self.inside.in_flight.items ≡ Some c.in-Some.place = cc in
    let first = IsFirst-from_position c.args.no c.self.inside.in_flight.items c.in-Some.place c.remove-flight.result found c.remove-flight.ensures.value in
    λ ok oldest.
    let credit = credit_of-first c.args.no c.self.inside.in_flight.items c.in-Some.place c.remove-flight.result first in
    let sum = finish_reaches (the_view c.self.inside) c.args.no c.self.invariant (is_in_flight-first c.args.no c.self.inside.in_flight.items c.in-Some.place c.remove-flight.result first) (subst (λ (v : Flushes). NumbersRise (c.args.no - 1) v.in_flight v.start) (sym c.self.view_is) oldest) in
    omega arith

pub returns-in-Some-get_mut-clause-known : goal.returns-in-Some-get_mut-clause-known
returns-in-Some-get_mut-clause-known c =
    let found : position (λ (f : Flight). f.number == c.args.no) c.self.inside.in_flight.items ≡ Some c.in-Some.place = cc in
    let first = IsFirst-from_position c.args.no c.self.inside.in_flight.items c.in-Some.place c.remove-flight.result found c.remove-flight.ensures.value in
    let is : is_in_flight c.args.no c.args.self.now.in_flight ≡ true = rw (← c.self.view_is) (is_in_flight-first c.args.no c.self.inside.in_flight.items c.in-Some.place c.remove-flight.result first) in
    sym is

pub returns-in-Some-get_mut-clause-ended : goal.returns-in-Some-get_mut-clause-ended
returns-in-Some-get_mut-clause-ended c =
    let found : position (λ (f : Flight). f.number == c.args.no) c.self.inside.in_flight.items ≡ Some c.in-Some.place = cc in
    let first = IsFirst-from_position c.args.no c.self.inside.in_flight.items c.in-Some.place c.remove-flight.result found c.remove-flight.ensures.value in
    let here : c.in-Some-get_mut.later.now ≡ get_or (remove c.self.inside.in_flight.items c.in-Some.place) c.in-Some.place c.in-Some-get_mut.later.now = rw (← c.remove-flight.ensures.items) c.in-Some-get_mut.ensures.value in
    let within : c.in-Some.place < length c.remove-flight.new.self.items = c.in-Some-get_mut.ensures.variant.0 refl in
    let more : suc c.in-Some.place < length c.self.inside.in_flight.items = omega (arith, c.remove-flight.ensures.len) in
    rw (← c.self.view_is, c.if-ok.false, c.remove-flight.ensures.items) (sym (ended-passed_on (the_view c.self.inside) c.args.no c.in-Some.place c.remove-flight.result c.in-Some-get_mut.later.now first more here))

pub returns-in_default-get_mut-clause-known : goal.returns-in_default-get_mut-clause-known
returns-in_default-get_mut-clause-known c =
    let found : position (λ (f : Flight). f.number == c.args.no) c.self.inside.in_flight.items ≡ Some c.in-Some.place = cc in
    let first = IsFirst-from_position c.args.no c.self.inside.in_flight.items c.in-Some.place c.remove-flight.result found c.remove-flight.ensures.value in
    let is : is_in_flight c.args.no c.args.self.now.in_flight ≡ true = rw (← c.self.view_is) (is_in_flight-first c.args.no c.self.inside.in_flight.items c.in-Some.place c.remove-flight.result first) in
    sym is

pub returns-in_default-get_mut-clause-ended : goal.returns-in_default-get_mut-clause-ended
returns-in_default-get_mut-clause-ended c =
    let found : position (λ (f : Flight). f.number == c.args.no) c.self.inside.in_flight.items ≡ Some c.in-Some.place = cc in
    let first = IsFirst-from_position c.args.no c.self.inside.in_flight.items c.in-Some.place c.remove-flight.result found c.remove-flight.ensures.value in
    let last : length c.self.inside.in_flight.items ≤ suc c.in-Some.place = grind (arith, c.remove-flight.ensures.len, c.in_default-get_mut.ensures.variant) in
    rw (← c.self.view_is, c.if-ok.false, c.remove-flight.ensures.items) (sym (ended-owed (the_view c.self.inside) c.args.no c.in-Some.place c.remove-flight.result first last))
