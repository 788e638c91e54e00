use Rattle.std.specs.Prelude.{None}
use Rattle.iova_keep.proofs.Rounds.{no_round}
use Rattle.iova_keep.proofs.Flushing.{place_at_end, ends_any}
use Rattle.iova_keep.proofs.Releases.{known_stays, known_freed, known_not_freed}
use Rattle.iova_keep.proofs.release.follow.Goals as goal

pub returns-in_default-clause-domain : goal.returns-in_default-clause-domain
returns-in_default-clause-domain g c = rw c.in_default.is (known_stays _ _ _ _ _)

pub returns-then-release_last-clause-domain : goal.returns-then-release_last-clause-domain
returns-then-release_last-clause-domain g c =
    let k = rw c.number.ensures at c.ask-ok.ensures.calls in
    rw c.in-Some.is (known_freed _ _ c.args.seat.now _ _ _ c.release_last.result _ _ _ c.if-release_last.true k (rw c.ask-ok.ensures.seat at c.release_last.ensures.domain))

pub returns-else-release_last-clause-domain : goal.returns-else-release_last-clause-domain
returns-else-release_last-clause-domain g c =
    let k = rw c.number.ensures at c.ask-ok.ensures.calls in
    rw c.in-Some.is (known_not_freed _ _ c.args.seat.now _ _ _ c.release_last.result _ _ _ c.if-release_last.false k (rw c.ask-ok.ensures.seat at c.release_last.ensures.domain))

pub returns-then-release_last-clause-place : goal.returns-then-release_last-clause-place
returns-then-release_last-clause-place g c =
    place_at_end c.in-Some.no c.ask-ok.result None _ _ _ c.number.result _ _ c.ask-ok.ensures.seat c.release_last.ensures.place c.ask-ok.ensures.calls

pub returns-then-release_last-clause-rounds : goal.returns-then-release_last-clause-rounds
returns-then-release_last-clause-rounds g c =
    let k = rw c.number.ensures at c.ask-ok.ensures.calls in
    rw c.in-Some.is (λ first is. ends_any _ c.in-Some.no c.ask-ok.result None None first _ _ _ _ _ _ _ is c.ask-ok.ensures.seat c.release_last.ensures.place
    tt (λ n e. cc) k (no_round _ _ _))

pub returns-else-release_last-clause-place : goal.returns-else-release_last-clause-place
returns-else-release_last-clause-place g c =
    place_at_end c.in-Some.no c.ask-ok.result None _ _ _ c.number.result _ _ c.ask-ok.ensures.seat c.release_last.ensures.place c.ask-ok.ensures.calls

pub returns-else-release_last-clause-rounds : goal.returns-else-release_last-clause-rounds
returns-else-release_last-clause-rounds g c =
    let k = rw c.number.ensures at c.ask-ok.ensures.calls in
    rw c.in-Some.is (λ first is. ends_any _ c.in-Some.no c.ask-ok.result None None first _ _ _ _ _ _ _ is c.ask-ok.ensures.seat c.release_last.ensures.place
    tt (λ n e. cc) k (no_round _ _ _))
