use Rattle.std.proofs.Common.{◌≡◌, ◌==◌, ℕ, zero, suc, Bool, true, false, not, Option, Some, refl, arith, rules, subst}
use Rattle.std.proofs.lemmas.Bool.Decides.{nat_tests}
use Rattle.iova_c.specs.declared.answer.NumberAnswer.{NumberAnswer}
use Rattle.iova_c.specs.declared.cached.PagedCache.{PagedCache}
use Rattle.iova_range.specs.declared.limits.TheConstants.{FRAME_BYTES}
use Rattle.iova_c.specs.declared.slot.Paged.{Paged}
use Rattle.iova_c.specs.Slots.{is_set}
use Rattle.iova_c.specs.Caches.{MakeCall, MakesIn}
use Rattle.iova_c.proofs.exchanged.make.Goals as goal
use Rattle.iova_c.proofs.exchanged.make.Goals.{else-sac-via-then-sac+else-bytes-ne-FRAME_BYTES, else-sac-via-else-sac}

set_is : (n : ℕ) → not (n == 0) ≡ is_set n
set_is zero = refl
set_is (suc n) = let e : (suc n == 0) ≡ false = grind (arith, nat_tests) in rw e refl

made_in : (slot : Option Paged) (p q : Paged) (old new : Option PagedCache) (worker sac : ℕ) (a : NumberAnswer) → slot ≡ Some p
    → (is_set sac ≡ true → p.granule ≡ FRAME_BYTES) → MakesIn p old worker (not (sac == 0)) a q new → MakeCall slot old worker (is_set sac) a (Some q) new
made_in slot p q old new worker sac a is fits makes =
    let made = subst (λ (b : Bool). MakesIn p old worker b a q new) (set_is sac) makes in
    rw is (record { no_cycles = λ set other. absurd (other (fits set)); made = λ set. (q, (refl, made)) })

pub returns-else-sac : goal.returns-else-sac
returns-else-sac c =
    let set = set_is c.args.sac in
    let fits : is_set c.args.sac ≡ true → c.in-Some.paged.granule ≡ FRAME_BYTES = elim c.else-sac.branch [
      | else-sac-via-then-sac+else-bytes-ne-FRAME_BYTES w ↦ λ on. search rules
      | else-sac-via-else-sac w ↦ λ on. search rules
    ] in
    made_in c.args.slot.now.domain c.in-Some.paged c.make_in.new.paged c.args.cache.now.cache c.make_in.new.cache.cache c.args.worker c.args.sac c.make_in.result
    c.in-Some.is fits c.make_in.ensures
