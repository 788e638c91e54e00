use Rattle.std.proofs.Common.{◌≡◌, ◌&&◌, true, false, refl, arith}
use Rattle.iova_range.specs.declared.limits.TheConstants.{SAC_LIMIT}
use Rattle.std.specs.Prelude.{nat_lt}
use Rattle.std.proofs.lemmas.Bool.Decides.{nat_tests}
use Rattle.iova_model.specs.Next.{with_caches}
use Rattle.iova_core.proofs.Walks.{comes_plain, comes_second, stands_exchanged}
use Rattle.iova_core.proofs.walk.walk_on.Goals as goal
use Rattle.iova_core.proofs.walk.walk_on.Goals.{then-sac+then-limit-gt-SAC_LIMIT+in-Nowhere, else-sac, else-sac-via-then-sac+else-limit-gt-SAC_LIMIT, else-sac-via-else-sac}

pub returns-clause-comes : goal.returns-clause-comes
returns-clause-comes c s stands = elim c.if-sac.branch [
  | then-sac+then-limit-gt-SAC_LIMIT+in-Nowhere w ↦
      let above : nat_lt SAC_LIMIT c.args.limit ≡ true = grind (arith, nat_tests) in
      let low : (c.args.sac && nat_lt SAC_LIMIT c.args.limit) ≡ true = rw (w.if-sac.true, above) refl in
      let mid = w.try_once.new.caches in
      let stands' = stands_exchanged c.args.tree.now w.try_once.new.tree c.args.caches.now mid s stands w.in-Nowhere.ensures.backed in
      comes_second s c.args.w c.args.sac c.args.size c.args.limit c.try_once-2.result mid.caches c.try_once-2.new.caches.caches low c.try_once-2.ensures.point (w.in-Nowhere.ensures.comes s stands)
      (c.try_once-2.ensures.comes (with_caches s mid.caches) (rw (w.tree-is, w.caches-is) stands'))
  | else-sac w ↦ elim w.else-sac.branch [
    | else-sac-via-then-sac+else-limit-gt-SAC_LIMIT w' ↦
        let above : nat_lt SAC_LIMIT c.args.limit ≡ false = grind (arith, nat_tests) in
        let plain : (c.args.sac && nat_lt SAC_LIMIT c.args.limit) ≡ false = rw (w'.if-sac.true, above) refl in
        comes_plain s c.args.w c.args.sac c.args.size c.args.limit c.try_once-2.result c.try_once-2.new.caches.caches plain (c.try_once-2.ensures.comes s (rw (w.tree-is, w.caches-is) stands))
    | else-sac-via-else-sac w' ↦
        let plain : (c.args.sac && nat_lt SAC_LIMIT c.args.limit) ≡ false = rw w'.if-sac.false refl in
        comes_plain s c.args.w c.args.sac c.args.size c.args.limit c.try_once-2.result c.try_once-2.new.caches.caches plain (c.try_once-2.ensures.comes s (rw (w.tree-is, w.caches-is) stands))
  ]
]
