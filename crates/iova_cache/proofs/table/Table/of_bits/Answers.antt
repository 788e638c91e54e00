use Rattle.std.proofs.Common.{◌-◌, ◌≤◌, ◌^◌, arith}
use Rattle.std.proofs.Math.Pow.{pow_mono}
use Rattle.iova_cache.proofs.Tables.{IsTable-new, new_held, some_room}
use Rattle.iova_cache.proofs.table.Table.of_bits.Goals as goal

pub overflow_sub-result : goal.overflow_sub-result
overflow_sub-result c =
    let small : 2 ^ c.args.bits ≤ 2 ^ 20 = pow_mono c.requires.most in
    omega (arith, small, some_room c.args.bits c.requires.least)

pub overflow_sub-result-2 : goal.overflow_sub-result-2
overflow_sub-result-2 c =
    let small : 2 ^ c.args.bits ≤ 2 ^ 20 = pow_mono c.requires.most in
    omega (arith, small, some_room c.args.bits c.requires.least)

pub invariant_of-result : goal.invariant_of-result
invariant_of-result c =
    let small : 2 ^ c.args.bits ≤ 2 ^ 20 = pow_mono c.requires.most in
    (IsTable-new c.in_ok-buckets.buckets.items c.in_ok-strays.strays.items _ c.args.bits _ c.in_ok-buckets.ensures.value c.in_ok-strays.ensures.value (omega (arith, small)) (omega (arith, small, some_room c.args.bits c.requires.least)) c.requires.least c.requires.most, omega (arith, small))

pub returns-clause-value : goal.returns-clause-value
returns-clause-value c =
    let small : 2 ^ c.args.bits ≤ 2 ^ 20 = pow_mono c.requires.most in
    new_held c.in_ok-buckets.buckets.items _ c.args.bits (2 ^ c.args.bits) c.in_ok-buckets.ensures.value (omega (arith, small))
