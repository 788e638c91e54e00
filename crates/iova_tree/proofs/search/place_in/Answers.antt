use Rattle.std.proofs.Common.{◌≡◌, ◌-◌, ◌*◌, ◌/◌, ◌^◌, ◌<◌, ◌≤◌, true, false, bit_and, refl, arith}
use Rattle.std.specs.Prelude.{nat_lt}
use Rattle.std.proofs.lemmas.Bool.Decides.{nat_tests}
use Rattle.iova_tree.proofs.Multiples.{cleared}
use Rattle.iova_tree.proofs.search.place_in.Goals as goal

pub returns-then-lo-from : goal.returns-then-lo-from
returns-then-lo-from c =
    let w = c.args.wanted.now in
    let n = c.args.until - w.size in
    let is : w.align ≡ 2 ^ c.requires.0 = c.requires.1 in
    let e : n - bit_and n (w.align - 1) ≡ n / w.align * w.align = rw is (cleared n c.requires.0) in
    let fits : nat_lt c.args.until w.size ≡ false = grind (arith, nat_tests) in
    let low : n / w.align * w.align < c.args.from = rw e at c.if-lo-from.true in
    let test : nat_lt (n / w.align * w.align) c.args.from ≡ true = grind (arith, nat_tests) in
    rw (fits, test) refl

pub returns-else-lo-from : goal.returns-else-lo-from
returns-else-lo-from c =
    let w = c.args.wanted.now in
    let n = c.args.until - w.size in
    let is : w.align ≡ 2 ^ c.requires.0 = c.requires.1 in
    let e : n - bit_and n (w.align - 1) ≡ n / w.align * w.align = rw is (cleared n c.requires.0) in
    let fits : nat_lt c.args.until w.size ≡ false = grind (arith, nat_tests) in
    let high : c.args.from ≤ n / w.align * w.align = rw e at c.if-lo-from.false in
    let test : nat_lt (n / w.align * w.align) c.args.from ≡ false = grind (arith, nat_tests) in
    rw (fits, test, e) refl
