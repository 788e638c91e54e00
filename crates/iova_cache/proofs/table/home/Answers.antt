use Rattle.std.proofs.Common.{◌*◌, ◌%◌, ◌/◌, ◌^◌}
use Rattle.std.proofs.lemmas.Nat.{and_mask}
use Rattle.std.specs.Int.Bits.{mask_lt}
use Rattle.iova_cache.proofs.table.home.Goals as goal

pub returns-clause-is : goal.returns-clause-is
returns-clause-is c = rw c.requires (and_mask (c.args.lo * 11400714819323198485 % 18446744073709551616 / 2 ^ 44) c.args._bits)

pub returns-clause-within : goal.returns-clause-within
returns-clause-within c = rw c.requires (mask_lt (c.args.lo * 11400714819323198485 % 18446744073709551616 / 2 ^ 44) c.args._bits)
