use Rattle.std.proofs.Common.{◌≤◌, ◌+◌, ◌*◌, ◌^◌, arith}
use Rattle.std.proofs.Math.Nat.{mul-le-mul, pow-le-pow_right}
use Rattle.iova_mag.proofs.Frames.{length-le}
use Rattle.iova_mag.proofs.worker.Pair.frames.Goals as goal

pub returns-clause-few : goal.returns-clause-few
returns-clause-few c =
    let loaded = length-le _ c.len.ensures.sound in
    let previous = length-le _ c.len-2.ensures.sound in
    let both : c.len.result + c.len-2.result ≤ 256 = omega arith in
    let order : c.args.order ≤ 5 = omega arith in
    let size : 2 ^ c.args.order ≤ 32 = pow-le-pow_right (omega arith) order in
    let frames : (c.len.result + c.len-2.result) * 2 ^ c.args.order ≤ 256 * 32 = mul-le-mul both size in
    omega arith
