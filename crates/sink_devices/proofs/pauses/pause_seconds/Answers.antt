use Rattle.std.proofs.Common.{◌≤◌, ◌^◌, arith}
use Rattle.std.proofs.Math.Nat.{pow-le-pow_right}
use Rattle.sink_devices.proofs.pauses.pause_seconds.Goals as goal

pub returns-then-tries-lt5 : goal.returns-then-tries-lt5
returns-then-tries-lt5 c =
    let few : 2 ^ c.args.tries ≤ 2 ^ 4 = pow-le-pow_right {n = 2} (omega arith) {i = c.args.tries} {j = 4} (omega arith) in
    omega (arith, few)

pub returns-else-tries-lt5 : goal.returns-else-tries-lt5
returns-else-tries-lt5 c =
    let many : 2 ^ 5 ≤ 2 ^ c.args.tries = pow-le-pow_right {n = 2} (omega arith) {i = 5} {j = c.args.tries} (omega arith) in
    omega (arith, many)
