use Rattle.std.proofs.Common.{◌≤◌, length, arith}
use Rattle.std.proofs.lemmas.Nat.{mul-le}
use Rattle.answer.proofs.run.run.Goals as goal

pub overflow_mul-states : goal.overflow_mul-states
overflow_mul-states g c =
    let few = (g.S.System.sound c.args.system.now).few in
    let rows : length c.as_chunks-2.result.0.now ≤ 64 = omega arith in
    let states : c.count-states.result ≤ 65536 = omega (arith, few) in
    omega (arith, mul-le c.count-states.result (length c.as_chunks-2.result.0.now) 65536 64 states rows)
