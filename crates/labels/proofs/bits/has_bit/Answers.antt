use Rattle.std.proofs.Common.{◌≡◌, ◌/◌, ◌^◌, pow_mono, arith}
use Rattle.std.proofs.Math.Nat.{div-eq_of_lt}
use Rattle.labels.proofs.bits.has_bit.Goals as goal

pub returns-in-None : goal.returns-in-None
returns-in-None c =
    let power = pow_mono {i = 64} {j = c.args.n} (omega arith) in
    let none : c.args.word / 2 ^ c.args.n ≡ 0 = div-eq_of_lt (omega arith) in
    rw none
