use Rattle.std.proofs.Common.{◌≡◌, refl, rules, tests}
use Rattle.labels.proofs.Below.{any_decides}
use Rattle.labels.specs.Words.{bit, Within}
use Rattle.labels.proofs.formula.is_smallest.Goals as goal

pub returns-then-has_bit : goal.returns-then-has_bit
returns-then-has_bit c =
    let d = any_decides (λ m. Within m c.args.set × (bit c.args.word m ≡ 1)) (λ m b q k. search (rules, tests)) c.any.ensures.ran refl in
    (λ e. (search rules, λ m low inside one. d.0 e m low (inside, one)), λ h. d.1 (λ m low p. h.1 m low p.0 p.1))
