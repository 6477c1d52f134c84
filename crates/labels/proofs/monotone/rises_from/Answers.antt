use Rattle.std.proofs.Common.{◌≡◌, refl, rules, tests, arith}
use Rattle.std.proofs.lemmas.Nat.{and_le_r}
use Rattle.labels.proofs.Below.{all_decides_from}
use Rattle.labels.specs.Words.{bit, Within}
use Rattle.labels.proofs.monotone.rises_from.Goals as goal

pub returns-else-not-has_bit : goal.returns-else-not-has_bit
returns-else-not-has_bit c =
    let n = c.args.n in
    let one : bit c.args.word n ≡ 1 = search (rules, tests) in
    let d = all_decides_from (λ m. Within n m → bit c.args.word m ≡ 1) (λ m b q k. search (rules, tests)) c.all.ensures.ran refl in
    (λ e m low inside set. d.0 e m (omega (arith, inside, and_le_r n m)) low inside, λ h. d.1 (λ m from low inside. h m low inside one))
