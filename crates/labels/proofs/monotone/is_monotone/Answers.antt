use Rattle.std.proofs.Common.{refl, rules, tests}
use Rattle.labels.proofs.Below.{all_decides}
use Rattle.labels.specs.Consent.{RisesFrom}
use Rattle.labels.proofs.monotone.is_monotone.Goals as goal

pub returns : goal.returns
returns c = all_decides (RisesFrom c.args.word) (λ n b q k. search (rules, tests)) c.all.ensures.ran refl
