use Rattle.labels.specs.Monotones.{party_words_lem}
use Rattle.labels.proofs.consent.Consent.party_words.Goals as goal

pub returns : goal.returns
returns c = party_words_lem
