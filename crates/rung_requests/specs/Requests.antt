-- The parts of a request with rung labels. Assumes nothing.
use Rattle.std.specs.Prelude.{ℕ, ℤ, pos, neg_ℤ, Some, None, Option}
use Rattle.labels.specs.declared.Rung.{Rung}
use Rattle.labels.specs.Rung.{rung, own}
use Rattle.sessions.specs.declared.Sealed.{Sealed}
use Rattle.sessions.specs.Steps.{sealed_value}
use Rattle.tables.specs.declared.records.SecondRule.{SecondRule}
use Rattle.tables.specs.declared.records.TableRecord.{TableRecord}
use Rattle.tables.specs.declared.queries.Range.{Range}
use Rattle.tables.specs.declared.queries.Predicate.{Predicate}
use Rattle.tables.specs.declared.queries.Place.{Place}
use Rattle.monitor.specs.declared.requests.Ask.{Ask}
use Rattle.monitor.specs.declared.requests.Request.{Request}

-- A value under a rung.
abbrev pub under : ℕ → ℤ → Sealed Rung
under a v = sealed_value (rung a) v

-- No range; keys from 1 to 1; second fields from -300 to -200.
abbrev pub every : Predicate
every = record { key = None; first = None; second = None }

abbrev pub range : ℤ → ℤ → Option Range
range low high = Some (record { low = low; high = high })

abbrev pub only_key : Predicate
only_key = record { key = range (pos 1) (pos 1); first = None; second = None }

abbrev pub low_seconds : Predicate
low_seconds = record { key = None; first = None; second = range (neg_ℤ (pos 300)) (neg_ℤ (pos 200)) }

-- The record of a table, by the numbers of its two labels and the rule for second fields.
abbrev pub ruled : ℤ → ℤ → SecondRule Rung → TableRecord Rung
ruled t f s = record { table = own t; first = own f; second = s }

-- What is asked of a session of a number.
abbrev pub asked_of : ℕ → Ask Rung → Request Rung
asked_of i a = record { session = i; ask = a }

-- A place with no row in it has the key 0, and 0 under 0 in both fields.
abbrev pub no_place : Place Rung
no_place = record { key = 0; first = under 0 (pos 0); second = under 0 (pos 0) }
