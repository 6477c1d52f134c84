-- Predicates, and the label of what they look at. Assumes nothing.
use Rattle.std.specs.Prelude.{Bool, true, cond, not, ◌&&◌, List, ℤ, pos, Some, None, fold, filter, Option, int_le}
use Rattle.labels.specs.Kind.{Kind}
use Rattle.sessions.specs.Steps.{sealed_value}
use Rattle.stores.specs.declared.rows.Row.{Row}
use Rattle.stores.specs.Changes.{row}
use Rattle.tables.specs.declared.records.SecondRule.{SecondRule}
use Rattle.tables.specs.declared.records.TableRecord.{TableRecord}
use Rattle.tables.specs.declared.queries.Range.{Range}
use Rattle.tables.specs.declared.queries.Predicate.{Predicate}
use Rattle.tables.specs.declared.queries.Place.{Place}
use Rattle.tables.specs.Records.{second_label}

-- A range holds a value between its ends, both counted; an absent one holds every value.
abbrev pub holds : Option Range → ℤ → Bool
holds None v = true
holds (Some r) v = int_le r.low v && int_le v r.high

-- A row matches when each range holds its field.
abbrev pub matches : Predicate → Row → Bool
matches p r = holds p.key (pos r.key) && (holds p.first r.first && holds p.second r.second)

-- The rows that match, and those that do not, in their order.
abbrev pub matching : Predicate → List Row → List Row
matching p rs = filter (matches p) rs

abbrev pub others : Predicate → List Row → List Row
others p rs = filter (λ r. not (matches p r)) rs

-- A row that matches gets both values and keeps its key; every other row stays as it is.
abbrev pub rewritten : Predicate → ℤ → ℤ → Row → Row
rewritten p f g r = cond (matches p r) (row r.key f g) r

module _ {L : Type 0} (k : Kind L) where
  -- A label joined with that of a row's second field.
  abbrev pub join_second : SecondRule L → L → Row → L
  join_second rule a r = k.join a (second_label k rule r.first)

  -- The labels of all second fields of a table, joined onto the lowest.
  abbrev pub seconds_label : SecondRule L → List Row → L
  seconds_label rule rs = fold (join_second rule) k.lowest rs

  -- The label of what a query looks at: the lowest where no second range is given, otherwise that of all second fields.
  abbrev pub query_label : SecondRule L → Option Range → List Row → L
  query_label rule None rs = k.lowest
  query_label rule (Some range) rs = seconds_label rule rs

  -- A row as it is answered: its key, and its fields sealed.
  abbrev pub place : TableRecord L → Row → Place L
  place t r = record { key = r.key; first = sealed_value t.first r.first; second = sealed_value (second_label k t.second r.first) r.second }
