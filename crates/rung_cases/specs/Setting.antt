-- The records that the cases are played on, a blank place, and a place in numbers. Assumes nothing.
use Rattle.std.specs.Prelude.{ℕ, ℤ, List, [], ◌∷◌, neg_ℤ, pos}
use Rattle.labels.specs.declared.Rung.{Rung}
use Rattle.labels.specs.Rung.{rung}
use Rattle.tables.specs.declared.queries.Place.{Place}
use Rattle.tables.specs.declared.records.SecondRule.TheVariants.{Fixed, Own, Meet, Join}
use Rattle.tables.specs.declared.records.TableRecord.{TableRecord}
use Rattle.rung_requests.specs.Requests.{under}
use Rattle.sessions.specs.declared.Sealed.{Sealed}

-- Each record has the label of its table, the label of its first fields, and the rule for its second fields.
abbrev pub case_records : List (TableRecord Rung)
case_records =
    record { table = rung 2; first = rung 1; second = Own }
    ∷ record { table = rung 0; first = rung 0; second = Fixed (rung 5) }
    ∷ record { table = rung 1; first = rung 3; second = Own }
    ∷ record { table = rung 3; first = rung 0; second = Meet (rung 4) }
    ∷ record { table = rung 1; first = rung 1; second = Join (rung 2) }
    ∷ record { table = rung 0; first = rung 0; second = Own }
    ∷ []

-- A blank place has the key 99, and -1 under 0 in both fields.
abbrev pub blank : Place Rung
blank = record { key = 99; first = under 0 (neg_ℤ (pos 1)); second = under 0 (neg_ℤ (pos 1)) }

-- The number of the label of a sealed value, and the value.
abbrev pub numbers_under : Sealed Rung → ℕ × ℤ
numbers_under s = (s.label.number, s.value)

-- The key of a place, and its two sealed values in numbers.
abbrev pub numbers_in : Place Rung → ℕ × (ℕ × ℤ) × (ℕ × ℤ)
numbers_in p = (p.key, numbers_under p.first, numbers_under p.second)
