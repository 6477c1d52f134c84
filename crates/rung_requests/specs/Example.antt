-- The tables and the requests of the worked example. Assumes nothing.
use Rattle.std.specs.Prelude.{List, [], ◌∷◌, ℤ, pos, neg_ℤ}
use Rattle.labels.specs.declared.Rung.{Rung}
use Rattle.labels.specs.Rung.{rung}
use Rattle.tables.specs.declared.records.SecondRule.TheVariants.{Fixed, Own}
use Rattle.tables.specs.declared.records.TableRecord.{TableRecord}
use Rattle.monitor.specs.declared.requests.Ask.TheVariants.{Open, Unseal, Select, Insert, Delete, Update}
use Rattle.monitor.specs.declared.requests.Request.{Request}
use Rattle.rung_requests.specs.Requests.{under, every, only_key, low_seconds, asked_of}

-- Table 0: label 2, first fields 1, second fields by their first. Table 1: label 0, first fields 0, second fields 5.
abbrev pub wells : TableRecord Rung
wells = record { table = rung 2; first = rung 1; second = Own }

abbrev pub notes : TableRecord Rung
notes = record { table = rung 0; first = rung 0; second = Fixed (rung 5) }

abbrev pub table_records : List (TableRecord Rung)
table_records = wells ∷ notes ∷ []

-- The fifteen requests. The value v is inserted under 4 by the third.
abbrev pub requests_with : ℤ → List (Request Rung)
requests_with v =
    asked_of 0 (Open (rung 0) (rung 7))
    ∷ asked_of 1 (Open (rung 0) (rung 3))
    ∷ asked_of 0 (Insert 0 (under 1 (pos 4)) (under 4 v))
    ∷ asked_of 1 (Select 0 low_seconds 4)
    ∷ asked_of 1 (Select 0 every 4)
    ∷ asked_of 1 (Unseal (under 4 (neg_ℤ (pos 250))))
    ∷ asked_of 1 (Insert 1 (under 0 (pos 1)) (under 0 (pos 1)))
    ∷ asked_of 0 (Delete 0 low_seconds)
    ∷ asked_of 0 (Update 0 only_key (under 1 (pos 3)) (under 0 (pos 9)))
    ∷ asked_of 0 (Insert 0 (under 2 (pos 4)) (under 0 (pos 9)))
    ∷ asked_of 0 (Open (rung 1) (rung 7))
    ∷ asked_of 0 (Update 0 every (under 1 (pos 3)) (under 0 (pos 9)))
    ∷ asked_of 0 (Delete 0 only_key)
    ∷ asked_of 0 (Insert 0 (under 0 (pos 0)) (under 2 (pos 5)))
    ∷ asked_of 0 (Insert 0 (under 0 (pos 2)) (under 2 (pos 5)))
    ∷ []
