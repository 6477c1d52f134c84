-- Table records: the label that their rules give a second field, and the tests that every request on a table makes. Assumes nothing.
use Rattle.std.specs.Prelude.{ℕ, cond, List, [], ◌∷◌, length, ℤ, Some, None, Option, nat_lt}
use Rattle.std.specs.List.{slice_get}
use Rattle.labels.specs.Kind.{Kind}
use Rattle.sessions.specs.declared.Session.{Session}
use Rattle.sessions.specs.declared.Refusal.{Refusal}
use Rattle.sessions.specs.declared.Refusal.TheVariants.{NoTable, FirstAboveTable}
use Rattle.sessions.specs.Refusals.{tests}
use Rattle.sessions.specs.Steps.{if_open}
use Rattle.stores.specs.Tables.{Table}
use Rattle.tables.specs.declared.records.SecondRule.{SecondRule}
use Rattle.tables.specs.declared.records.SecondRule.TheVariants.{Fixed, Own, Meet, Join}
use Rattle.tables.specs.declared.records.TableRecord.{TableRecord}
use Rattle.tables.specs.declared.records.Entry.{Entry}

-- The record of a table that the store has.
abbrev pub record_of : {L : Type 0} → List (TableRecord L) → List Table → ℕ → Option (TableRecord L)
record_of rs ts n = cond (nat_lt n (length ts)) (slice_get rs n) None

-- A label, and the record of a table.
abbrev pub entry : {L : Type 0} → L → TableRecord L → Entry L
entry c r = record { label = c; «record» = r }

-- What is asked of a table by its record; refusal 3 where there is none.
abbrev pub if_table : {L X : Type 0} → Option (TableRecord L) → L → (Refusal L → X) → (TableRecord L → X) → X
if_table None c stop ask = stop (NoTable c)
if_table (Some r) c stop ask = ask r

module _ {L : Type 0} (k : Kind L) where
  -- The label of the second field of a row whose first field is v.
  abbrev pub second_label : SecondRule L → ℤ → L
  second_label (Fixed a) v = a
  second_label Own v = k.own v
  second_label (Meet a) v = k.meet a (k.own v)
  second_label (Join a) v = k.join a (k.own v)

  -- What a session asks of a table, by its label and clearance and the table's record, after the tests that every such request makes.
  abbrev pub on_table : {X : Type 0} → Session L → List (TableRecord L) → List Table → ℕ → (Refusal L → X) → (L → L → TableRecord L → X) → X
  on_table s rs ts n stop ask =
      if_open s.standing stop (λ c d.
      if_table (record_of rs ts n) c stop (λ r.
      tests ((k.flows r.first r.table, FirstAboveTable c) ∷ []) stop
      (ask c d r)))
