-- What a walk or a pass makes of one row. Assumes nothing.
use Rattle.std.specs.Prelude.{◌+◌, ◌-◌, ◌^◌, min, cond}
use Rattle.labels.specs.Kind.{Kind}
use Rattle.stores.specs.declared.rows.Row.{Row}
use Rattle.stores.specs.declared.rows.Fate.{Fate}
use Rattle.stores.specs.declared.rows.Fate.TheVariants.{Keep, Rewrite, Remove}
use Rattle.tables.specs.declared.scans.SecondLabels.{SecondLabels}
use Rattle.tables.specs.declared.scans.Count.{Count}
use Rattle.tables.specs.declared.scans.Removal.{Removal}
use Rattle.tables.specs.declared.scans.Rewriting.{Rewriting}
use Rattle.tables.specs.Queries.{matches, join_second}

-- The label of one more second field is joined.
abbrev pub joined : {L : Type 0} → Kind L → SecondLabels L → Row → SecondLabels L
joined k v r = record { rule = v.rule; label = join_second k v.rule v.label r }

-- A matching row is counted.
abbrev pub counted : Count → Row → Count
counted v r = record { predicate = v.predicate; count = cond (matches v.predicate r) (min (v.count + 1) (2 ^ 64 - 1)) v.count }

-- A matching row is removed, every other kept.
abbrev pub removal : Removal → Row → Fate
removal e r = cond (matches e.predicate r) Remove Keep

-- A matching row gets both values, every other is kept.
abbrev pub rewriting : Rewriting → Row → Fate
rewriting e r = cond (matches e.predicate r) (Rewrite e.first e.second) Keep
