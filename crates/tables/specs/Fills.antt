-- What filling makes of a row. Assumes nothing.
use Rattle.std.specs.Prelude.{◌+◌, cond, ◌&&◌, length, nat_lt, slice_set}
use Rattle.labels.specs.Kind.{Kind}
use Rattle.stores.specs.declared.rows.Row.{Row}
use Rattle.tables.specs.declared.places.Filling.{Filling}
use Rattle.tables.specs.Queries.{matches, place}

-- A row goes into the next place.
abbrev pub put : {L : Type 0} → Kind L → Filling L → Row → Filling L
put k v r = record { places = record { ref_ptr = v.places.ref_ptr; ghost_name = v.places.ghost_name; now = slice_set v.places.now v.next (place k v.«record».now r) }; next = v.next + 1; «record» = v.«record»; predicate = v.predicate }

-- A matching row goes into the next place, if there is one.
abbrev pub filled_by : {L : Type 0} → Kind L → Filling L → Row → Filling L
filled_by k v r = cond (matches v.predicate r && nat_lt v.next (length v.places.now)) (put k v r) v
