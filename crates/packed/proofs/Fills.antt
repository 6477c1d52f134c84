-- One stretch whose rows are changed as if its table stood alone. Assumes nothing.
use Rattle.std.proofs.Common.{◌≡◌, ℕ, ◌+◌, ◌-◌, ◌<◌, ◌≤◌, true, false, List, ◌++◌, length, get_or, take, drop, set, ℤ, pos, Some, None, Ok, ap, ◌∙◌, subst, add-one, arith, length-append, length-drop, length-set, length-take}
use lib.Seq.{paste, take-set-lt}
use Rattle.std.specs.List.{slice_get}
use Rattle.std.proofs.lemmas.List.{length-take-le, take-take, take_at, take-append-le, take_more_set, get_or-take, drop-take}
use Rattle.std.proofs.lemmas.Option.{slice_get-get_or, slice_get_past}
use Rattle.std.proofs.lemmas.Bool.{lt-leb}
use Rattle.stores.specs.declared.rows.Row.{Row}
use Rattle.stores.specs.declared.rows.Fate.{Fate}
use Rattle.stores.specs.Tables.{key_limit}
use Rattle.stores.specs.Changes.{row, adding, replacing, without, removing, edited, touched, sweeping}
use Rattle.packed.specs.declared.fill.Fill.{Fill}
use Rattle.packed.specs.Stretches.{held, Alone}

abbrev blank : Row
blank = row 0 (pos 0) (pos 0)

module _ (rows : List Row) (fill : Fill) (within : fill.used ≤ length rows) where
  count_is : length (take fill.used rows) ≡ fill.used
  count_is = length-take-le fill.used rows within

  pub added : (f s : ℤ) → fill.used < length rows → fill.given < key_limit →
      Alone (λ ts n. adding ts n f s) (Ok (fill.given + 1)) (held rows fill) (held (set rows fill.used (row (fill.given + 1) f s)) (record { used = fill.used + 1; given = fill.given + 1 }))
  added f s room few = rw (count_is, lt-leb (length rows) fill.used room, lt-leb key_limit fill.given few, length-set, take_more_set rows fill.used (row (fill.given + 1) f s) room)

  -- the used rows alone were passed over
  module _ (fate : Row → Fate) (kept count : ℕ) (new : List Row) (long : length new ≡ length (take fill.used rows)) (few : kept ≤ length (take fill.used rows)) where
    pub swept : take kept new ≡ edited fate (take fill.used rows) → count ≡ touched fate (take fill.used rows) →
        Alone (sweeping fate) count (held rows fill) (held (new ++ drop fill.used rows) (record { used = kept; given = fill.given }))
    swept e c =
        let l : length (new ++ drop fill.used rows) ≡ length rows = simp (length-append, length-drop) (omega (arith, count_is)) in
        rw (l, take-append-le kept new (drop fill.used rows) (omega arith), e, c)

    pub swept_within : kept ≤ length (new ++ drop fill.used rows)
    swept_within = simp length-append (omega arith)

  module _ (place : ℕ) where
    no_row : fill.used ≤ place → slice_get (take fill.used rows) place ≡ None
    no_row h = slice_get_past (take fill.used rows) place (rw count_is h)

    pub none_replaced : (f s : ℤ) → fill.used ≤ place → Alone (λ ts n. replacing ts n place f s) false (held rows fill) (held rows fill)
    none_replaced f s h = rw (no_row h)

    pub none_removed : fill.used ≤ place → Alone (λ ts n. removing ts n place) false (held rows fill) (held rows fill)
    none_removed h = rw (no_row h)

    module _ (there : place < fill.used) where
      row_there : slice_get (take fill.used rows) place ≡ Some (get_or rows place blank)
      row_there = slice_get-get_or (take fill.used rows) place blank (rw count_is there) ∙ ap Some (get_or-take fill.used rows place blank there)

      pub replaced : (f s : ℤ) → Alone (λ ts n. replacing ts n place f s) true (held rows fill) (held (set rows place (row (get_or rows place blank).key f s)) fill)
      replaced f s = rw (row_there, length-set, take-set-lt fill.used rows place (row (get_or rows place blank).key f s) there)

      -- the later rows moved down by one
      abbrev shifted : List Row
      shifted = paste rows place (drop (place + 1) rows) (fill.used - (place + 1))

      shifted_front : take (fill.used - 1) shifted ≡ without (take fill.used rows) place
      shifted_front =
          let n : ℕ = fill.used - (place + 1) in
          let long : length (take place rows ++ take n (drop (place + 1) rows)) ≡ fill.used - 1 = simp (length-append, length-take, length-drop) (omega arith) in
          let back : (place + 1) + n ≡ fill.used = omega arith in
          let e : drop (place + 1) (take fill.used rows) ≡ take n (drop (place + 1) rows) = subst (λ k. drop (place + 1) (take k rows) ≡ take n (drop (place + 1) rows)) back (drop-take (place + 1) n rows) in
          rw (take_at (take place rows ++ take n (drop (place + 1) rows)) (drop (place + n) rows) (fill.used - 1) long, take-take place fill.used rows (omega arith), ← add-one place, e)

      pub removed : (after : List Row) → after ≡ shifted → length after ≡ length rows →
          Alone (λ ts n. removing ts n place) true (held rows fill) (held after (record { used = fill.used - 1; given = fill.given }))
      removed after e l = rw (row_there, l, e, shifted_front)
