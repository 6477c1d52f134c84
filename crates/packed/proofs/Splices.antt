-- One stretch is rewritten: the others, and the tables in them, stay as they were. Assumes nothing.
use Rattle.std.proofs.Common.{◌≡◌, ℕ, zero, suc, ◌+◌, ◌≤◌, List, [], ◌∷◌, ◌++◌, map, length, take, drop, set, Some, sym, refl, ap, ◌∙◌, subst, arith, length-append, length-drop, length-take}
use Rattle.std.specs.List.{slice_get}
use Rattle.std.proofs.lemmas.List.{drop-take, drop_at, take_at, length-take-le}
use Rattle.std.proofs.lemmas.Slice.{take-put_mid_below, drop-put_mid}
use Rattle.stores.specs.declared.rows.Row.{Row}
use Rattle.stores.specs.Tables.{SoundTable}
use Rattle.packed.specs.declared.fill.Fill.{Fill}
use Rattle.packed.specs.declared.stretch.Stretch.{Stretch}
use Rattle.packed.specs.Stretches.{held, part, table_in, Lies, InOrder, spliced}

-- the stretch at an index
pub lies_at : (start : ℕ) (rows : List Row) (ss : List Stretch) (n : ℕ) (s : Stretch) → slice_get ss n ≡ Some s → InOrder start rows ss → (start ≤ s.from) × Lies rows s
lies_at start rows [] n s e o = let z : ◌≡◌ {A = ℕ} 0 1 = cc in absurd (omega arith)
lies_at start rows (x ∷ ss) zero s e o = let same : x ≡ s = cc in subst (λ y. (start ≤ y.from) × Lies rows y) same (o.0, o.1)
lies_at start rows (x ∷ ss) (suc n) s e o =
    let later = lies_at (x.from + x.limit) rows ss n s e o.2 in
    (omega (arith, o.0, later.0), later.1)

abbrev pub refilled : Stretch → Fill → Stretch
refilled s fill = record { from = s.from; limit = s.limit; fill = fill }

module _ (rows : List Row) (s : Stretch) (fill : Fill) (new : List Row) (fits : s.from + s.limit ≤ length rows) (long : length new ≡ s.limit) where
  abbrev after : List Row
  after = spliced rows s new

  length_after : length after ≡ length rows
  length_after = simp (length-append, length-take, length-drop) (omega arith)

  part_before : (x : Stretch) → x.from + x.limit ≤ s.from → part after x ≡ part rows x
  part_before x h =
      sym (drop-take x.from x.limit after) ∙ ap (drop x.from) (take-put_mid_below s.from s.limit rows new (x.from + x.limit) h (omega arith)) ∙ drop-take x.from x.limit rows

  part_behind : (x : Stretch) → s.from + s.limit ≤ x.from → part after x ≡ part rows x
  part_behind x h = ap (take x.limit) (drop-put_mid s.from s.limit rows new x.from h (omega arith) long)

  part_there : take s.limit (drop s.from after) ≡ new
  part_there =
      let tail = drop s.limit (drop s.from rows) in
      ap (take s.limit) (drop_at (take s.from rows) (new ++ tail) s.from (length-take-le s.from rows (omega arith))) ∙ take_at new tail s.limit long

  -- a stretch whose rows are as before
  module _ (x : Stretch) (same : part after x ≡ part rows x) where
    lies_still : Lies rows x → Lies after x
    lies_still l = record { fits = omega (arith, l.fits, length_after); within = l.within; sound = subst (λ rs. SoundTable (held rs x.fill)) (sym same) l.sound }

    table_still : table_in after x ≡ table_in rows x
    table_still = ap (λ rs. held rs x.fill) same

  behind : (start : ℕ) (ss : List Stretch) → s.from + s.limit ≤ start → InOrder start rows ss → InOrder start after ss × (map (table_in after) ss ≡ map (table_in rows) ss)
  behind start [] h o = (tt, refl)
  behind start (x ∷ ss) h o =
      let same = part_behind x (omega (arith, o.0)) in
      let rest = behind (x.from + x.limit) ss (omega (arith, o.0)) o.2 in
      ((o.0, lies_still x same o.1, rest.0), rw (table_still x same, rest.1))

  -- the stretch at an index refilled: the table there is another, and no other is touched
  module _ (within : fill.used ≤ s.limit) (sound : SoundTable (held new fill)) where
    pub refills : (start : ℕ) (ss : List Stretch) (n : ℕ) → slice_get ss n ≡ Some s → InOrder start rows ss →
        InOrder start after (set ss n (refilled s fill)) ×
        (map (table_in after) (set ss n (refilled s fill)) ≡ set (map (table_in rows) ss) n (held new fill))
    refills start [] n e o = let z : ◌≡◌ {A = ℕ} 0 1 = cc in absurd (omega arith)
    refills start (x ∷ ss) zero e o =
        let same : x ≡ s = cc in
        let here : x.from ≡ s.from = ap (λ (y : Stretch). y.from) same in
        let wide : x.limit ≡ s.limit = ap (λ (y : Stretch). y.limit) same in
        let rest = behind (s.from + s.limit) ss (omega arith) (subst (λ y. InOrder (y.from + y.limit) rows ss) same o.2) in
        ((omega (arith, o.0), record { fits = omega (arith, length_after); within = within; sound = rw part_there sound }, rest.0), rw (part_there, rest.1))
    refills start (x ∷ ss) (suc n) e o =
        let ahead = lies_at (x.from + x.limit) rows ss n s e o.2 in
        let same = part_before x ahead.0 in
        let rest = refills (x.from + x.limit) ss n e o.2 in
        ((o.0, lies_still x same o.1, rest.0), rw (table_still x same, rest.1))
