-- Stretches that lie in order mean sound tables. Assumes nothing.
use Rattle.std.specs.Prelude.{ℕ, ◌+◌, ◌≤◌, List, [], ◌∷◌, map, length}
use Rattle.std.proofs.Math.Logic.{∥∥₁_elim, ∥∥₁_prop}
use Rattle.std.proofs.Math.Bridge.{le_prop}
use Rattle.std.proofs.Common.{arith}
use Rattle.std.proofs.Props.{props}
use denote.Struct.Record.{Done-prop}
use Rattle.std.proofs.lemmas.List.{length-map}
use Rattle.std.specs.List.{AllByRecursion}
use Rattle.stores.specs.declared.rows.Row.{Row}
use Rattle.stores.specs.Tables.{Rising, SoundTable, Sound}
use Rattle.packed.specs.declared.stretch.Stretch.{Stretch}
use Rattle.packed.specs.Stretches.{table_in, tables_of, Lies, InOrder}

-- A fact in a ghost field is taken out of its truncation part by part, since each part has one proof at most.
rising_prop : (low high : ℕ) (rs : List Row) → IsProp (Rising low high rs)
rising_prop low high [] = Done-prop
rising_prop low high (r ∷ rs) = hlevel (props, rising_prop r.key high rs)

opened_lies : (rows : List Row) (s : Stretch) → ∥ Lies rows s ∥₁ → Lies rows s
opened_lies rows s h = record {
  fits = ∥∥₁_elim h le_prop (λ l. l.fits);
  within = ∥∥₁_elim h le_prop (λ l. l.within);
  sound = record { few = ∥∥₁_elim h le_prop (λ l. l.sound.few); keys = ∥∥₁_elim h (rising_prop _ _ _) (λ l. l.sound.keys) };
}

pub opened : (start : ℕ) (rows : List Row) (ss : List Stretch) → ∥ InOrder start rows ss ∥₁ → InOrder start rows ss
opened start rows [] h = tt
opened start rows (s ∷ ss) h =
    (∥∥₁_elim h le_prop (λ o. o.0), opened_lies rows s (∥∥₁_elim h ∥∥₁_prop (λ o. ∣ o.1 ∣₁)), opened (s.from + s.limit) rows ss (∥∥₁_elim h ∥∥₁_prop (λ o. ∣ o.2 ∣₁)))

sound_tables : (start : ℕ) (rows : List Row) (ss : List Stretch) → InOrder start rows ss → AllByRecursion SoundTable (map (table_in rows) ss)
sound_tables start rows [] o = tt
sound_tables start rows (s ∷ ss) o = (o.1.sound, sound_tables (s.from + s.limit) rows ss o.2)

pub sound_store : (rows : List Row) (stretches : List Stretch) → length stretches ≤ 8 → ∥ InOrder 0 rows stretches ∥₁ → Sound (tables_of rows stretches)
sound_store rows stretches few o = record {
  few = simp length-map (omega arith);
  tables = sound_tables 0 rows stretches (opened 0 rows stretches o);
}
