-- Chains that are laid out mean sound tables. Assumes nothing.
use Rattle.std.specs.Prelude.{ℕ, ◌≤◌, List, [], ◌∷◌, map, length}
use Rattle.std.proofs.Math.Logic.{∥∥₁_elim, ∥∥₁_prop}
use Rattle.std.proofs.Math.Bridge.{le_prop}
use Rattle.std.proofs.Common.{arith}
use Rattle.std.specs.Coded.{coded_ℕ}
use denote.Struct.Props.{≡_prop}
use Rattle.std.proofs.Props.{props}
use denote.Struct.Record.{Done-prop}
use Rattle.std.proofs.lemmas.List.{length-map}
use Rattle.std.specs.List.{AllByRecursion}
use Rattle.stores.specs.declared.rows.Row.{Row}
use Rattle.stores.specs.Tables.{Rising, SoundTable, Sound}
use Rattle.chained.specs.declared.links.Cell.{Cell}
use Rattle.chained.specs.declared.links.Chain.{Chain}
use Rattle.chained.specs.declared.links.Free.{Free}
use Rattle.chained.specs.Links.{table_in, tables_of, Lies, Laid}

-- A fact in a ghost field is taken out of its truncation part by part, since each part has one proof at most.
rising_prop : (low high : ℕ) (rs : List Row) → IsProp (Rising low high rs)
rising_prop low high [] = Done-prop
rising_prop low high (r ∷ rs) = hlevel (props, rising_prop r.key high rs)

opened_lies : (cells : List Cell) (c : Chain) → ∥ Lies cells c ∥₁ → Lies cells c
opened_lies cells c h = record {
  ends = λ k e. ∥∥₁_elim h (≡_prop coded_ℕ _ _) (λ l. l.ends k e);
  within = ∥∥₁_elim h le_prop (λ l. l.within);
  sound = record { few = ∥∥₁_elim h le_prop (λ l. l.sound.few); keys = ∥∥₁_elim h (rising_prop _ _ _) (λ l. l.sound.keys) };
}

opened_each : (cells : List Cell) (cs : List Chain) → ∥ AllByRecursion (Lies cells) cs ∥₁ → AllByRecursion (Lies cells) cs
opened_each cells [] h = tt
opened_each cells (c ∷ cs) h = (opened_lies cells c (∥∥₁_elim h ∥∥₁_prop (λ a. ∣ a.0 ∣₁)), opened_each cells cs (∥∥₁_elim h ∥∥₁_prop (λ a. ∣ a.1 ∣₁)))

pub opened : (cells : List Cell) (free : Free) (cs : List Chain) → ∥ Laid cells free cs ∥₁ → Laid cells free cs
opened cells free cs h = record {
  each = opened_each cells cs (∥∥₁_elim h ∥∥₁_prop (λ l. ∣ l.each ∣₁));
  once = λ q. ∥∥₁_elim h le_prop (λ l. l.once q);
  full = ∥∥₁_elim h (≡_prop coded_ℕ _ _) (λ l. l.full);
  small = ∥∥₁_elim h le_prop (λ l. l.small);
}

sound_tables : (cells : List Cell) (cs : List Chain) → AllByRecursion (Lies cells) cs → AllByRecursion SoundTable (map (table_in cells) cs)
sound_tables cells [] a = tt
sound_tables cells (c ∷ cs) a = (a.0.sound, sound_tables cells cs a.1)

pub sound_store : (cells : List Cell) (chains : List Chain) (free : Free) → length chains ≤ 8 → ∥ Laid cells free chains ∥₁ → Sound (tables_of cells chains)
sound_store cells chains free few l = record {
  few = simp length-map (omega arith);
  tables = sound_tables cells chains (opened cells free chains l).each;
}
