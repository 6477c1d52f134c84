-- Each change of a store touches one table, as if that table stood alone, and leaves it sound. Assumes nothing.
use Rattle.std.proofs.Common.{◌≡◌, ℕ, ◌+◌, Bool, true, false, cond, leb, List, [], ◌∷◌, length, set, ℤ, Some, None, Ok, Err, Option, Result, sym, refl, ap, subst, arith}
use Rattle.std.specs.List.{slice_get}
use Rattle.std.proofs.lemmas.Bool.{leb-false}
use Rattle.stores.specs.declared.rows.Row.{Row}
use Rattle.stores.specs.declared.rows.Fate.{Fate}
use Rattle.stores.specs.declared.rows.AddRefusal.{AddRefusal}
use Rattle.stores.specs.declared.rows.AddRefusal.TheVariants.{NoTable, TableFull, KeysSpent}
use Rattle.stores.specs.Tables.{Table, SoundTable, key_limit}
use Rattle.stores.specs.Changes.{Changed, changed, grown, adding, replacing_row, replacing, removing_row, removing, sweeping}
use Rattle.stores.proofs.Keys.{rising_added, rising_replaced, rising_without, rising_edited}
use Rattle.stores.proofs.Puts.{set_nth}

-- a change that takes one table to another when that stands alone does the same among others
pub record Local {A : Type 0} (change : List Table → ℕ → Changed A) : Type 0 where
  pub among : (a : A) (ts : List Table) (n : ℕ) (t u : Table) → slice_get ts n ≡ Some t → changed a (u ∷ []) ≡ change (t ∷ []) 0 → changed a (set ts n u) ≡ change ts n
  pub sound : (a : A) (t u : Table) → changed a (u ∷ []) ≡ change (t ∷ []) 0 → SoundTable t → SoundTable u

module _ {A : Type 0} (a b : A) (u v : Table) (e : changed a (u ∷ []) ≡ changed b (v ∷ [])) where
  same_table : u ≡ v
  same_table = let tables : u ∷ [] ≡ v ∷ [] = ap (λ (c : Changed A). c.tables) e in cc

  put_alike : (ts after : List Table) (n : ℕ) → set ts n v ≡ after → changed a (set ts n u) ≡ changed b after
  put_alike ts after n p = let answers : a ≡ b = ap (λ (c : Changed A). c.answer) e in rw (answers, same_table, p)

  sound_alike : SoundTable v → SoundTable u
  sound_alike = subst SoundTable (sym same_table)

-- adding, by its tests
abbrev tested : Bool → Bool → List Table → List Table → ℕ → Changed (Result ℕ AddRefusal)
tested full spent before after key = cond full (changed (Err TableFull) before) (cond spent (changed (Err KeysSpent) before) (changed (Ok key) after))

module _ (f s : ℤ) where
  pub adding_local : Local (λ ts n. adding ts n f s)
  adding_local = record {
    among = λ a ts n t u here e. rw here (among a ts n t u here (leb t.limit (length t.rows)) (leb key_limit t.given) e);
    sound = λ a t u e ok. sound a t u ok (leb t.limit (length t.rows)) (leb key_limit t.given) refl e;
  }
    where
      among : (a : Result ℕ AddRefusal) (ts : List Table) (n : ℕ) (t u : Table) → slice_get ts n ≡ Some t → (full spent : Bool) → changed a (u ∷ []) ≡ tested full spent (t ∷ []) (grown t f s ∷ []) (t.given + 1) →
          changed a (set ts n u) ≡ tested full spent ts (set ts n (grown t f s)) (t.given + 1)
      among a ts n t u here true spent e = put_alike a _ u t e ts ts n (set_nth ts n t here)
      among a ts n t u here false true e = put_alike a _ u t e ts ts n (set_nth ts n t here)
      among a ts n t u here false false e = put_alike a _ u (grown t f s) e ts _ n refl

      sound : (a : Result ℕ AddRefusal) (t u : Table) → SoundTable t → (full spent : Bool) → leb key_limit t.given ≡ spent → changed a (u ∷ []) ≡ tested full spent (t ∷ []) (grown t f s ∷ []) (t.given + 1) → SoundTable u
      sound a t u ok true spent is e = sound_alike a _ u t e ok
      sound a t u ok false true is e = sound_alike a _ u t e ok
      sound a t u ok false false is e =
          sound_alike a _ u (grown t f s) e (record { few = omega (arith, leb-false key_limit t.given is); keys = rising_added 0 t.given t.rows f s (omega arith) ok.keys })

-- other rows, or none, by the row at a place
module _ (place : ℕ) where
  module _ (f s : ℤ) where
    pub replacing_local : Local (λ ts n. replacing ts n place f s)
    replacing_local = record {
      among = λ a ts n t u here e. among a ts n t u here (slice_get t.rows place) refl e;
      sound = λ a t u e ok. sound a t u ok (slice_get t.rows place) refl e;
    }
      where
        among : (a : Bool) (ts : List Table) (n : ℕ) (t u : Table) → slice_get ts n ≡ Some t → (o : Option Row) → slice_get t.rows place ≡ o → changed a (u ∷ []) ≡ replacing_row o (t ∷ []) 0 place f s →
            changed a (set ts n u) ≡ replacing ts n place f s
        among a ts n t u here None is e = rw (here, is) (put_alike a _ u t e ts ts n (set_nth ts n t here))
        among a ts n t u here (Some r) is e = rw (here, is, here) (put_alike a _ u _ e ts _ n refl)

        sound : (a : Bool) (t u : Table) → SoundTable t → (o : Option Row) → slice_get t.rows place ≡ o → changed a (u ∷ []) ≡ replacing_row o (t ∷ []) 0 place f s → SoundTable u
        sound a t u ok None is e = sound_alike a _ u t e ok
        sound a t u ok (Some r) is e = sound_alike a _ u _ e (record { few = ok.few; keys = rising_replaced 0 t.given t.rows place r f s is ok.keys })

  pub removing_local : Local (λ ts n. removing ts n place)
  removing_local = record {
    among = λ a ts n t u here e. among a ts n t u here (slice_get t.rows place) refl e;
    sound = λ a t u e ok. sound a t u ok (slice_get t.rows place) e;
  }
    where
      among : (a : Bool) (ts : List Table) (n : ℕ) (t u : Table) → slice_get ts n ≡ Some t → (o : Option Row) → slice_get t.rows place ≡ o → changed a (u ∷ []) ≡ removing_row o (t ∷ []) 0 place →
          changed a (set ts n u) ≡ removing ts n place
      among a ts n t u here None is e = rw (here, is) (put_alike a _ u t e ts ts n (set_nth ts n t here))
      among a ts n t u here (Some r) is e = rw (here, is, here) (put_alike a _ u _ e ts _ n refl)

      sound : (a : Bool) (t u : Table) → SoundTable t → (o : Option Row) → changed a (u ∷ []) ≡ removing_row o (t ∷ []) 0 place → SoundTable u
      sound a t u ok None e = sound_alike a _ u t e ok
      sound a t u ok (Some r) e = sound_alike a _ u _ e (record { few = ok.few; keys = rising_without 0 t.given t.rows place ok.keys })

pub sweeping_local : (fate : Row → Fate) → Local (sweeping fate)
sweeping_local fate = record {
  among = λ a ts n t u here e. rw here (put_alike a _ u _ e ts _ n refl);
  sound = λ a t u e ok. sound_alike a _ u _ e (record { few = ok.few; keys = rising_edited fate 0 t.given t.rows ok.keys });
}

-- no change where there is no such table
module _ (ts : List Table) (n : ℕ) (none : slice_get ts n ≡ None) where
  pub none_adding : (f s : ℤ) → changed (Err NoTable) ts ≡ adding ts n f s
  none_adding f s = rw none

  pub none_replacing : (place : ℕ) (f s : ℤ) → changed false ts ≡ replacing ts n place f s
  none_replacing place f s = rw none

  pub none_removing : (place : ℕ) → changed false ts ≡ removing ts n place
  none_removing place = rw none

  pub none_sweeping : (fate : Row → Fate) → changed 0 ts ≡ sweeping fate ts n
  none_sweeping fate = rw none
