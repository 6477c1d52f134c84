-- Rows kept, rewritten or removed in place, front to back. Assumes nothing.
use Rattle.std.proofs.Common.{◌≡◌, ℕ, ◌+◌, ◌<◌, ◌≤◌, List, ◌∷◌, ◌++◌, length, get_or, take, drop, set, ℤ, sym, ◌∙◌, append_assoc, add-zero, add_assoc, arith, length-set}
use Rattle.std.proofs.lemmas.List.{take_more_set, drop_more, drop_all, drop-set-lt, append-nil}
use Rattle.stores.specs.declared.rows.Row.{Row}
use Rattle.stores.specs.declared.rows.Fate.{Fate}
use Rattle.stores.specs.declared.rows.Fate.TheVariants.{Keep, Rewrite, Remove}
use Rattle.stores.specs.Changes.{row, left_by, edited, counts, touched}

module _ (fate : Row → Fate) (old : List Row) where
  -- the rows before a place are decided: what is kept of them stands in front
  pub record Halfway (new : List Row) (kept count place : ℕ) : Type 0 where
    pub behind : kept ≤ place
    pub few : count ≤ place
    pub long : length new ≡ length old
    pub rows : take kept new ++ edited fate (drop place new) ≡ edited fate old
    pub total : count + touched fate (drop place new) ≡ touched fate old

  module _ (new : List Row) (kept count place : ℕ) (h : Halfway new kept count place) (end : length new ≤ place) where
    pub all_kept : take kept new ≡ edited fate old
    all_kept = sym (append-nil (take kept new)) ∙ rw drop_all at h.rows

    pub all_counted : count ≡ touched fate old
    all_counted = sym (add-zero count) ∙ rw drop_all at h.total

  module _ (new : List Row) (kept count place : ℕ) (h : Halfway new kept count place) (within : place < length new) (d : Row) where
    abbrev next : Row
    next = get_or new place d

    rest : drop place new ≡ next ∷ drop (place + 1) new
    rest = drop_more new place d within

    rows_next : take kept new ++ left_by (fate next) next (edited fate (drop (place + 1) new)) ≡ edited fate old
    rows_next = rw rest at h.rows

    total_next : count + (counts (fate next) + touched fate (drop (place + 1) new)) ≡ touched fate old
    total_next = rw rest at h.total

    -- the next row gives way to another, in the place after those kept
    turn_write : (x : Row) (n : ℕ) → ((rs : List Row) → left_by (fate next) next rs ≡ x ∷ rs) → counts (fate next) ≡ n → n ≤ 1 → Halfway (set new kept x) (kept + 1) (count + n) (place + 1)
    turn_write x n left c small =
        let same : drop (place + 1) (set new kept x) ≡ drop (place + 1) new = drop-set-lt (place + 1) new kept x (omega (arith, h.behind)) in
        record {
          behind = omega (arith, h.behind);
          few = omega (arith, h.few);
          long = length-set new kept x ∙ h.long;
          rows = rw (same, take_more_set new kept x (omega (arith, h.behind)), append_assoc, ← left (edited fate (drop (place + 1) new))) rows_next;
          total = rw (same, add_assoc, ← c) total_next;
        }

    -- a turn, by what becomes of the next row
    module _ (new' : List Row) (kept' count' : ℕ) where
      pub turn_keep : Keep ≡ fate next → new' ≡ set new kept next → kept' ≡ kept + 1 → count' ≡ count → Halfway new' kept' count' (place + 1)
      turn_keep e a b c = rw (a, b, c, ← add-zero count) (turn_write next 0 (λ rs. rw (← e)) (rw (← e)) (omega arith))

      pub turn_rewrite : (f s : ℤ) → Rewrite f s ≡ fate next → new' ≡ set new kept (row next.key f s) → kept' ≡ kept + 1 → count' ≡ count + 1 → Halfway new' kept' count' (place + 1)
      turn_rewrite f s e a b c = rw (a, b, c) (turn_write (row next.key f s) 1 (λ rs. rw (← e)) (rw (← e)) (omega arith))

      pub turn_remove : Remove ≡ fate next → new' ≡ new → kept' ≡ kept → count' ≡ count + 1 → Halfway new' kept' count' (place + 1)
      turn_remove e a b c = rw (a, b, c) (record {
        behind = omega (arith, h.behind);
        few = omega (arith, h.few);
        long = h.long;
        rows = rw (← e) at rows_next;
        total = rw add_assoc (rw (← e) at total_next);
      })
