-- What `all` and `any` over the numbers below n, or from a to n, answer, where the closure decides P of a number and stays as it was. Assumes nothing.
use Rattle.std.proofs.Common.{◌≡◌, ℕ, ◌+◌, ◌-◌, ◌<◌, ◌≤◌, List, Bool, true, false, not, length, get_or, Decides, MatchBool, HoldsAt, refl, subst, sym, true≢false, arith}
use Rattle.std.proofs.iter.Yields.{nat_range_steps}
use Rattle.std.proofs.lemmas.Bool.Decides.{not_from_Decides}
use Rattle.std.proofs.lemmas.Iterator.{cases_from_all, cases_from_any, YieldsList-from_range}
use Rattle.std.proofs.lemmas.List.FromFn.{length-range_with_len, get_or-range_with_len}
use Rattle.std.specs.Fn.{Called}
use Rattle.std.specs.Iterator.{ChecksAll, ChecksAny}
use Rattle.std.specs.List.{AllWithin, range_with_len}
use Rattle.std.specs.declared.ops.Range.{Range}
use denote.Param.Members.{Mut}

module _ (a n : ℕ) where
  abbrev numbers : List ℕ
  numbers = range_with_len a (n - a)

  number_at : (i : ℕ) → i < n - a → get_or numbers i 0 ≡ a + i
  number_at i low = get_or-range_with_len a (n - a) i 0 low

  each_decided : (P Q : ℕ → Type 0) (r : Bool) → ((x : ℕ) → P x → Q x → ⊥)
      → MatchBool r (AllWithin P numbers 0 (length numbers)) ((i : ℕ) × (i < length numbers) × HoldsAt Q numbers i)
      → Decides r ((k : ℕ) → a ≤ k → k < n → P k)
  each_decided P Q true apart h =
      let at : (k : ℕ) → a ≤ k → k < n → get_or numbers (k - a) 0 ≡ k = λ k from low. omega (arith, number_at (k - a) (omega arith)) in
      (λ _ k from low. subst P (at k from low) (h (k - a) 0 (omega arith) (omega (arith, length-range_with_len a (n - a)))), λ _. refl)
  each_decided P Q false apart h =
      let low : h.0 < n - a = omega (arith, h.1, length-range_with_len a (n - a)) in
      (λ e. absurd (true≢false (sym e)), λ all. absurd (apart (a + h.0) (all (a + h.0) (omega arith) (omega arith)) (subst Q (number_at h.0 low) (h.2 0))))

swapped : (A B : Type 0) (r : Bool) → MatchBool r A B → MatchBool (not r) B A
swapped A B true h = h
swapped A B false h = h

module _ {F : Type 0} {g : Mut F (ℕ × Unit {0}) Bool} {f : F} (P : ℕ → Type 0) (each : (x : ℕ) (b : Bool) (q : F) → Called g f (x, tt) b q → (q ≡ f) × Decides b (P x)) where
  yes : (x : ℕ) (q : F) → Called g f (x, tt) true q → P x
  yes x q k = (each x true q k).1.0 refl

  no : (x : ℕ) (q : F) → Called g f (x, tt) false q → P x → ⊥
  no x q k = not_from_Decides false (each x false q k).1 refl

  -- whether each number from a on has P
  pub all_decides_from : {a n : ℕ} {s u : Range ℕ} {r : Bool} → ChecksAll nat_range_steps g s f r u → s ≡ record { start = a; end = n } → Decides r ((k : ℕ) → a ≤ k → k < n → P k)
  all_decides_from {a} {n} {s} {u} {r} ran e = each_decided a n P (λ x. P x → ⊥) r (λ x p q. q p)
      (cases_from_all u f r P (λ x. P x → ⊥) ran (YieldsList-from_range a n (n - a) e refl) (λ x q k. ((each x true q k).0, yes x q k)) no)

  -- whether each has
  pub all_decides : {n : ℕ} {s u : Range ℕ} {r : Bool} → ChecksAll nat_range_steps g s f r u → s ≡ record { start = 0; end = n } → Decides r ((k : ℕ) → k < n → P k)
  all_decides ran e = let d = all_decides_from ran e in (λ t k low. d.0 t k (omega arith) low, λ h. d.1 (λ k from low. h k low))

  -- whether none has, turned round
  pub any_decides : {n : ℕ} {s u : Range ℕ} {r : Bool} → ChecksAny nat_range_steps g s f r u → s ≡ record { start = 0; end = n } → Decides (not r) ((k : ℕ) → k < n → P k → ⊥)
  any_decides {n} {s} {u} {r} ran e =
      let d = each_decided 0 n (λ x. P x → ⊥) P (not r) (λ x p q. p q)
      (swapped _ _ r (cases_from_any u f r P (λ x. P x → ⊥) ran (YieldsList-from_range 0 n (n - 0) e refl) yes (λ x q k. ((each x false q k).0, no x q k)))) in
      (λ t k low p. d.0 t k (omega arith) low p, λ h. d.1 (λ k from low p. h k low p))
