-- What a write to one cell leaves as it was. Assumes nothing.
use Rattle.std.proofs.Common.{◌≡◌, ℕ, zero, suc, ◌-◌, ◌<◌, ◌≤◌, List, [], ◌∷◌, ◌++◌, length, get_or, take, set, ℤ, sym, refl, ap, ◌∙◌, subst, ⊎_elim, arith, length-set, take-suc}
use Rattle.std.proofs.lemmas.List.{take_all, get_or-set_same, get_or-set_other, nil_from_length}
use Rattle.std.proofs.lemmas.Bool.{cases_eq}
use Rattle.chained.specs.declared.links.Cell.{Cell}
use Rattle.chained.specs.Links.{no_cell, cell_at, times}
use Rattle.chained.specs.Steps.{link_set, values_set, LedOn}
use Rattle.chained.proofs.Places.{times_append, times_here, apart}
use Rattle.chained.proofs.Leads.{Leads, leads_split, leads_join, leads_kept}

pub link_row : (cells : List Cell) (p next q : ℕ) → (cell_at (link_set cells p next) q).row ≡ (cell_at cells q).row
link_row [] p next q = refl
link_row (c ∷ cells) zero next zero = refl
link_row (c ∷ cells) zero next (suc q) = refl
link_row (c ∷ cells) (suc p) next zero = refl
link_row (c ∷ cells) (suc p) next (suc q) = link_row cells p next q

pub values_next : (cells : List Cell) (p : ℕ) (f s : ℤ) (q : ℕ) → (cell_at (values_set cells p f s) q).next ≡ (cell_at cells q).next
values_next [] p f s q = refl
values_next (c ∷ cells) zero f s zero = refl
values_next (c ∷ cells) zero f s (suc q) = refl
values_next (c ∷ cells) (suc p) f s zero = refl
values_next (c ∷ cells) (suc p) f s (suc q) = values_next cells p f s q

-- links through other cells lead where they did
pub leads_past : (cells : List Cell) (p : ℕ) (c : Cell) (x : ℕ) (xs : List ℕ) (e : ℕ) → times p xs ≡ 0 → Leads cells x xs e → Leads (set cells p c) x xs e
leads_past cells p c x xs e out = leads_kept cells (set cells p c) x xs e (λ q h. ap (λ (d : Cell). d.next) (get_or-set_other cells p q c no_cell (apart p q xs out h)))

-- the first cells of a chain lead on to another cell
module _ {before mid : List Cell} {head count last to new : ℕ} (led : LedOn before mid head count last to new) where
  pub led_long : length mid ≡ length before
  led_long = ⊎_elim (λ e. ap length (led.none e).1) (λ e. ap length (led.some e).1 ∙ length-set before last _) (cases_eq count 0)

  pub led_rows : (q : ℕ) → (cell_at mid q).row ≡ (cell_at before q).row
  led_rows q = ⊎_elim (λ e. ap (λ cells. (cell_at cells q).row) (led.none e).1) (λ e. ap (λ cells. (cell_at cells q).row) (led.some e).1 ∙ link_row before last to q) (cases_eq count 0)

  pub led_kept : (q : ℕ) → ((count ≡ 0 → ⊥) → q ≡ last → ⊥) → cell_at mid q ≡ cell_at before q
  led_kept q other = ⊎_elim (λ e. ap (λ cells. cell_at cells q) (led.none e).1) (λ e. ap (λ cells. cell_at cells q) (led.some e).1 ∙ get_or-set_other before last q _ no_cell (other e)) (cases_eq count 0)

  pub led_still : (x : ℕ) (xs : List ℕ) (e : ℕ) → ((count ≡ 0 → ⊥) → times last xs ≡ 0) → Leads before x xs e → Leads mid x xs e
  led_still x xs e out = leads_kept before mid x xs e (λ q h. ap (λ (d : Cell). d.next) (led_kept q (λ some. apart last q xs (out some) h)))

  pub led_on : (xs : List ℕ) (e : ℕ) → length xs ≡ count → ((k : ℕ) → count ≡ suc k → get_or xs k 0 ≡ last) → ((count ≡ 0 → ⊥) → (times last xs ≤ 1) × (last < length before)) → Leads before head xs e → Leads mid new xs to
  led_on xs e long ends sole l = ⊎_elim first later (cases_eq count 0)
    where
      first : count ≡ 0 → Leads mid new xs to
      first none = let z : xs ≡ [] = nil_from_length xs (omega arith) in subst (λ zs. Leads mid new zs to) (sym z) (led.none none).0

      later : (count ≡ 0 → ⊥) → Leads mid new xs to
      later some =
          let k : ℕ = count - 1 in
          let front : List ℕ = take k xs in
          let all : xs ≡ front ++ last ∷ [] = sym (take_all (suc k) xs (omega arith)) ∙ take-suc xs k 0 (omega arith) ∙ ap (λ q. front ++ q ∷ []) (ends k (omega arith)) in
          let out : times last front ≡ 0 = omega (arith, ap (times last) all, times_append last front (last ∷ []), times_here last [], (sole some).0) in
          let way = leads_split before head front (last ∷ []) e (subst (λ zs. Leads before head zs e) all l) in
          let link : (cell_at mid last).next ≡ to = ap (λ cells. (cell_at cells last).next) (led.some some).1 ∙ ap (λ (d : Cell). d.next) (get_or-set_same before last _ no_cell (sole some).1) in
          rw ((led.some some).0, all) (leads_join mid head front (last ∷ []) way.0 to (led_still head front way.0 (λ _. out) way.1) (way.2.0, link))
