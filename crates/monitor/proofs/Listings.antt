-- A list of requests served one after another. Assumes nothing.
use Rattle.std.proofs.Common.{◌≡◌, ℕ, zero, suc, ◌+◌, ◌-◌, ◌<◌, ◌≤◌, List, [], ◌∷◌, ◌++◌, length, get_or, take, drop, set, None, Ok, Result, sym, refl, ap, ◌∙◌, append_assoc, add-one, arith, length-drop, take-append-drop, drop-cons, drop-drop}
use native.Mathlib.Numerals.{unary_clauses}
use borrow.Rule.Slice.PartMut.{put_mid}
use Rattle.std.proofs.lemmas.List.{drop_all, length-take-le}
use Rattle.std.proofs.lemmas.Slice.{take-put_mid, drop-put_mid}
use Rattle.labels.specs.Kind.{Kind}
use Rattle.sessions.specs.declared.Refusal.{Refusal}
use Rattle.tables.specs.declared.records.TableRecord.{TableRecord}
use Rattle.tables.specs.declared.queries.Place.{Place}
use Rattle.tables.specs.Outcomes.{filled}
use Rattle.monitor.specs.declared.requests.Request.{Request}
use Rattle.monitor.specs.declared.requests.Answer.{Answer}
use Rattle.monitor.specs.declared.requests.Event.{Event}
use Rattle.monitor.specs.Steps.{State, step, replies, standing_in, event, events}
use Rattle.monitor.specs.Lists.{room, laid, Single, single, answered_from, Listed, listed, short_of, serving_each}
use Rattle.monitor.proofs.Room.{room_here, short_later}

module _ {X : Type 0} where
  length_filled : (xs ys : List X) → length (filled xs ys) ≡ length ys
  length_filled [] ys = refl
  length_filled (x ∷ xs) [] = refl
  length_filled (x ∷ xs) (y ∷ ys) = ap suc (length_filled xs ys)

  -- one more is filled
  filled_later : (i : ℕ) (a : X) (xs ys : List X) → i < length ys → take (suc i) (set ys i a) ++ filled xs (drop (suc i) (set ys i a)) ≡ take i ys ++ filled (a ∷ xs) (drop i ys)
  filled_later i a xs [] h = absurd (omega arith)
  filled_later zero a xs (y ∷ ys) h = refl
  filled_later (suc i) a xs (y ∷ ys) h = ap (λ zs. y ∷ zs) (filled_later i a xs ys (omega arith))

  -- one more stretch is written
  written_later : (from n : ℕ) (ps mid : List X) (f : List X → List X) → from + n ≤ length ps → length mid ≡ n →
      take (from + n) (put_mid from n ps mid) ++ f (drop (from + n) (put_mid from n ps mid)) ≡ take from ps ++ (mid ++ f (drop n (drop from ps)))
  written_later from n ps mid f h e =
      rw (take-put_mid from n ps mid (from + n) (omega arith) (omega arith), drop-put_mid from n ps mid (from + n) (omega arith) (omega arith) e, ← (drop-drop n from ps))
      (append_assoc (take from ps) mid _)

module _ {L : Type 0} (k : Kind L) (rs : List (TableRecord L)) where
  -- Requests served behind the first i events and the first places.
  abbrev behind : ℕ → ℕ → State L → List (Request L) → List (Event L) → List (Place L) → Listed L
  behind i start w us es ps = let o = serving_each k rs w us (drop i es) (drop start ps) in
      listed (Ok tt) o.monitor (take i es ++ o.events) (take start ps ++ o.places)

  -- what is kept of a request, by the monitor before and after it
  abbrev pub kept : State L → Request L → Result (Answer L) (Refusal L) → State L → Event L
  kept w u a w' = record { before = standing_in w u.session; answer = a; after = standing_in w' u.session }

  -- a request served, and then the rest behind it
  behind_later : (i start : ℕ) (w : State L) (u : Request L) (us : List (Request L)) (a : Result (Answer L) (Refusal L)) (w' : State L) (es es' : List (Event L)) (ps ps' : List (Place L)) →
      single (Ok a) w' ps' ≡ answered_from start u (step k rs w u) ps → es' ≡ set es i (kept w u a w') → i < length es → start + room u.ask ≤ length ps →
      behind (i + 1) (start + room u.ask) w' us es' ps' ≡ behind i start w (u ∷ us) es ps
  behind_later i start w u us a w' es es' ps ps' e put more within =
      let o = step k rs w u in
      let mid = filled o.returned.places (take (room u.ask) (drop start ps)) in
      let state-is : w' ≡ o.after = ap (λ (v : Single L). v.monitor) e in
      let places-are : ps' ≡ put_mid start (room u.ask) ps mid = ap (λ (v : Single L). v.places) e in
      let outcome-is : Ok a ≡ Ok o.returned.answer = ap (λ (v : Single L). v.outcome) e in
      let answer-is : a ≡ o.returned.answer = cc in
      let event-is : kept w u a w' ≡ event k rs w u = rw (answer-is, state-is) in
      let long : length mid ≡ room u.ask = length_filled _ _ ∙ length-take-le (room u.ask) (drop start ps) (simp length-drop (omega arith)) in
      rw (put, event-is, state-is, places-are, add-one, filled_later i (event k rs w u) (events k rs o.after us) es more, written_later start (room u.ask) ps mid (laid us (replies k rs o.after us)) within long)

  -- What is left suffices, and serving it leaves what serving the whole list does.
  unfoldable pub Left : ℕ → ℕ → State L → List (Request L) → List (Event L) → List (Place L) → Listed L → Type 0
  Left i start w us es ps all = (short_of i (length ps - start) (drop i us) ≡ None) × (behind i start w (drop i us) es ps ≡ all)

  pub left_first : (w : State L) (us : List (Request L)) (es : List (Event L)) (ps : List (Place L)) → short_of 0 (length ps) us ≡ None → Left 0 0 w us es ps (serving_each k rs w us es ps)
  unfolding Left
  left_first w us es ps h = (simp unary_clauses h, refl)

  module _ (i start : ℕ) (w : State L) (us : List (Request L)) (es : List (Event L)) (ps : List (Place L)) (all : Listed L) (left : Left i start w us es ps all) where
    pub left_last : length us ≤ i → listed (Ok tt) w es ps ≡ all
    unfolding Left
    left_last h = rw (← (take-append-drop i es), ← (take-append-drop start ps)) (sym (ap (λ vs. behind i start w vs es ps) (drop_all i us h)) ∙ left.1)

    module _ (u : Request L) (is : u ≡ get_or us i u) (more : i < length us) (within : start ≤ length ps) where
      room_enough : room (get_or us i u).ask ≤ length ps - start
      unfolding Left
      room_enough = room_here us i (length ps - start) u more left.0

      pub left_room : start + room u.ask ≤ length ps
      left_room = omega (arith, room_enough, ap (λ (v : Request L). room v.ask) is)

      pub left_later : (a : Result (Answer L) (Refusal L)) (w' : State L) (es' : List (Event L)) (ps' : List (Place L)) → single (Ok a) w' ps' ≡ answered_from start u (step k rs w u) ps → es' ≡ set es i (kept w u a w') → i < length es → length ps' ≡ length ps →
          Left (i + 1) (start + room u.ask) w' us es' ps' all
      unfolding Left
      left_later a w' es' ps' e put some long =
          let next : drop i us ≡ u ∷ drop (i + 1) us = rw add-one (drop-cons us i u more ∙ ap (λ v. v ∷ drop (suc i) us) (sym is)) in
          let rest : length ps' - (start + room u.ask) ≡ (length ps - start) - room (get_or us i u).ask = omega (arith, ap (λ (v : Request L). room v.ask) is) in (
            ap (λ m. short_of (i + 1) m (drop (i + 1) us)) rest ∙ short_later us i (length ps - start) u more room_enough ∙ left.0,
            behind_later i start w u (drop (i + 1) us) a w' es es' ps ps' e put some left_room ∙ sym (ap (λ vs. behind i start w vs es ps) next) ∙ left.1,
          )
