-- The worked example, by computation. Assumes nothing.
use Rattle.std.proofs.Common.{◌≡◌, true, leb, List, [], ◌∷◌, length, set, ℤ, None, Ok, Result, sym, refl, ap, ◌∙◌, ap₂, take-append-drop}
use Rattle.labels.specs.Kind.{Kind}
use Rattle.labels.specs.declared.Rung.{Rung}
use Rattle.labels.specs.Rung.{rungs}
use Rattle.tables.specs.declared.records.TableRecord.{TableRecord}
use Rattle.tables.specs.declared.queries.Place.{Place}
use Rattle.tables.specs.Outcomes.{filled}
use Rattle.monitor.specs.declared.requests.Request.{Request}
use Rattle.monitor.specs.declared.requests.Event.{Event}
use Rattle.monitor.specs.declared.requests.ShortBuffer.{ShortBuffer}
use Rattle.monitor.specs.Steps.{State, run, replies}
use Rattle.monitor.specs.Lists.{Listed, short_of, laid, listed, serving_each, serving_all}
use Rattle.rung_requests.specs.Example.{table_records, requests_with}
use Rattle.worked_example.specs.Example.{at_first, worked, row_with, seen_at_3, seen_always}

pub sees : (v : ℤ) → seen_at_3 v ≡ seen_always
sees v = refl

-- As many events as are lent fill them all.
filled_all : {X : Type 0} (xs ys : List X) → length xs ≡ length ys → filled xs ys ≡ xs
filled_all [] [] e = refl
filled_all [] (y ∷ ys) e = cc
filled_all (x ∷ xs) [] e = cc
filled_all (x ∷ xs) (y ∷ ys) e = let h : length xs ≡ length ys = cc in cc (filled_all xs ys h)

-- The first four places are the fourth request's, which is refused, and the fifth is the row's.
lays : (v : ℤ) (ps : List (Place Rung)) → laid (requests_with v) (replies rungs table_records at_first (requests_with v)) ps ≡ set ps 4 (row_with v)
lays v [] = refl
lays v (a ∷ []) = refl
lays v (a ∷ b ∷ []) = refl
lays v (a ∷ b ∷ c ∷ []) = refl
lays v (a ∷ b ∷ c ∷ d ∷ []) = refl
lays v (a ∷ b ∷ c ∷ d ∷ e ∷ ps) = ap (λ qs. a ∷ b ∷ c ∷ d ∷ row_with v ∷ qs) (take-append-drop 3 ps)

-- Where events and places suffice every request is served.
suffices : {L : Type 0} (k : Kind L) (rs : List (TableRecord L)) (w : State L) (us : List (Request L)) (es : List (Event L)) (ps : List (Place L)) →
    leb (length us) (length es) ≡ true → short_of 0 (length ps) us ≡ None → serving_all k rs w us es ps ≡ serving_each k rs w us es ps
suffices k rs w us es ps enough fits = rw (enough, fits)

serves : (v : ℤ) (es : List (Event Rung)) (ps : List (Place Rung)) → length es ≡ 15 → length ps ≡ 8 →
    serving_all rungs table_records at_first (requests_with v) es ps ≡ listed (Ok tt) (run rungs table_records at_first (requests_with v)) worked (set ps 4 (row_with v))
serves v es ps le lp =
    suffices rungs table_records at_first (requests_with v) es ps (ap (leb 15) le) (ap (λ n. short_of 0 n (requests_with v)) lp)
    ∙ ap₂ (listed (Ok tt) (run rungs table_records at_first (requests_with v))) (filled_all worked es (sym le)) (lays v ps)

-- What a call that served the requests returned and left.
pub plays : (v : ℤ) (rs : List (TableRecord Rung)) (w w_end : State Rung) (us : List (Request Rung)) (es es-end : List (Event Rung)) (ps ps-end : List (Place Rung)) (r : Result Unit ShortBuffer) →
    rs ≡ table_records → w ≡ at_first → us ≡ requests_with v → length es ≡ 15 → length ps ≡ 8 →
    listed r w_end es-end ps-end ≡ serving_all rungs rs w us es ps → (r ≡ Ok tt) × (es-end ≡ worked) × (ps-end ≡ set ps 4 (row_with v))
plays v rs w w_end us es es-end ps ps-end r hr hw hu le lp e =
    let h : listed r w_end es-end ps-end ≡ listed (Ok tt) (run rungs table_records at_first (requests_with v)) worked (set ps 4 (row_with v)) =
    e ∙ (λ i. serving_all rungs (hr i) (hw i) (hu i) es ps) ∙ serves v es ps le lp in
    (ap (λ (o : Listed Rung). o.outcome) h, ap (λ (o : Listed Rung). o.events) h, ap (λ (o : Listed Rung). o.places) h)
