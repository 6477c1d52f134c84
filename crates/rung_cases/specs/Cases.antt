-- How a session stands, and what playing cases answers. Assumes nothing.
use Rattle.std.specs.Prelude.{◌≡◌, ◌≢◌, ℕ, List, Some, Option, Result, MatchResult, option_map, take}
use Rattle.std.specs.List.{slice_get, FoldsTo}
use Rattle.labels.specs.declared.Rung.{Rung}
use Rattle.sessions.specs.declared.Session.{Session}
use Rattle.sessions.specs.declared.Standing.{Standing}
use Rattle.monitor.specs.Steps.{standing_of}
use Rattle.rung_cases.specs.declared.expected.Expected.{Expected}
use Rattle.rung_cases.specs.declared.expected.Mismatch.{Mismatch}
use Rattle.rung_cases.specs.declared.requests.Request.{Request}

-- The numbers of the label and of the clearance.
abbrev pub numbers_of : Standing Rung → ℕ × ℕ
numbers_of s = (s.label.number, s.clearance.number)

-- The numbers of the session of this number, none where it is closed or missing.
abbrev pub numbers_at : List (Session Rung) → ℕ → Option (ℕ × ℕ)
numbers_at ss i = option_map numbers_of (standing_of (slice_get ss i))

-- What comes of a request is its answer and the numbers of its session after it.
abbrev pub Came : Type 0
Came = Expected × Option (ℕ × ℕ)

-- A case is a request and what is expected of it.
abbrev pub Trial : Type 0
Trial = Request × Expected × Option (ℕ × ℕ)

module _ {F : Type 0} (step : F → Request → Came → F → Type 0) where
  -- A call with the request of a case gives what is expected of it.
  abbrev pub AsExpected : F → Trial → F → Type 0
  AsExpected f c g = step f c.0 (c.1, c.2) g

  -- Calls with the cases before this one give what is expected, and the call with this one's request does not.
  pub record ComesOtherwise (f : F) (cs : List Trial) (m : Mismatch) : Type 0 where
    pub case : slice_get cs m.number ≡ Some (m.request, m.expected.0, m.expected.1)
    pub before : F
    pub after : F
    pub as_expected : FoldsTo AsExpected f (take m.number cs) before
    pub call : step before m.request m.came after
    pub otherwise : m.came ≢ m.expected

  -- Calls with all cases, one after another, give what is expected, or the first that does not is named.
  abbrev pub Plays : F → List Trial → Result Unit Mismatch → Type 0
  Plays f cs r = MatchResult r (λ _. (last : F) × FoldsTo AsExpected f cs last) (ComesOtherwise f cs)
