-- Places that suffice, request by request. Assumes nothing.
use Rattle.std.proofs.Common.{◌≡◌, ℕ, ◌+◌, ◌-◌, ◌<◌, ◌≤◌, Bool, true, false, leb, List, length, get_or, drop, Some, None, refl, add-one, arith, drop-cons, le-leb, leb-false, leb-true}
use borrow.Author.Tests.{lt-leb}
use Rattle.monitor.specs.declared.requests.Request.{Request}
use Rattle.monitor.specs.Lists.{room, short_of}

module _ {L : Type 0} (us : List (Request L)) (i left : ℕ) where
  module _ (u : Request L) (h : i < length us) where
    pub short_here : left < room (get_or us i u).ask → short_of i left (drop i us) ≡ Some i
    short_here s = rw (drop-cons us i u h, lt-leb (room (get_or us i u).ask) left s)

    pub short_later : room (get_or us i u).ask ≤ left → short_of (i + 1) (left - room (get_or us i u).ask) (drop (i + 1) us) ≡ short_of i left (drop i us)
    short_later s = rw (add-one, drop-cons us i u h, le-leb (room (get_or us i u).ask) left s)

    -- where no request is short, this one is not
    pub room_here : short_of i left (drop i us) ≡ None → room (get_or us i u).ask ≤ left
    room_here e = by_test (leb (room (get_or us i u).ask) left) refl
      where
        by_test : (b : Bool) → leb (room (get_or us i u).ask) left ≡ b → room (get_or us i u).ask ≤ left
        by_test true t = leb-true _ _ t
        by_test false t = let z : ◌≡◌ {A = ℕ} 0 1 = cc (short_here (leb-false _ _ t)) in absurd (omega arith)
