-- The requests that are written with numbers for labels. Assumes nothing.
use Rattle.std.specs.Prelude.{ℕ, ℤ, Ok, Err, Result}
use Rattle.labels.specs.declared.Rung.{Rung}
use Rattle.labels.specs.declared.UnlawfulLabel.{UnlawfulLabel}
use Rattle.labels.specs.Rung.{made}
use Rattle.sessions.specs.declared.Sealed.{Sealed}
use Rattle.sessions.specs.Steps.{sealed_value}
use Rattle.monitor.specs.declared.requests.Ask.{Ask as MonitorAsk}
use Rattle.monitor.specs.declared.requests.Ask.TheVariants.{Open as OpenOf, Raise as RaiseOf, LowerClearance as LowerOf, Seal as SealOf, Unseal as UnsealOf, Select as SelectOf, Insert as InsertOf, Delete as DeleteOf, Update as UpdateOf}
use Rattle.monitor.specs.declared.requests.Request.{Request as MonitorRequest}
use Rattle.rung_cases.specs.declared.requests.Ask.{Ask}
use Rattle.rung_cases.specs.declared.requests.Ask.TheVariants.{Open, Raise, Lower, Seal, Unseal, Select, Insert, Delete, Update}
use Rattle.rung_cases.specs.declared.requests.Request.{Request}

-- What is made of a value, unless there is an error in its place.
abbrev pub given : {A B E : Type 0} → Result A E → (A → Result B E) → Result B E
given (Ok a) make = make a
given (Err e) make = Err e

-- A value is sealed under the rung of a number, unless the number makes none.
abbrev pub sealed_under : ℕ → ℤ → Result (Sealed Rung) UnlawfulLabel
sealed_under a v = given (made a) (λ r. Ok (sealed_value r v))

-- The same is asked of a monitor, unless a number makes no label.
abbrev pub ask_of : Ask → Result (MonitorAsk Rung) UnlawfulLabel
ask_of (Open a b) = given (made a) (λ c. given (made b) (λ d. Ok (OpenOf c d)))
ask_of (Raise a) = given (made a) (λ c. Ok (RaiseOf c))
ask_of (Lower a) = given (made a) (λ c. Ok (LowerOf c))
ask_of (Seal v a) = given (made a) (λ c. Ok (SealOf v c))
ask_of (Unseal a v) = given (sealed_under a v) (λ s. Ok (UnsealOf s))
ask_of (Select t p n) = Ok (SelectOf t p n)
ask_of (Insert t f s) = given (sealed_under f.0 f.1) (λ a. given (sealed_under s.0 s.1) (λ b. Ok (InsertOf t a b)))
ask_of (Delete t p) = Ok (DeleteOf t p)
ask_of (Update t p f s) = given (sealed_under f.0 f.1) (λ a. given (sealed_under s.0 s.1) (λ b. Ok (UpdateOf t p a b)))

-- The session of a request is the same.
abbrev pub request_of : Request → Result (MonitorRequest Rung) UnlawfulLabel
request_of r = given (ask_of r.1) (λ a. Ok (record { session = r.0; ask = a }))
