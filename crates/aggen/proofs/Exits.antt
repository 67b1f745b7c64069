-- What holds at the exit of a `?`, and of a device that a call doesn't write to.
use Rattle.aggen.proofs.Common
use Common.{◌≡◌, ℕ, Bool, List, Result, Ok, Err, WhenHonest}
use Rattle.std.specs.Result.{IsErr, IsErrAnd, MatchResult}
use Rattle.treefile.specs.devices.Device.{Persists}

-- what holds of the fault that a `?` returns holds of the result
pub at_exit : {T E : Type 0} {e : E} (r : Result T E) (P : T → Type 0) (Q : E → Type 0) → IsErr r × IsErrAnd r (λ y. y ≡ e) → Q e
    → MatchResult r P Q
at_exit (Ok x) P Q exit holds = absurd exit.1
at_exit (Err y) P Q exit holds = rw exit.1 holds

-- the same, where the result has to be a fault
pub at_error : {T E : Type 0} {e : E} (r : Result T E) (Q : E → Type 0) → IsErr r × IsErrAnd r (λ y. y ≡ e) → Q e → IsErrAnd r Q
at_error (Ok x) Q exit holds = exit.1
at_error (Err y) Q exit holds = rw exit.1 holds

-- what holds of the content of a device still holds after a call that keeps the content
pub still : {ha ha' : Bool} {m n : ℕ} {a a' : List ℕ} {E : Type 0} (P : List ℕ → Type 0) → Persists ha ha' m n E
    → WhenHonest ha' (a' ≡ a) → WhenHonest ha (P a) → WhenHonest ha' (P a')
still P persists same holds h = rw (same h) (holds (persists.honest h))
