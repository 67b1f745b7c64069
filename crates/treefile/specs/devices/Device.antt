-- The effects of a device's calls on its content and its failures. All of this is this project's.
use Rattle.std.specs.Prelude.{◌≡◌, ◌≢◌, ℕ, ◌^◌, ◌-◌, ◌<◌, ◌≤◌, ◌⊎◌, Bool, true, List, [], ◌∷◌, ◌++◌, take, Result, Ok, Err, refl}
use Rattle.std.proofs.Common.{inl, inr, lit<}
use Rattle.treefile.specs.declared.device.DeviceFault.{DeviceFault}
use Rattle.treefile.specs.declared.device.DeviceFault.TheVariants.{Failed, NoMemory}

-- the greatest number of failures that is counted: the greatest number of 64 bits
abbrev pub max_failures : ℕ
max_failures = 2 ^ 64 - 1

-- The number of failures rose from `before` to `after`. At the greatest number that is counted it can't grow, so there it
-- counts as risen, whether a call failed or not.
abbrev pub HasRisen : (before after : ℕ) → Type 0
HasRisen before after = (before < after) ⊎ (after ≡ max_failures)

-- The effects of a call on a device besides its content. A device that is honest after the call was honest
-- before it: a call can show that a device is dishonest, and no call makes it honest again. The number of
-- failures (`before` and `after` the call) never falls, stays within the greatest number that is counted, and rises if the call
-- failed with D1, which `failed` states.
pub record Persists (honest_before honest_after : Bool) (before after : ℕ) (failed : Type 0) : Type 0 where
  pub honest : honest_after ≡ true → honest_before ≡ true
  pub kept : before ≤ after
  pub bounded : before ≤ max_failures → after ≤ max_failures
  pub cause : failed → HasRisen before after

-- the fact holds if the device is honest
abbrev pub WhenHonest : Bool → Type 0 → Type 0
WhenHonest honest fact = honest ≡ true → fact

-- if the device is honest, its content is as before
abbrev pub LeavesContent : Bool → List ℕ → List ℕ → Type 0
LeavesContent honest old new = WhenHonest honest (new ≡ old)

-- the result is not NoMemory
abbrev pub TakesNoMemory : {A : Type 0} → Result A DeviceFault → Type 0
TakesNoMemory result = result ≢ Err NoMemory

-- The new content is the old one and then a prefix of the bytes, possibly none or all of them.
abbrev pub AppendsPrefix : List ℕ → List ℕ → List ℕ → Type 0
AppendsPrefix bytes old new = (n : ℕ) × (new ≡ old ++ take n bytes)

-- The content after an append: all bytes were appended; after Failed a prefix of them; after NoMemory none. This is
-- about a call with its result; the `Appends` of std (`Io.KnownBytes`) has no result, and states that all bytes
-- were appended to those of a writer, if they are known.
abbrev pub Appends : List ℕ → List ℕ → List ℕ → Result (Unit {0}) DeviceFault → Type 0
Appends bytes old new (Ok u) = new ≡ old ++ bytes
Appends bytes old new (Err Failed) = AppendsPrefix bytes old new
Appends bytes old new (Err NoMemory) = new ≡ old

-- The content after a clear: empty; after an error empty or unchanged.
abbrev pub Clears : List ℕ → List ℕ → Result (Unit {0}) DeviceFault → Type 0
Clears old new (Ok u) = new ≡ []
Clears old new (Err fault) = (new ≡ []) ⊎ (new ≡ old)

-- ---- worked examples

-- with one more failure the number has risen
pub risen_by_one : HasRisen 3 4
risen_by_one = inl (lit< tt)

-- at the greatest number that is counted the number has risen, though it is the same
pub risen_at_the_most : HasRisen 18446744073709551615 18446744073709551615
risen_at_the_most = inr refl

-- of two bytes the first was appended
pub prefix_of_two : AppendsPrefix (8 ∷ 9 ∷ []) (7 ∷ []) (7 ∷ 8 ∷ [])
prefix_of_two = (1, refl)
