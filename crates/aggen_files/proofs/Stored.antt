-- What a device has stored, if it has buffered nothing.
use Rattle.std.proofs.Common.{◌≡◌, ◌++◌, ℕ, List, [], append-nil, ap, sym, ◌∙◌}
use Rattle.aggen_files.specs.Stored.{StoresPrefix}

pub all_stored : (xs : List ℕ) → StoresPrefix xs xs
all_stored xs = ([], sym (append-nil xs))

pub nothing_buffered : (xs ys : List ℕ) → ys ≡ [] → xs ≡ xs ++ ys
nothing_buffered xs ys none = sym (ap (λ (w : List ℕ). xs ++ w) none ∙ append-nil xs)
