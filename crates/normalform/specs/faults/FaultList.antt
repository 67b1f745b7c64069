-- Lists of faults, and what a search has found: all faults, or the first one only.
use Rattle.std.specs.Prelude.{◌≡◌, ◌⊎◌, Bool, true, false, cond, not, ◌&&◌, List, [], ◌∷◌, ◌++◌, take}
use Rattle.normalform.specs.declared.fault.NormalFault.{NormalFault}
use Rattle.normalform.specs.faults.Faults.{Check}

-- the faults of the checks that fail, in their order
abbrev pub wrong : List Check → List NormalFault
wrong [] = []
wrong (c ∷ cs) = cond c.1 (wrong cs) (c.0 ∷ wrong cs)

-- whether a list has no fault
abbrev pub is_empty : List NormalFault → Bool
is_empty [] = true
is_empty (f ∷ fs) = false

-- What a search has found. If `only_first`, only the first fault is kept.
pub record Found : Type 0 where
  pub only_first : Bool
  pub items : List NormalFault

-- no more fault is kept
abbrev pub is_full : Found → Bool
is_full found = found.only_first && not (is_empty found.items)

-- the faults `old`, and those of `new` that are kept
abbrev pub kept : Bool → List NormalFault → List NormalFault → List NormalFault
kept false old new = old ++ new
kept true [] new = take 1 new
kept true (f ∷ fs) new = f ∷ fs

-- what is found after some more checks
abbrev pub after_checks : Found → List Check → Found
after_checks found checks = record {
  only_first = found.only_first;
  items = kept found.only_first found.items (wrong checks);
}

-- `none` says whether none of some checks has failed, unless the list is full
abbrev pub SaysIfNone : Found → List Check → Bool → Type 0
SaysIfNone found checks none = (is_full found ≡ true) ⊎ (none ≡ is_empty (wrong checks))
