-- Lists to which only members with a property are appended.
use Rattle.std.proofs.Common.{◌≡◌, ◌++◌, ◌⊎◌, inl, inr, List, [], ◌∷◌, subst}
use Rattle.ag_grammar.specs.Lists.{Has}
use Rattle.passassign.proofs.slots.Lists.{has_cases}

-- if the appended element has the property, each member was there before or has the property
pub had_or_new : {A : Type 0} (P : A → Type 0) (old new : List A) (y : A) → new ≡ old ++ y ∷ [] → P y → (x : A) → Has new x
    → Has old x ⊎ P x
had_or_new P old new y is so x h =
    elim (has_cases old y x (subst (λ zs. Has zs x) is h)) [ inl there ↦ inl there | inr same ↦ inr (subst P same so) ]

-- if all earlier members have the property, and each other member has it, all members have it
pub all_so : {A : Type 0} (P : A → Type 0) (old new : List A) → ((x : A) → Has old x → P x)
    → ((x : A) → Has new x → Has old x ⊎ P x) → (x : A) → Has new x → P x
all_so P old new before put x h = elim (put x h) [ inl there ↦ before x there | inr so ↦ so ]
