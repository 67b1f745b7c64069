use Rattle.std.proofs.Common.{List, ℕ, subst}
use Rattle.ag_value.specs.Well.{IsWell}
use Rattle.ag_value.specs.declared.value.Value.{Text}
use Rattle.ag_carried.proofs.Texts.{well_text}
use Rattle.ag_carried.proofs.shared_text.SharedText.len.Goals as goal

pub returns-clause-well : goal.returns-clause-well
returns-clause-well c =
    subst (λ (t : List ℕ). IsWell (Text t)) c.self.view_is (well_text c.self.inside.rope c.self.invariant)
