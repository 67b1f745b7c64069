use Rattle.std.proofs.Common.{rules, ◌≡◌, sym, ap, ◌∙◌}
use Rattle.ag_value.specs.Spelling.{spelling_of}
use Rattle.ag_value.specs.Well.{IsWell}
use Rattle.ag_carried.proofs.Encodings.{equal_encodings}
use Rattle.ag_carried.proofs.spelled.Spelled.same.Goals as goal

pub returns : goal.returns
returns c =
    let one : IsWell c.args.self.now = search rules in
    let other : IsWell c.args.other.now = search rules in
    let a : c.as_slice.result.now ≡ spelling_of c.args.self.now = search rules in
    let b : c.as_slice-2.result.now ≡ spelling_of c.args.other.now = search rules in (
      λ t. let e : c.as_slice.result.now ≡ c.as_slice-2.result.now = search rules in
          equal_encodings c.args.self.now c.args.other.now one other (sym a ∙ e ∙ b),
      λ e. let s : c.as_slice.result.now ≡ c.as_slice-2.result.now = a ∙ ap spelling_of e ∙ sym b in search rules,
    )
