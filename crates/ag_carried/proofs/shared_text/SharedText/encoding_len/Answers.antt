use Rattle.std.proofs.Common.{rules, ◌≡◌, ◌++◌, ◌<◌, ℕ, List, length, slice_index, sym, ap, subst, ◌∙◌, arith, length-append}
use Rattle.ag_value.specs.Spelling.{spelling_of}
use Rattle.ag_value.specs.declared.value.Value.{Text}
use Rattle.ag_carried.proofs.Texts.{bytes_append, length-encoding}
use Rattle.ag_carried.proofs.shared_text.SharedText.encoding_len.Goals as goal

pub overflow_add-result : goal.overflow_add-result
overflow_add-result c =
    let text = c.self.inside.rope in
    let parts : spelling_of (Text text) ≡ c.header-header.result ++ text = search rules in
    omega (
      arith,
      c.byte_count.ensures.len,
      c.len.ensures.len,
      c.self.invariant.short,
      length-encoding text,
      ap length parts ∙ length-append c.header-header.result text,
    )

pub returns-clause-bytes : goal.returns-clause-bytes
returns-clause-bytes c =
    let parts : spelling_of (Text c.args.self.now) ≡ c.header-header.result ++ c.self.inside.rope = search rules in
    subst (λ (xs : List ℕ). (i : ℕ) → slice_index xs i < 256) (sym parts)
    (bytes_append c.header-header.result c.self.inside.rope c.byte_count.ensures.bytes c.len.ensures.bytes)
