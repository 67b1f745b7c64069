use Rattle.std.proofs.Common.{◌≡◌, ◌∙◌, Some, None, ap, subst, sym}
use Rattle.std.proofs.lemmas.Str.{is_utf8-from_IsUtf8}
use Rattle.ag_value.specs.operations.Tables.{with_pair}
use Rattle.ag_value.specs.Well.{IsWell}
use Rattle.ag_value.specs.declared.value.Value.TheVariants as v
use Rattle.table_tree.specs.Putting.{IsFaultOf}
use Rattle.table_tree.proofs.Keys.{Pair}
use Rattle.table_tree.proofs.Totalling.{fit_within, put_fault}
use Rattle.table_tree.proofs.With.{well_with}
use Rattle.table_tree.proofs.tree.TableTree.put.Goals as goal

pub returns-in-Some : goal.returns-in-Some
returns-in-Some c =
    let entry : c.in_ok-entry-2.entry.value ≡ (c.args.key.now, c.args.value) =
    cc (c.in_ok-entry-2.ensures.ok, c.in_ok-entry.ensures, c.in_ok-from_str.ensures) in
    put_fault (with_pair c.args.key.now c.args.value c.args.self.now) c.in-Some.fault
    (subst (λ (p : Pair). IsFaultOf (with_pair p.0 p.1 c.args.self.now) (Some c.in-Some.fault)) (c.as_ref.ensures ∙ entry)
    c.in-Some.ensures.fault)

pub with_entry-requires : goal.with_entry-requires
with_entry-requires c =
    let entry : c.in_ok-entry-2.entry.value ≡ (c.args.key.now, c.args.value) =
    cc (c.in_ok-entry-2.ensures.ok, c.in_ok-entry.ensures, c.in_ok-from_str.ensures) in
    subst (λ (p : Pair). IsWell (v.Table (with_pair p.0 p.1 c.args.self.now))) (sym entry)
    (well_with (c.args.key.now, c.args.value) c.args.self.now c.in_default.ensures.well
    (is_utf8-from_IsUtf8 c.args.key.now c.utf8.key) c.requires.item
    (subst (λ (p : Pair). IsFaultOf (with_pair p.0 p.1 c.args.self.now) None) (c.as_ref.ensures ∙ entry)
    c.in_default.ensures.fault))

pub returns : goal.returns
returns c =
    let entry : c.in_ok-entry-2.entry.value ≡ (c.args.key.now, c.args.value) =
    cc (c.in_ok-entry-2.ensures.ok, c.in_ok-entry.ensures, c.in_ok-from_str.ensures) in
    fit_within (with_pair c.args.key.now c.args.value c.args.self.now)
    (subst (λ (p : Pair). IsFaultOf (with_pair p.0 p.1 c.args.self.now) None) (c.as_ref.ensures ∙ entry)
    c.in_default.ensures.fault)
    ∙ ap v.Table (sym (c.in_ok-table.ensures ∙ ap (λ (p : Pair). with_pair p.0 p.1 c.args.self.now) entry))
