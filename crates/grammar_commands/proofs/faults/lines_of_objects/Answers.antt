use Rattle.std.proofs.Common.{◌≡◌, ◌++◌, ◌∙◌, [], ℕ, List, ap, append-nil, append_assoc, arith, refl, rules, string_bytes, subst, sym}
use Rattle.std.proofs.lemmas.Grind.{common_steps}
use Rattle.std.specs.Vec.Iter.{into_iter_items}
use Rattle.ag_fault.specs.declared.fault.Fault.{Fault}
use Rattle.grammar_commands.specs.FaultLists.{AreObjectsOf}
use Rattle.grammar_commands.proofs.faults.lines_of_objects.Goals as goal

pub loop-fault-preserved : goal.loop-fault-preserved
loop-fault-preserved c = λ others then.
    let line = string_bytes c.in_ok-line.line in
    let same : string_bytes c.loop-fault.lines ++ (line ++ others) ≡ string_bytes c.push_str.new.self ++ others =
    sym (append_assoc (string_bytes c.loop-fault.lines) line others) ∙ ap (λ w. w ++ others) (search rules) in
    subst (λ (w : List ℕ). AreObjectsOf c.args.faults.items w) same
    (c.loop-fault.invariant (line ++ others)
    (subst (λ (es : List Fault). AreObjectsOf es (line ++ others)) (sym c.in-Some.ensures.steps.0)
    (line, others, search rules, refl, then)))

pub returns : goal.returns
returns c =
    let none : into_iter_items c.loop-fault.fault-iterator ≡ [] = grind (arith, common_steps) in
    subst (λ (w : List ℕ). AreObjectsOf c.args.faults.items w) (append-nil (string_bytes c.loop-fault.lines))
    (c.loop-fault.invariant [] (subst (λ (es : List Fault). AreObjectsOf es []) (sym none) refl))
