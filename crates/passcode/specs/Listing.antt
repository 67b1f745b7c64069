-- The rest of the list for a production and a pass in a state of a node: the instructions that were not run. At the start it is
-- the list that `generate` returns. In this file, m is an assignment, q a production, k a pass, j a place of q, and o an
-- attribute at a place; `done` has the numbers of the rules that were run.
use Rattle.std.specs.Prelude.{ℕ, suc, ◌≡◌, ◌-◌, Bool, false, cond, nat_eq, List, [], ◌∷◌, ◌++◌, Option, Some, None, length}
use Rattle.std.specs.List.{flat_map, list_any, position, range_with_len}
use Rattle.ag_grammar.specs.declared.grammar.Item.{Item}
use Rattle.ag_grammar.specs.declared.grammar.Item.TheVariants as item
use Rattle.ag_grammar.specs.declared.grammar.Production.{Production}
use Rattle.ag_grammar.specs.declared.grammar.Target.{Target}
use Rattle.ag_grammar.specs.grammars.AttributeGrammar.{Grammar, IsProduction, item_at}
use Rattle.ag_grammar.specs.grammars.Counts.{is_pass, pass_at}
use Rattle.ag_grammar.specs.grammars.Passes.{Passes, item_passes}
use Rattle.passcode.specs.declared.instr.Instr.{Instr}
use Rattle.passcode.specs.declared.instr.Instr.TheVariants as instr
use Rattle.passcode.specs.Agreement.{set_or_def}
use Rattle.passcode.specs.Rows.{Lists, IsListAt}
use Rattle.passcode.specs.Course.{Phase, Between, Got, Gone, Ended, arity, place_of}

-- two attributes at places are the same
abbrev pub is_same : Target → Target → Bool
is_same o w = cond (nat_eq o.place w.place) (nat_eq o.attr w.attr) false

-- the number of the rule that computes an attribute at a place, if there is one
abbrev pub rule_for : Production → Target → Option ℕ
rule_for q o = position (λ u. is_same u.target o) q.rules

-- the instruction that computes o by the rule whose number is the third argument; none if there is no rule, or if it was run
abbrev pub remaining_instruction : List ℕ → Target → Option ℕ → List Instr
remaining_instruction done o None = []
remaining_instruction done o (Some r) = cond (list_any (nat_eq r) done) [] (set_or_def o.place o.attr r ∷ [])

-- the instruction that computes an attribute, if it has pass k and its rule was not run
abbrev pub remaining_for : Passes → Production → ℕ → List ℕ → Target → List Instr
remaining_for m q k done o = cond (is_pass k (pass_at m q o)) (remaining_instruction done o (rule_for q o)) []

-- the instructions of `remaining_for` for each attribute at place j, in the order of the attributes' numbers
abbrev pub remaining_at : Passes → Production → ℕ → List ℕ → ℕ → List Instr
remaining_at m q k done j = flat_map (λ a. remaining_for m q k done (record { place = j; attr = a }))
    (range_with_len 0 (length (item_passes m (item_at q j))))

-- the instructions of the child at place j after its `Get`, if it is a symbol and not a token
abbrev pub child_part : Passes → Production → ℕ → List ℕ → ℕ → List Instr
child_part m q k done j = remaining_at m q k done j ++ instr.Go j ∷ instr.Put j ∷ []

-- the instructions of a place with this item: the pass has nothing to do in a token
abbrev pub visit : Passes → Production → ℕ → List ℕ → ℕ → Option Item → List Instr
visit m q k done j (Some (item.Symbol s)) = instr.Get j ∷ child_part m q k done j
visit m q k done j (Some (item.Terminal t)) = instr.Get j ∷ instr.Put j ∷ []
visit m q k done j None = []

-- the instructions of n places, beginning with the one that is visited after t others
abbrev pub visits : Passes → Production → ℕ → List ℕ → (t n : ℕ) → List Instr
visits m q k done t n = flat_map (λ t. visit m q k done (place_of q k t) (item_at q (place_of q k t))) (range_with_len t n)

-- the instructions of the node's own attributes that were not run, and the `End`
abbrev pub own_part : Passes → Production → ℕ → List ℕ → List Instr
own_part m q k done = remaining_at m q k done 0 ++ instr.End ∷ []

-- the instructions of all places but the first t that the pass visits, then those of the node's own attributes, and `End`
abbrev pub remaining_from : Passes → Production → ℕ → List ℕ → ℕ → List Instr
remaining_from m q k done t = visits m q k done t (arity q - t) ++ own_part m q k done

-- the rest of the list in a state, by its phase, its number of complete children and its rules that were run
abbrev pub remaining_in : Passes → Production → ℕ → Phase → ℕ → List ℕ → List Instr
remaining_in m q k Between t done = remaining_from m q k done t
remaining_in m q k Got t done = child_part m q k done (place_of q k t) ++ remaining_from m q k done (suc t)
remaining_in m q k Gone t done = instr.Put (place_of q k t) ∷ remaining_from m q k done (suc t)
remaining_in m q k Ended t done = []

-- the list that `generate` returns for a production and a pass
abbrev pub generated_list : Passes → Production → ℕ → List Instr
generated_list m q k = remaining_from m q k [] 0

-- each list of code is the generated one for its production and its pass
abbrev pub AreGeneratedLists : Grammar → Passes → Lists → Type 0
AreGeneratedLists g m code = (p k : ℕ) (q : Production) (xs : List Instr) → IsProduction g p q → IsListAt code p k xs
    → xs ≡ generated_list m q k
