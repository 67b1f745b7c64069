-- The listings of a plan and of its code, as bytes. In these definitions `rows` is an assignment: for each symbol it has a list
-- with the number, from 1, of each attribute's pass. g is a grammar, k the number of a pass, q a production, p its number, and j
-- a place in it (0 is the left side). a is the number of an attribute at its symbol, and r the number of a rule in its
-- production, both from 0. All of this is this project's.
use Rattle.std.specs.Prelude.{ℕ, zero, suc, ◌≡◌, ◌==◌, if◌then◌else◌, List, [], ◌++◌, Option, map, codes, decimal, slice_index_or}
use Rattle.std.specs.Io.KnownBytes.{Appends}
use Rattle.std.specs.List.{enumerate_from, flat_map, zip}
use Rattle.ag_value.specs.Shown.{separated}
use Rattle.ag_grammar.specs.declared.grammar.Production.{Production}
use Rattle.ag_grammar.specs.declared.grammar.Symbol.{Symbol}
use Rattle.ag_grammar.specs.grammars.AttributeGrammar.{Grammar, attribute_names, item_at, item_names}
use Rattle.ag_grammar.specs.grammars.Passes.{direction_name, direction_of}
use Rattle.passassign.specs.Rows.{IsGreatest}
use Rattle.passcode.specs.Rows.{Lists}
use Rattle.passcode.specs.declared.instr.Instr.{Instr}
use Rattle.passcode.specs.declared.instr.Instr.TheVariants as instr
use Rattle.agoutput.specs.Writing.{AppendsBeginning}

-- the text of an attribute in the line of pass k: a space and `SYMBOL.ATTRIBUTE` if the attribute's pass is k, else nothing.
-- `name` is the name of the symbol, and x is the pair of the attribute's name and pass
abbrev pub attribute_text : ℕ → List ℕ → List ℕ × ℕ → List ℕ
attribute_text k name x = if x.1 == k then codes " " ++ name ++ codes "." ++ x.0 else []

-- the attributes of a symbol in the line of pass k; x is the pair of the symbol and the passes of its
-- attributes
abbrev pub symbol_text : ℕ → Symbol × List ℕ → List ℕ
symbol_text k x = flat_map (attribute_text k x.0.name) (zip (attribute_names x.0) x.1)

-- the line of pass k: its number, its direction, and the attributes that it computes, symbol by symbol
abbrev pub pass_line : Grammar → List (List ℕ) → ℕ → List ℕ
pass_line g rows k =
    codes "pass " ++ decimal k ++ codes " " ++ direction_name (direction_of k) ++ codes ":" ++ flat_map (symbol_text k)
    (zip g.symbols rows) ++ codes "\n"

-- the lines of the passes from 1 to n
abbrev pub plan_text : Grammar → List (List ℕ) → ℕ → List ℕ
plan_text g rows zero = []
plan_text g rows (suc n) = plan_text g rows n ++ pass_line g rows (suc n)

-- The text is the listing of an assignment: the lines of all its passes.
pub record IsPlanListing (g : Grammar) (rows : List (List ℕ)) (text : List ℕ) : Type 0 where
  pub passes : ℕ
  pub greatest : IsGreatest passes rows
  pub lines : text ≡ plan_text g rows passes

-- the name of attribute a at place j of production q; empty if it does not exist
abbrev pub attribute_name : Grammar → Production → ℕ → ℕ → List ℕ
attribute_name g q j a = slice_index_or (item_names g (item_at q j)) a []

-- the text of an instruction for a node of a production, with the names of attributes instead of their numbers
abbrev pub instruction_text : Grammar → Production → Instr → List ℕ
instruction_text g q (instr.Get j) = codes "get " ++ decimal j
instruction_text g q (instr.Set j a r) =
    codes "set " ++ decimal j ++ codes "." ++ attribute_name g q j a ++ codes " rule " ++ decimal r
instruction_text g q (instr.Go j) = codes "go " ++ decimal j
instruction_text g q (instr.Put j) = codes "put " ++ decimal j
instruction_text g q (instr.Def a r) = codes "def " ++ attribute_name g q 0 a ++ codes " rule " ++ decimal r
instruction_text g q instr.End = codes "end"

-- The line of production q and a pass: the number p of the production, the number of the pass, and the instructions, separated
-- by a comma and a space. x is the pair of the number of the pass and the instructions.
abbrev pub code_line : Grammar → ℕ → Production → ℕ × List Instr → List ℕ
code_line g p q x =
    decimal p ++ codes " pass " ++ decimal x.0 ++ codes ": " ++ separated (map (instruction_text g q) x.1) ++ codes "\n"

-- The lines of a production, one for each pass from 1. x is a pair: first the pair of the production's number and the production,
-- and then the production's lists of instructions.
abbrev pub production_text : Grammar → (ℕ × Production) × List (List Instr) → List ℕ
production_text g x = flat_map (code_line g x.0.0 x.0.1) (enumerate_from 1 x.1)

-- the listing of code: the lines of the productions, numbered from 0 in the order of the grammar's text
abbrev pub code_text : Grammar → Lists → List ℕ
code_text g code = flat_map (production_text g) (zip (enumerate_from 0 g.productions) code)

-- the listing of an assignment was appended to a writer's bytes, if contracts can name these
abbrev pub AppendsPlan : Grammar → List (List ℕ) → Option (List ℕ) → Option (List ℕ) → Type 0
AppendsPlan g rows old new = (text : List ℕ) × IsPlanListing g rows text × Appends old new text

-- a prefix of the listing of an assignment was appended to a writer's bytes, if contracts can name these
abbrev pub AppendsPlanBeginning : Grammar → List (List ℕ) → Option (List ℕ) → Option (List ℕ) → Type 0
AppendsPlanBeginning g rows old new = (text : List ℕ) × IsPlanListing g rows text × AppendsBeginning old new text
