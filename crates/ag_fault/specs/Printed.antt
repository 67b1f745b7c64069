-- How the program's faults are printed: each text begins with the fault's number, or with `usage` or `NoMemory`. This project's.
use Rattle.std.specs.Prelude.{ℕ, List, [], ◌++◌, Option, Some, None, codes, decimal, flat_map, slice_get}
use Rattle.ag_expr.specs.Printed.{printed as printed_expr}
use Rattle.ag_grammar.specs.declared.grammar.Symbol.{Symbol}
use Rattle.ag_grammar.specs.grammars.AttributeGrammar.{Grammar, attribute_names}
use Rattle.ag_job.specs.Printed.{printed as printed_job}
use Rattle.ag_scan.specs.Printed.{printed as printed_scan}
use Rattle.ag_text.specs.Printed.{printed as printed_text}
use Rattle.llparse.specs.Printed.{printed as printed_parse, printed_table}
use Rattle.normalform.specs.Printed.{printed as printed_normal}
use Rattle.pass_rows.specs.Printed.{printed as printed_run}
use Rattle.ag_fault.specs.declared.fault.Fault.{Fault}
use Rattle.ag_fault.specs.declared.fault.Fault.TheVariants as fault
use Rattle.ag_fault.specs.declared.stuck_grammar.StuckGrammar.{StuckGrammar}

-- the name of a symbol, a point and the name of its attribute, as in `L.p`; empty if there is no such attribute (`None`)
abbrev pub name_of_attribute : Symbol → Option (List ℕ) → List ℕ
name_of_attribute symbol None = []
name_of_attribute symbol (Some name) = symbol.name ++ codes "." ++ name

-- the same from a symbol, if there is one, and the number of its attribute, from 0; empty if the symbol or attribute is missing
abbrev pub name_at : Option Symbol → ℕ → List ℕ
name_at None attribute = []
name_at (Some symbol) attribute = name_of_attribute symbol (slice_get (attribute_names symbol) attribute)

-- the same from a grammar, the number of the symbol and the number of its attribute, both from 0
abbrev pub qualified_name : Grammar → ℕ → ℕ → List ℕ
qualified_name g symbol attribute = name_at (slice_get g.symbols symbol) attribute

-- an attribute as `qualified_name` has it, after a space; x has the number of the symbol and that of its attribute
abbrev pub attribute_text : Grammar → ℕ × ℕ → List ℕ
attribute_text g x = codes " " ++ qualified_name g x.0 x.1

-- A1, and then each attribute to which no pass can be assigned, as in `A1 R.out A.s A.i`
abbrev pub printed_stuck : StuckGrammar → List ℕ
printed_stuck s = codes "A1" ++ flat_map (attribute_text s.grammar) s.stuck.set

-- the text of a fault; a fault that contains a fault of another crate is printed as the contained fault
abbrev pub printed : Fault → List ℕ
printed fault.Usage = codes "usage: the arguments of the command line can't be read"
printed fault.File = codes "F1 the file can't be opened, read or created"
printed (fault.Expr e) = printed_expr e
printed (fault.Text e) = printed_text e
printed (fault.Normal e) = printed_normal e
printed (fault.Table e) = printed_table e
printed (fault.Assign s) = printed_stuck s
printed (fault.Scan e) = printed_scan e
printed (fault.Parse e) = printed_parse e
printed (fault.Run e) = printed_run e
printed (fault.Job e) = printed_job e
printed (fault.NoText x) = codes "O1 the translation is not a text"
printed fault.NotATreeFile = codes "B1 the device does not contain a tree file"
printed (fault.Damaged at) = codes "B2 at " ++ decimal at ++ codes ": the tree file is damaged here"
printed fault.Device = codes "D1 reading or writing failed"
printed fault.Write = codes "O2 the output could not be written completely"
printed fault.NoMemory = codes "NoMemory a request for memory was refused"
