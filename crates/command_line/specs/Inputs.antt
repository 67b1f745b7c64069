-- The names of inputs. This project's.
use Rattle.std.specs.Prelude.{ℕ, List, codes}
use Rattle.command_line.specs.declared.input.InputPath.{InputPath}
use Rattle.command_line.specs.declared.input.InputPath.TheVariants as input

-- the word of a command line that names an input
abbrev pub name_of : InputPath → List ℕ
name_of input.Standard = codes "-"
name_of (input.File path) = path.now
