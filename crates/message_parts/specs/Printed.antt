-- How positions are printed: this project's.
use Rattle.std.specs.Prelude.{ℕ, List, ◌++◌, codes, decimal}
use Rattle.message_parts.specs.declared.position.Position.{Position}

-- how the position in a text that has no file is printed, as `(line 4, column 47)`
abbrev pub position_text : Position → List ℕ
position_text position =
    codes "(line " ++ decimal position.line ++ codes ", column " ++ decimal position.column ++ codes ")"
