-- The bytes of an `Encoded`, for each source. All of this is this project's.
use Rattle.std.specs.Prelude.{ℕ, List}
use Rattle.ag_value.specs.Spelling.{spelling_of}
use Rattle.ag_value.specs.declared.value.Value.{Table, Text}
use Rattle.ag_value.specs.declared.value.Value.{List as ListValue}
use Rattle.ag_carried.specs.declared.encoded.Source.{Source}

-- the encoding of the value that a source stores
abbrev pub source_encoding : Source → List ℕ
source_encoding (Source.Spelled shared) = spelling_of shared.value
source_encoding (Source.Text text) = spelling_of (Text text)
source_encoding (Source.Table table) = spelling_of (Table table)
source_encoding (Source.List list) = spelling_of (ListValue list)
