-- The storage of texts. All of this is this project's.
use Rattle.std.specs.Prelude.{ℕ, List, string_bytes}
use Rattle.ag_value.specs.declared.text.Storage.{Storage}

-- the bytes of the text
abbrev pub storage_bytes : Storage → List ℕ
storage_bytes (Storage.Short short) = short.bytes
storage_bytes (Storage.Long string) = string_bytes string
