-- A handle owns a translator on the heap, and the right to free its memory; or nothing, if its pointer is null. This project's.
use Rattle.std.specs.Prelude.{Option, Some, None}
use Rattle.std.specs.Coded.{Coded, coded_option}
use base.Fml.{Fml, feq}
use denote.RawPtr.{Ptr, null_ptr}
use Rattle.std.specs.declared.alloc.Global.{Global}
use Rattle.std.specs.contracts.impls.GlobalAllocator.TheImpl.{ghosts}
use Rattle.std.specs.Box.Ownership.{box_owns}
use Rattle.ag_grammar.specs.grammars.AttributeGrammar.{Grammar}
use Rattle.aggen.specs.contracts.translator.Translator as translator

-- What a handle with this pointer owns. Given the grammar of a translator: the box of such a translator at the pointer, with the
-- right to free it (`box_owns`). Given `None`: nothing, and the pointer is null (`feq` is an equation). A `Fml` is a statement
-- about the memory that something owns.
abbrev pub holds : Global → Ptr → Option Grammar → Fml
holds alloc at (Some g) = box_owns (ghosts.dealloc_token alloc) translator.the_row at g
holds alloc at None = feq Ptr at null_ptr

-- how proofs encode the handle's ghost field, which is the grammar of its translator, or none; no contract uses this
abbrev pub grammar_code : Coded (Option Grammar)
grammar_code = coded_option translator.the_row.coded
