-- The bodies of a content, by the offsets at which their frames end. The letters g, x and q have the meaning that they have in
-- `Reading.antt`. All of this is this project's.
use Rattle.std.specs.Prelude.{ℕ, ◌≡◌, List, nat_lt, length, Result, Ok, Err, if◌then◌else◌}
use Rattle.ag_grammar.specs.declared.grammar.Item.{Item}
use Rattle.ag_grammar.specs.grammars.AttributeGrammar.{Grammar}
use Rattle.treefile.specs.declared.reading.FrameFault.{FrameFault}
use Rattle.treefile.specs.declared.reading.FrameFault.TheVariants.{Damaged}
use Rattle.treefile.specs.framing.Ending.{body_before}
use Rattle.treefile.specs.records.TreeFile.{version_two}
use Rattle.tree_index.specs.Reading.{BeginsRecord}

-- the body of the frame that ends at an offset of a file of version 2; B2 with the offset if no frame ends there, or if the
-- content ends before the offset
abbrev pub body_at : List ℕ → ℕ → Result (List ℕ) FrameFault
body_at content end = if nat_lt (length content) end then Err (Damaged end) else body_before version_two content end

-- The body of the frame that ends at the offset begins as the record of the item x, with this number.
pub record HasRecordAt (g : Grammar) (content : List ℕ) (x : Item) (end number : ℕ) : Type 0 where
  pub body : List ℕ
  pub there : body_at content end ≡ Ok body
  pub begins : BeginsRecord g x body number
