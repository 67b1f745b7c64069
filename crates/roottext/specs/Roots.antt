-- The translation in the file of the last pass: the value of the root's `out`. In these definitions g is a grammar, `assignment`
-- has a list for each symbol with the passes of its attributes, `content` has the bytes of a file, x is a value, t a tree, and v
-- the values of its attributes. All of this is this project's.
use Rattle.std.specs.Prelude.{ℕ, ◌≡◌, ◌≢◌, List, Result, Ok, Err, length}
use Rattle.ag_value.specs.Well.{IsWell}
use Rattle.ag_value.specs.declared.value.Value.{Value, Text}
use Rattle.ag_grammar.specs.declared.grammar.Production.{Production}
use Rattle.ag_grammar.specs.grammars.Accepted.{IsOut}
use Rattle.ag_grammar.specs.grammars.AttributeGrammar.{Grammar}
use Rattle.ag_grammar.specs.grammars.Solution.{IsTranslation, Valuation}
use Rattle.ag_grammar.specs.grammars.Tree.{IsTreeOf, Tree}
use Rattle.passassign.specs.Rows.{IsGreatest, passes_of}
use Rattle.treefile.specs.framing.ExpectedRecords.{IsNodeRecord}
use Rattle.treefile.specs.framing.Ending.{last_body_of}
use Rattle.treefile.specs.records.Records.{IsFileOfTree}
use Rattle.treefile.specs.records.TreeFile.{version_two}
use Rattle.treefile.specs.declared.reading.FrameFault.{FrameFault}
use Rattle.treefile.specs.declared.reading.FrameFault.TheVariants as frame_fault
use Rattle.agoutput.specs.declared.out_fault.OutFault.{OutFault}
use Rattle.agoutput.specs.declared.out_fault.OutFault.TheVariants as out_fault

-- A body is a root's record in a file of the last pass: the record of a node of the start symbol, with well values. It has the
-- value x for `out`.
pub record IsRootRecord (g : Grammar) (assignment : List (List ℕ)) (body : List ℕ) (x : Value) : Type 0 where
  pub last : ℕ
  pub greatest : IsGreatest last assignment
  pub number : ℕ
  pub production : Production
  pub values : ℕ → Value
  pub node : IsNodeRecord version_two g (passes_of assignment) last g.start body number production values
  pub attribute : ℕ
  pub out : IsOut g attribute
  pub value : values attribute ≡ x

-- the last body of a content is a root's record, and has the value x for `out`
pub record EndsWithRoot (g : Grammar) (assignment : List (List ℕ)) (content : List ℕ) (x : Value) : Type 0 where
  pub body : List ℕ
  pub last : last_body_of version_two content ≡ Ok body
  pub root : IsRootRecord g assignment body x

-- A content begins as a tree file, but has no root's record at its end, and the offset `at` of the fault is the end.
pub record EndsWithNoRoot (g : Grammar) (assignment : List (List ℕ)) (content : List ℕ) (at : ℕ) : Type 0 where
  pub end : at ≡ length content
  pub begins : last_body_of version_two content ≢ Err frame_fault.NotATreeFile
  pub none : (x : Value) → EndsWithRoot g assignment content x → ⊥

-- The meaning of the value or the fault found at the end of a content. A value is that of the root's `out`. B1 means that the
-- content does not begin as a tree file. B2 means that it begins so, but does not end with a root's record. D1 and NoMemory say
-- nothing about the content.
abbrev pub FindsValue : Grammar → List (List ℕ) → List ℕ → Result Value FrameFault → Type 0
FindsValue g assignment content (Ok x) = EndsWithRoot g assignment content x
FindsValue g assignment content (Err frame_fault.NotATreeFile) = last_body_of version_two content ≡ Err frame_fault.NotATreeFile
FindsValue g assignment content (Err (frame_fault.Damaged at)) = EndsWithNoRoot g assignment content at
FindsValue g assignment content (Err frame_fault.Device) = Unit {0}
FindsValue g assignment content (Err frame_fault.NoMemory) = Unit {0}

-- a text is a well value: it is UTF-8, and has at most 1,048,571 bytes
abbrev pub IsWellText : List ℕ → Type 0
IsWellText text = IsWell (Text text)

-- a value is not a text
abbrev pub IsNoText : Value → Type 0
IsNoText x = (text : List ℕ) → x ≢ Text text

-- The meaning of the returned text or fault: O1 has the value, which is not a text. A text, B1 and B2 mean what they mean in
-- `FindsValue`.
abbrev pub FindsText : Grammar → List (List ℕ) → List ℕ → Result (List ℕ) OutFault → Type 0
FindsText g assignment content (Ok text) = FindsValue g assignment content (Ok (Text text))
FindsText g assignment content (Err (out_fault.NoText x)) = FindsValue g assignment content (Ok x) × IsNoText x
FindsText g assignment content (Err out_fault.NotATreeFile) = FindsValue g assignment content (Err frame_fault.NotATreeFile)
FindsText g assignment content (Err (out_fault.Damaged at)) = FindsValue g assignment content (Err (frame_fault.Damaged at))
FindsText g assignment content (Err out_fault.Device) = Unit {0}
FindsText g assignment content (Err out_fault.NoMemory) = Unit {0}

-- The result for a tree with its values: the value of the root's `out` if it is a text, else O1 with this value. B1 and B2 do not
-- come. D1 and NoMemory say nothing about the tree.
abbrev pub IsRootText : Grammar → Valuation → Result (List ℕ) OutFault → Type 0
IsRootText g v (Ok text) = IsTranslation g v (Text text)
IsRootText g v (Err (out_fault.NoText x)) = IsTranslation g v x × IsNoText x
IsRootText g v (Err out_fault.NotATreeFile) = ⊥
IsRootText g v (Err (out_fault.Damaged at)) = ⊥
IsRootText g v (Err out_fault.Device) = Unit {0}
IsRootText g v (Err out_fault.NoMemory) = Unit {0}

-- If the content is the file of the last pass of a tree with some values, the result is right for this tree and these values.
abbrev pub MatchesRoot : Grammar → List (List ℕ) → List ℕ → Result (List ℕ) OutFault → Type 0
MatchesRoot g assignment content result = (last : ℕ) → IsGreatest last assignment → (t : Tree) (v : Valuation) → IsTreeOf g t
    → IsFileOfTree version_two g (passes_of assignment) last t v content → IsRootText g v result
