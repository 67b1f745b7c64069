-- Reading the body of a record. Letters: c is a setting, g a grammar, s a symbol, p the number of a production and q the
-- production, x an item, d a class, w a value, a an attribute, e a table, and f and h are values by attribute. In `read_values` h
-- is the fact that the record was read. `old` are the stored values before the call, and `new` those after it. Pass `read` is the
-- pass of the file, and pass `write` the one that runs. All definitions are this project's.
use Rattle.std.specs.Prelude.{ℕ, ◌≡◌, ◌<◌, ◌^◌, ◌↔◌, Bool, IsTrue, nat_le, List, [], ◌∷◌, ◌++◌, if◌then◌else◌}
use Rattle.std.specs.List.{flat_map}
use Rattle.ag_value.specs.declared.value.Value.{Value, Text}
use Rattle.ag_value.specs.Spelling.{spelling_of}
use Rattle.ag_value.specs.Well.{IsWell}
use Rattle.ag_grammar.specs.declared.grammar.Item.{Item}
use Rattle.ag_grammar.specs.declared.grammar.Item.TheVariants as item
use Rattle.ag_grammar.specs.declared.grammar.Terminal.TheVariants.{Literal, Class}
use Rattle.ag_grammar.specs.declared.grammar.Production.{Production}
use Rattle.ag_grammar.specs.grammars.AttributeGrammar.{Grammar, IsProduction, stored_items}
use Rattle.ag_grammar.specs.grammars.Tree.{IsTokenText}
use Rattle.treefile.specs.records.Records.{values_up_to, node_body, token_body}
use Rattle.treefile.specs.records.TreeFile.{body_from, version_two}
use Rattle.treefile.specs.declared.body.Kind.TheVariants.{Node}
use Rattle.passcode.specs.Settings.{Setting}
use Rattle.pass_rows.specs.Places.{Table, copied_passes, copies}

-- The list of one value, that of an attribute of a pass, if this pass is at most k; otherwise the empty list.
abbrev pub one_value : ℕ → ℕ → Value → List Value
one_value k pass value = if nat_le pass k then value ∷ [] else []

-- The new list begins with the old values.
abbrev pub PrependsTo : (old new : List Value) → Type 0
PrependsTo old new = (more : List Value) × (new ≡ old ++ more)

-- A value was taken for an attribute of a pass: from the bytes if the pass is at most `read`. It was appended to the
-- row if the pass is at most `write`; if it was not read, it can be any well value. `only`: the bytes determine the rest.
pub record IsTaken (read write pass : ℕ) (bytes rest : List ℕ) (old new : List Value) : Type 0 where
  pub value : Value
  pub well : IsWell value
  pub row : new ≡ old ++ one_value write pass value
  pub spelled : bytes ≡ flat_map spelling_of (one_value read pass value) ++ rest
  pub only : (w : Value) (others : List ℕ) → IsWell w → bytes ≡ flat_map spelling_of (one_value read pass w) ++ others
      → others ≡ rest

-- No value of an attribute of a pass can be taken from the bytes.
abbrev pub IsUntaken : ℕ → ℕ → List ℕ → Type 0
IsUntaken read pass bytes = (w : Value) (others : List ℕ) → IsWell w
    → bytes ≡ flat_map spelling_of (one_value read pass w) ++ others → ⊥

-- The values of attributes with these passes were taken from the beginning of the bytes, as `IsTaken` says of each,
-- and appended to a row.
pub record AreTaken (read write : ℕ) (passes : List ℕ) (bytes rest : List ℕ) (old new : List Value) : Type 0 where
  pub values : ℕ → Value
  pub well : (a : ℕ) → IsWell (values a)
  pub row : new ≡ old ++ values_up_to write passes values
  pub spelled : bytes ≡ flat_map spelling_of (values_up_to read passes values) ++ rest
  pub only : (h : ℕ → Value) (others : List ℕ) → ((a : ℕ) → IsWell (h a))
      → bytes ≡ flat_map spelling_of (values_up_to read passes h) ++ others → others ≡ rest

-- Each value of a table is well.
abbrev pub AllWell : Table → Type 0
AllWell e = (j a : ℕ) → IsWell (e j a)

-- `passes` has the passes of some attributes. The bytes are not the encodings of well values of those with a pass up to `read`.
abbrev pub IsNoRow : ℕ → List ℕ → List ℕ → Type 0
IsNoRow read passes bytes = (h : ℕ → Value) → ((a : ℕ) → IsWell (h a)) → bytes ≡ flat_map spelling_of (values_up_to read passes h)
    → ⊥

-- A body has the number of a production of symbol s, and these bytes after it. The body determines the number and the bytes.
pub record IsNodeBody (g : Grammar) (s p : ℕ) (spellings body : List ℕ) : Type 0 where
  pub production : Production
  pub there : IsProduction g p production
  pub left : production.left ≡ s
  pub same : body ≡ body_from Node p spellings
  pub only : (r : ℕ) (others : List ℕ) → r < 2 ^ 16 → body ≡ body_from Node r others → (p ≡ r) × (spellings ≡ others)

-- What `IsNodeBody` states, without the claim that the body determines both.
pub record IsBodyOf (g : Grammar) (s p : ℕ) (spellings body : List ℕ) : Type 0 where
  pub production : Production
  pub there : IsProduction g p production
  pub left : production.left ≡ s
  pub same : body ≡ body_from Node p spellings

-- A body is the record of a node of symbol s and of production p, and its row was read. `values` are the node's own values, and
-- `table` has those of its children. The values of attributes of pass `write` can be any well ones.
pub record IsNodeRead (c : Setting) (s p : ℕ) (body : List ℕ) (old new : List Value) : Type 0 where
  pub production : Production
  pub there : IsProduction c.grammar p production
  pub left : production.left ≡ s
  pub values : ℕ → Value
  pub well : (a : ℕ) → IsWell (values a)
  pub table : Table
  pub table_well : AllWell table
  pub row : new ≡ old ++ (values_up_to c.write (c.passes s) values ++ copies c c.write (stored_items production.items) table)
  pub same : body ≡ node_body version_two c.grammar c.passes c.read p values
      (copies c c.read (stored_items production.items) table)

-- A body is not a record of a node of symbol s.
abbrev pub IsNoNode : Setting → ℕ → List ℕ → Type 0
IsNoNode c s body = (p : ℕ) (q : Production) (h : ℕ → Value) (e : Table) → IsProduction c.grammar p q → q.left ≡ s
    → ((a : ℕ) → IsWell (h a)) → AllWell e
    → body ≡ node_body version_two c.grammar c.passes c.read p h (copies c c.read (stored_items q.items) e) → ⊥

-- A body does not begin with the kind of a node and the number of a production of symbol s.
abbrev pub IsNoNodeBody : Grammar → ℕ → List ℕ → Type 0
IsNoNodeBody g s body = (p : ℕ) (q : Production) (spellings : List ℕ) → IsProduction g p q → q.left ≡ s → p < 2 ^ 16
    → body ≡ body_from Node p spellings → ⊥

-- A body is the record of a token of a class, and `value` is its text.
pub record IsTextOf (d : ℕ) (body : List ℕ) (value : Value) : Type 0 where
  pub text : List ℕ
  pub fits : IsTokenText text
  pub well : IsWell value
  pub is : value ≡ Text text
  pub same : body ≡ token_body d text

-- A body is the record of a token of a class, and its text was read.
pub record IsTokenRead (d : ℕ) (body : List ℕ) (old new : List Value) : Type 0 where
  pub text : List ℕ
  pub fits : IsTokenText text
  pub well : IsWell (Text text)
  pub row : new ≡ old ++ Text text ∷ []
  pub same : body ≡ token_body d text

-- A body is not a record of a token of a class.
abbrev pub IsNoToken : ℕ → List ℕ → Type 0
IsNoToken d body = (text : List ℕ) → IsTokenText text → body ≡ token_body d text → ⊥

-- The record of an item was read from a body. p is the number in the record: that of the production, or that of the token's
-- class.
abbrev pub IsRead : Setting → Item → ℕ → List ℕ → List Value → List Value → Type 0
IsRead c (item.Symbol s) p body old new = IsNodeRead c s p body old new
IsRead c (item.Terminal (Class d)) p body old new = (p ≡ d) × IsTokenRead d body old new
IsRead c (item.Terminal (Literal l)) p body old new = ⊥

-- A body is not a record of an item. A literal has no record, so this is true of each body.
abbrev pub IsNoRecord : Setting → Item → List ℕ → Type 0
IsNoRecord c (item.Symbol s) body = IsNoNode c s body
IsNoRecord c (item.Terminal (Class d)) body = IsNoToken d body
IsNoRecord c (item.Terminal (Literal l)) body = Unit {0}

-- The values of the node or token whose record was read for an item.
abbrev pub read_values : (c : Setting) (x : Item) (p : ℕ) (body : List ℕ) (old new : List Value) → IsRead c x p body old new → ℕ
    → Value
read_values c (item.Symbol s) p body old new h = h.values
read_values c (item.Terminal (Class d)) p body old new h = λ a. Text h.1.text
read_values c (item.Terminal (Literal l)) p body old new h = elim h [ ]

-- The values f and h at an item agree, as far as they are of earlier passes and the parent's row has copies.
abbrev pub AgreeAt : Setting → Item → (ℕ → Value) → (ℕ → Value) → Type 0
AgreeAt c x f h = values_up_to c.read (copied_passes c x) f ≡ values_up_to c.read (copied_passes c x) h

-- `answer` says whether the values at the beginnings of two lists agree at an item, as `AgreeAt` defines it. Each list begins
-- with values at the item, as the parent's row has copies of them.
abbrev pub Agrees : Setting → Item → (ours theirs : List Value) → (answer : Bool) → Type 0
Agrees c x ours theirs answer = (f h : ℕ → Value) (rest others : List Value)
    → ours ≡ values_up_to c.write (copied_passes c x) f ++ rest → theirs ≡ values_up_to c.write (copied_passes c x) h ++ others
    → IsTrue answer ↔ AgreeAt c x f h
