-- The statements of the laws on the files of trees. The letters are those of `records/Records.antt` and
-- `framing/ExpectedRecords.antt`, with these additions: u and w are values of a tree too, f the values of a node's attributes, ys
-- and zs are children, vs the values of a record as a list, and ps passes. In some statements a letter has another meaning.
-- `OneNode` compares the number p, the production q and its symbol s with r, w and z; a and b are the two facts that it
-- compares. In `OneTreeBefore`, `OneTreeAtEnd` and `OneReading` s is a tree. In `ValuesAreWhole` a is an attribute, and p is a
-- pass, as in each `λ p`.
use Rattle.std.specs.Prelude.{ℕ, suc, ◌≡◌, ◌^◌, ◌<◌, ◌≤◌, ◌++◌, ◌↔◌, List, [], ◌∷◌, Some, None, Ok, slice_get, drop, length, true}
use Rattle.ag_value.specs.declared.value.Value.{Value}
use Rattle.ag_grammar.specs.Lists.{Each}
use Rattle.ag_grammar.specs.declared.direction.Direction.{Direction}
use Rattle.ag_grammar.specs.declared.grammar.Item.TheVariants as item
use Rattle.ag_grammar.specs.declared.grammar.Item.{Item}
use Rattle.ag_grammar.specs.declared.grammar.Production.{Production}
use Rattle.ag_grammar.specs.grammars.Accepted.{IsAccepted}
use Rattle.ag_grammar.specs.grammars.AttributeGrammar.{Grammar, stored_items}
use Rattle.ag_grammar.specs.grammars.Passes.{Passes, IsLegal, direction_of, nth, other}
use Rattle.ag_grammar.specs.grammars.Solution.{Same, SameAt, Valuation, children}
use Rattle.ag_grammar.specs.grammars.Tree.{Forest, Tree, IsTreeOf, node}
use Rattle.treefile.specs.framing.ExpectedRecords.{AreThere, Expects, Breaks, Child, HasNoTree, HasNoTreeWithin, IsNodeRecord}
use Rattle.treefile.specs.framing.ExpectedRecords.{ReadSoFar, IsRecordOf, IsTooLarge, Pending, before_others, pending_root}
use Rattle.treefile.specs.framing.ExpectedRecords.{children_with_copies, remaining_of}
use Rattle.treefile.specs.framing.Backward.{before_frame, next_before, pass_of}
use Rattle.treefile.specs.framing.Ending.{IsUsable, is_tree_file, last_body_of}
use Rattle.treefile.specs.records.Listed.{AreSpelled, BeginsNoValue, HasReadValues, IsListedRecord, count_up_to}
use Rattle.treefile.specs.records.OneTree.{IsNumbered, IsRecorded}
use Rattle.treefile.specs.records.Orders.{postfix, prefix}
use Rattle.treefile.specs.records.Records.{FitsVersion, IsFileOfTree, bodies_of, copies_of, node_body, values_up_to}
use Rattle.treefile.specs.Runs.{RunsPass, RunsPasses}
use Rattle.treefile.specs.records.TreeFile.{Version}

-- A body is the record of a node of at most one production, with one value of each attribute up to the pass,
-- and with one list of copies.
abbrev pub OneNode : Type 0
OneNode = (version : Version) (g : Grammar) (m : Passes) (k s z p r : ℕ) (body : List ℕ) (q w : Production) (e f : ℕ → Value)
    → IsNumbered g → (a : IsNodeRecord version g m k s body p q e) (b : IsNodeRecord version g m k z body r w f)
    → (p ≡ r) × SameAt (λ n. n ≤ k) (m s) e f × (a.copies ≡ b.copies)

-- A list begins with the records of at most one tree of an item, and of one valuation of it up to the pass:
-- each node before its children, these in a direction.
abbrev pub OneTreeBefore : Type 0
OneTreeBefore =
    (version : Version) (g : Grammar) (m : Passes) (k : ℕ) (d : Direction) (x : Item) (t s : Tree) (u w : Valuation)
    (rest others : List (List ℕ)) → IsNumbered g → IsRecorded g m k x t u → IsRecorded g m k x s w
    → prefix d (bodies_of version g m k t u) ++ rest ≡ prefix d (bodies_of version g m k s w) ++ others
    → (t ≡ s) × Same (λ p. p ≤ k) g m t u w × (rest ≡ others)

-- A list ends with the records of at most one tree of an item, and of one valuation of it up to the pass:
-- each node after its children.
abbrev pub OneTreeAtEnd : Type 0
OneTreeAtEnd =
    (version : Version) (g : Grammar) (m : Passes) (k : ℕ) (d : Direction) (x : Item) (t s : Tree) (u w : Valuation)
    (leading others : List (List ℕ)) → IsNumbered g → IsRecorded g m k x t u → IsRecorded g m k x s w
    → leading ++ postfix d (bodies_of version g m k t u) ≡ others ++ postfix d (bodies_of version g m k s w)
    → (t ≡ s) × Same (λ p. p ≤ k) g m t u w × (leading ≡ others)

-- A content is the file of pass k of at most one tree of the grammar, and of one valuation of it up to the
-- pass.
abbrev pub OneReading : Type 0
OneReading = (version : Version) (g : Grammar) (m : Passes) (k : ℕ) (t s : Tree) (u w : Valuation) (content : List ℕ)
    → IsUsable version → FitsVersion version g m → IsNumbered g → IsTreeOf g t → IsTreeOf g s
    → IsFileOfTree version g m k t u content → IsFileOfTree version g m k s w content → (t ≡ s) × Same (λ p. p ≤ k) g m t u w

-- Values that are the same up to pass k have the same file of pass k.
abbrev pub SameFile : Type 0
SameFile = (version : Version) (g : Grammar) (m : Passes) (k : ℕ) (t : Tree) (u w : Valuation) (content : List ℕ)
    → Same (λ p. p ≤ k) g m t u w → IsFileOfTree version g m k t u content → IsFileOfTree version g m k t w content

-- A record can number the productions of an accepted grammar, and under a legal assignment it has no more
-- values than the version allows.
abbrev pub FitsAccepted : Version → Type 0
FitsAccepted version = (g : Grammar) (m : Passes) → IsAccepted g → IsLegal g m → IsNumbered g × FitsVersion version g m

-- If no pass after pass k ran, the newest content is the first one, and nothing is said of a previous one.
abbrev pub RunBegins : Type 0
RunBegins = (version : Version) (g : Grammar) (m : Passes) (k : ℕ) (start previous : List ℕ)
    → RunsPasses version g m k k start start previous

-- One more pass was run, from the file of the last one to another content.
abbrev pub RunContinues : Type 0
RunContinues = (version : Version) (g : Grammar) (m : Passes) (k last : ℕ) (start newest previous next : List ℕ) → IsLegal g m
    → k ≤ last → RunsPasses version g m k last start newest previous → RunsPass version g m last newest next
    → RunsPasses version g m k (suc last) start next newest

-- If the file after some passes is that of no tree of the grammar, neither was the file before them.
abbrev pub RefusalGoesBack : Type 0
RefusalGoesBack = (version : Version) (g : Grammar) (m : Passes) (k last : ℕ) (start newest previous : List ℕ)
    → RunsPasses version g m k last start newest previous → HasNoTree version g m last newest → HasNoTree version g m k start

-- If the file after some passes is that of no tree within limits, neither was the file before them.
abbrev pub RefusalWithinGoesBack : Type 0
RefusalWithinGoesBack =
    (depth nodes : ℕ) (version : Version) (g : Grammar) (m : Passes) (k last : ℕ) (start newest previous : List ℕ)
    → RunsPasses version g m k last start newest previous → HasNoTreeWithin depth nodes version g m last newest
    → HasNoTreeWithin depth nodes version g m k start

-- If a body is the record of a child, it determines the list of this child's own children.
abbrev pub OneRecord : Type 0
OneRecord = (version : Version) (g : Grammar) (m : Passes) (k : ℕ) (x : Child) (body : List ℕ) (ys zs : List Child) → IsNumbered g
    → IsRecordOf version g m k x body ys → IsRecordOf version g m k x body zs → ys ≡ zs

-- A body is a record of a symbol exactly if it has a production of the symbol and the right number of well
-- values. Those after its own values are the copies.
abbrev pub ListedRecord : Type 0
ListedRecord = (version : Version) (g : Grammar) (m : Passes) (k s : ℕ) (body : List ℕ) (ys : List Child)
    → IsRecordOf version g m k (item.Symbol s, None) body ys
    ↔ ((p : ℕ) × (q : Production) × (vs : List Value) × IsListedRecord version g m k s body p q vs
    × (ys ≡ children_with_copies version.has_copies g m k (stored_items q.items) (drop (count_up_to k (m s)) vs)))

-- If fewer than n values were read from some bytes, and no other value begins after them, the bytes don't spell n
-- values.
abbrev pub ValueIsMissing : Type 0
ValueIsMissing = (bytes : List ℕ) (vs : List Value) (rest : List ℕ) (n : ℕ) → HasReadValues bytes vs rest → length vs < n
    → BeginsNoValue rest → AreSpelled n bytes → ⊥

-- If n values were read from some bytes, and bytes are left over, the bytes don't spell n values.
abbrev pub BytesAreLeft : Type 0
BytesAreLeft = (bytes : List ℕ) (vs : List Value) (rest : List ℕ) (n : ℕ) → HasReadValues bytes vs rest → length vs ≡ n
    → 0 < length rest → AreSpelled n bytes → ⊥

-- Before anything was read, at the end of a content, the root is expected.
abbrev pub ReadingBegins : Type 0
ReadingBegins = (version : Version) (g : Grammar) (m : Passes) (k : ℕ) (content : List ℕ) → IsUsable version
    → FitsVersion version g m → ReadSoFar version g m k content (length content) 0 (pending_root g)

-- After a record of the first expected child its own children are expected, before the others.
abbrev pub ReadingContinues : Type 0
ReadingContinues =
    (version : Version) (g : Grammar) (m : Passes) (k : ℕ) (content body : List ℕ) (at count level : ℕ) (x : Child)
    (ys : List Child) (todo : Pending) → IsNumbered g → ReadSoFar version g m k content at count ((level, x) ∷ todo)
    → next_before version content at ≡ Ok (Some body) → IsRecordOf version g m k x body ys
    → ReadSoFar version g m k content (before_frame at body) (suc count)
    (before_others (other (direction_of k)) (suc level) ys todo)

-- After i visited members of a right side the next one is expected, and then the others of that right side.
abbrev pub NextPending : Type 0
NextPending = (d : Direction) (level i : ℕ) (xs : List Child) (x : Child) (todo : Pending) → i < length xs
    → slice_get xs (nth d (length xs) i) ≡ Some x
    → before_others d level (remaining_of d xs i) todo ≡ (level, x) ∷ before_others d level (remaining_of d xs (suc i)) todo

-- Before the first visited member of a right side all members are expected, and after the last one none.
abbrev pub AllPending : Type 0
AllPending = (d : Direction) (level : ℕ) (xs : List Child) (todo : Pending)
    → (remaining_of d xs 0 ≡ xs) × (before_others d level (remaining_of d xs (length xs)) todo ≡ todo)

-- Bodies are expected exactly if they are the records of trees of the expected items.
abbrev pub ExpectedAreThere : Type 0
ExpectedAreThere =
    (version : Version) (g : Grammar) (m : Passes) (k deepest : ℕ) (d : Direction) (todo : Pending) (bodies : List (List ℕ))
    → Expects version g m k d deepest todo bodies ↔ AreThere version g m k d deepest todo bodies

-- If nothing is expected at an offset and the content is the file of a tree, everything was read: the header ends at the offset.
abbrev pub ReadingEnds : Type 0
ReadingEnds = (version : Version) (g : Grammar) (m : Passes) (k : ℕ) (content : List ℕ) (at count : ℕ) (t : Tree) (v : Valuation)
    → ReadSoFar version g m k content at count [] → IsTreeOf g t → IsFileOfTree version g m k t v content
    → next_before version content at ≡ Ok None

-- If what is read before an offset contradicts the expected items (`Breaks`), the content is the file of no tree.
abbrev pub ReadingBreaks : Type 0
ReadingBreaks = (version : Version) (g : Grammar) (m : Passes) (k : ℕ) (content : List ℕ) (at count : ℕ) (todo : Pending)
    → ReadSoFar version g m k content at count todo → Breaks version g m k todo (next_before version content at)
    → HasNoTree version g m k content

-- If a tree at too deep a level, or one record too many, is expected, the content is the file of no tree within the
-- limits.
abbrev pub ReadingIsTooLong : Type 0
ReadingIsTooLong =
    (version : Version) (g : Grammar) (m : Passes) (k : ℕ) (content : List ℕ) (at count level depth nodes : ℕ) (x : Child)
    (todo : Pending) → ReadSoFar version g m k content at count ((level, x) ∷ todo) → IsTooLarge depth nodes level count
    → HasNoTreeWithin depth nodes version g m k content

-- If a content does not begin as a tree file of the pass, it is the file of no tree.
abbrev pub NoFileHasNoTree : Type 0
NoFileHasNoTree = (version : Version) (g : Grammar) (m : Passes) (k : ℕ) (content : List ℕ) → IsUsable version → k < 2 ^ 16
    → ((is_tree_file version content ≡ true) × (pass_of content ≡ k) → ⊥) → HasNoTree version g m k content

-- The last body of a tree's file is the root's record.
abbrev pub RootIsLast : Type 0
RootIsLast = (version : Version) (g : Grammar) (m : Passes) (k p : ℕ) (ts : Forest) (v : Valuation) (content : List ℕ)
    → IsUsable version → FitsVersion version g m → IsTreeOf g (node p ts) → IsFileOfTree version g m k (node p ts) v content
    → last_body_of version content ≡ Ok (node_body version g m k p (v []) (copies_of g m k ts (children v)))

-- If no attribute has a pass after k, a record of pass k has the value of each attribute at its number.
abbrev pub ValuesAreWhole : Type 0
ValuesAreWhole = (k : ℕ) (ps : List ℕ) (e : ℕ → Value) (a p : ℕ) → Each (λ n. n ≤ k) ps → slice_get ps a ≡ Some p
    → slice_get (values_up_to k ps e) a ≡ Some (e a)
