-- The invariant of a running pass. All definitions are this project's. Keeping in memory only the nodes on the path from the root
-- to the current node is due to Jazayeri and Walter (1975). Names, unless a comment says otherwise:
--   c: a setting. q: a production. p: number of a production (of a token: of its class). s: a symbol. u: a rule. o: an argument
--   i: the number of visited children of a node. level: the level of the node
--   f: the values of a node by attribute. e: the table of the values at a node and its children, by place and attribute
--   t, ts: a tree, trees. w, ws: their values. x, xs: an open node, open nodes
--   old, new: a transcript before and after
-- The phases (of `passcode`) of a node are: Between, before the `Get` of a child, or after the last child; Got, from the `Get` of
-- a child that is a node to its `Go`; Gone, from that `Go`, or from the `Get` of a token, to the `Put`; Ended, after `End`.
use Rattle.std.specs.Prelude.{ℕ, suc, ◌≡◌, ◌+◌, ◌<◌, ◌≤◌, List, [], ◌∷◌, ◌++◌, Some, slice_get, length}
use Rattle.std.specs.List.{count_by}
use Rattle.ag_value.specs.declared.value.Value.{Value}
use Rattle.ag_grammar.specs.declared.grammar.Item.{Item}
use Rattle.ag_grammar.specs.declared.grammar.Item.TheVariants as item
use Rattle.ag_grammar.specs.declared.grammar.Production.{Production}
use Rattle.ag_grammar.specs.declared.grammar.Rule.{Rule}
use Rattle.ag_grammar.specs.declared.grammar.Target.{Target}
use Rattle.ag_grammar.specs.declared.direction.Direction.{Direction}
use Rattle.ag_grammar.specs.Lists.{Has}
use Rattle.ag_grammar.specs.grammars.AttributeGrammar.{item_at, stored_items, IsProduction, IsArgument, symbol_kinds, Synthesized}
use Rattle.ag_grammar.specs.grammars.Passes.{HasPass}
use Rattle.ag_grammar.specs.grammars.Solution.{Valuation, Solves, SolvesAll, OfPass, Holds, IsWellOn, AtEachNodeOf, WellAt}
use Rattle.ag_grammar.specs.grammars.Tree.{Tree, Forest, leaf, node, Fits, FitsAll, depth_of, deepest, max_depth}
use Rattle.ag_grammar.specs.grammars.Counts.{pass_rule_count, rules_of_pass, totals}
use Rattle.treefile.specs.records.Orders.{BodyTree, branch, prefix, prefix_all, postfix, postfix_all}
use Rattle.treefile.specs.framing.ExpectedRecords.{Pending}
use Rattle.treefile.specs.records.Records.{bodies_of, bodies_of_all, node_body}
use Rattle.treefile.specs.records.TreeFile.{body_of, version_two}
use Rattle.treefile.specs.declared.body.Kind.TheVariants.{Node}
use Rattle.passcode.specs.Counts.{is_computation}
use Rattle.passcode.specs.Course as course
use Rattle.passcode.specs.declared.phase.Phase.{Phase}
use Rattle.passcode.specs.declared.phase.Phase.TheVariants.{Between, Got, Gone, Ended}
use Rattle.passcode.specs.Course.{State, IsAvailable, arity, place_of, read_count, run_count}
use Rattle.passcode.specs.Settings.{Setting, pass_direction}
use Rattle.pass_rows.specs.declared.open_node.OpenNode.{OpenNode}
use Rattle.passrun.specs.passing.Ahead.{following, pending}
use Rattle.pass_rows.specs.Places.{visited, Table, copies, in_children, rest_of, stored, IsReached, AgreesSoFar, Roots}

-- The transcript of a pass: the bodies of the records read so far, and of those written.
pub record Transcript : Type 0 where
  pub read : List (List ℕ)
  pub put : List (List ℕ)

-- The body of the root.
abbrev pub root_body : BodyTree → List ℕ
root_body (branch body ts) = body

-- The bodies of a tree in postfix order, without that of its root.
abbrev pub below : Direction → BodyTree → List (List ℕ)
below d (branch body ts) = postfix_all d ts

-- The number in the record of a tree's root. Here c is a class, and x a text.
abbrev pub root_number : Tree → ℕ
root_number (leaf c x) = c
root_number (node p ts) = p

-- Of the values of a symbol's attributes of passes up to this one, only those of synthesized attributes of this
-- pass may differ between `old` and `new`. This is about attribute values; the `Keeps` of std is about the bytes of a file.
abbrev pub Keeps : Setting → ℕ → (ℕ → Value) → (ℕ → Value) → Type 0
Keeps c s old new = (a p : ℕ) → slice_get (c.passes s) a ≡ Some p → p ≤ c.write
    → ((p ≡ c.write) × (slice_get (symbol_kinds (slice_get c.grammar.symbols s)) a ≡ Some Synthesized) → ⊥) → new a ≡ old a

-- A tree of an item x has values that satisfy the equations of the pass. The values of passes up to this one are well.
pub record IsEvaluatedTree (c : Setting) (x : Item) (t : Tree) (w : Valuation) : Type 0 where
  pub fits : Fits c.grammar x t
  pub solved : Solves (OfPass c.passes c.write) c.grammar t w
  pub well : IsWellOn (λ p. p ≤ c.write) c.grammar c.passes t w

-- Trees of the first i visited items of a node were read and written, one after the other. With the node at
-- this level, no node of these trees exceeds the limit of levels.
pub record Visited (c : Setting) (q : Production) (i level : ℕ) (ts : Forest) (ws : ℕ → Valuation)
    (old new : Transcript) : Type 0 where
  pub fits : FitsAll c.grammar (visited (pass_direction c) (stored_items q.items) i) ts
  pub solved : SolvesAll (OfPass c.passes c.write) c.grammar ts ws
  pub well : AtEachNodeOf (WellAt (λ p. p ≤ c.write)) c.grammar c.passes ts ws ws
  pub read : new.read ≡ old.read ++ prefix_all (pass_direction c) (bodies_of_all version_two c.grammar c.passes c.read ts ws)
  pub put : new.put ≡ old.put ++ postfix_all (pass_direction c) (bodies_of_all version_two c.grammar c.passes c.write ts ws)
  pub deep : deepest ts + level ≤ max_depth

-- The transcript after the record of a node with these values and copies was read.
abbrev pub after_reading : Setting → ℕ → (ℕ → Value) → List Value → Transcript → Transcript
after_reading c p f copied old =
    record { read = old.read ++ node_body version_two c.grammar c.passes c.read p f copied ∷ []; put = old.put }

-- The record of the node at the next place was read, and has the values that the table e has there. The copies in
-- its row are in the table `of_child`.
pub record IsGot (c : Setting) (q : Production) (i level p : ℕ) (e of_child : Table) (old new : Transcript) : Type 0 where
  pub symbol : ℕ
  pub occurs : item_at q (place_of q c.write i) ≡ Some (item.Symbol symbol)
  pub production : Production
  pub there : IsProduction c.grammar p production
  pub left : production.left ≡ symbol
  pub transcript : new ≡ after_reading c p (e (place_of q c.write i))
      (copies c c.read (stored_items production.items) (in_children of_child)) old
  pub deep : level < max_depth

-- A tree of an item x was read, and written except for the record of its root, which has the number p and the values f.
pub record IsReady (c : Setting) (x : Item) (p : ℕ) (f : ℕ → Value) (t : Tree) (w : Valuation)
    (old new : Transcript) : Type 0 where
  pub evaluated : IsEvaluatedTree c x t w
  pub number : root_number t ≡ p
  pub root : (a : ℕ) → w [] a ≡ f a
  pub read : new.read ≡ old.read ++ prefix (pass_direction c) (bodies_of version_two c.grammar c.passes c.read t w)
  pub put : new.put ≡ old.put ++ below (pass_direction c) (bodies_of version_two c.grammar c.passes c.write t w)

-- What is written of a tree when the pass leaves it: all records of a node's tree, and nothing of a token. Here c is a class, and
-- x a text.
abbrev pub put_of : Direction → Tree → BodyTree → List (List ℕ)
put_of d (leaf c x) body = []
put_of d (node p ts) body = postfix d body

-- The tree at the next place was read, and was written unless it is a token.
pub record IsGone (c : Setting) (q : Production) (i level p : ℕ) (e : Table) (old new : Transcript) (count : ℕ) : Type 0 where
  pub item : Item
  pub occurs : item_at q (place_of q c.write i) ≡ Some item
  pub tree : Tree
  pub values : Valuation
  pub evaluated : IsEvaluatedTree c item tree values
  pub number : root_number tree ≡ p
  pub root : (a : ℕ) → values [] a ≡ e (place_of q c.write i) a
  pub read : new.read ≡ old.read ++ prefix (pass_direction c) (bodies_of version_two c.grammar c.passes c.read tree values)
  pub put : new.put ≡ old.put ++ put_of (pass_direction c) tree (bodies_of version_two c.grammar c.passes c.write tree values)
  pub counted : count ≡ rules_of_pass c.passes c.write c.grammar tree
  pub deep : depth_of tree + level ≤ max_depth

-- The progress of the pass at the next place, in a phase: its transcript, the number of rules run in the tree at the place, and
-- the row of the child there, which is empty except in phase Got. No open node is in phase Ended.
abbrev pub IsCurrent : Setting → Production → Phase → ℕ → ℕ → ℕ → Table → Table → List Value → Transcript → Transcript → ℕ
    → Type 0
IsCurrent c q Between i level p e of_child row old new count = (new ≡ old) × (count ≡ 0) × (row ≡ [])
IsCurrent c q Got i level p e of_child row old new count =
    (got : IsGot c q i level p e of_child old new) × (count ≡ 0)
    × (row ≡ stored c got.production (e (place_of q c.write i)) of_child)
IsCurrent c q Gone i level p e of_child row old new count = IsGone c q i level p e old new count × (row ≡ [])
IsCurrent c q Ended i level p e of_child row old new count = ⊥

-- The state of a node: its phase, the number of its visited children, and the rules that were run.
abbrev pub state_of : Phase → ℕ → List ℕ → State
state_of phase i done = record { phase = phase; turn = i; done = done }

-- A rule that was run: its target is of the pass and at a place that the pass has reached, its equation holds in
-- the table, and its arguments have their final values.
pub record IsHeld (c : Setting) (q : Production) (state : State) (e : Table) (u : Rule) : Type 0 where
  pub holds : Holds u e
  pub passed : HasPass c.passes q u.target c.write
  pub target : IsReached c q (read_count state.phase state.turn) u.target.place
  pub available : (o : Target) → IsArgument u o → IsAvailable c.passes q c.write state o

-- Every rule that was run holds.
abbrev pub AreHeld : Setting → Production → State → Table → Type 0
AreHeld c q state e = (r : ℕ) (u : Rule) → Has state.done r → slice_get q.rules r ≡ Some u → IsHeld c q state e u

-- What a node was entered with: its symbol; its own values (those of its record, and the inherited ones of this pass); the values
-- in memory before its row; the transcript before its record was read; the number of rules that were evaluated before; and the
-- children that are still to be read after its tree.
pub record Entry : Type 0 where
  pub symbol : ℕ
  pub own : ℕ → Value
  pub under : List Value
  pub old : Transcript
  pub before : ℕ
  pub others : Pending

-- A node of production p, which was entered with `entry`, is open and in a state. The table e has the values of the node and its
-- children. The trees `ts` of the visited children were read and written since the node's record was read.
pub record IsOpenNode (c : Setting) (entry : Entry) (level p : ℕ) (q : Production) (state : State) (e : Table) (ts : Forest)
    (ws : ℕ → Valuation) (new : Transcript) : Type 0 where
  pub there : IsProduction c.grammar p q
  pub left : q.left ≡ entry.symbol
  pub entered : Keeps c entry.symbol entry.own (e 0)
  pub visits : Visited c q state.turn level ts ws
      (after_reading c p entry.own (copies c c.read (stored_items q.items) (in_children e)) entry.old) new
  pub roots : Roots (pass_direction c) (arity q) state.turn ws e
  pub held : AreHeld c q state e

-- The number of rules of the pass at a node of a production and in some trees below it.
abbrev pub rules_at : Setting → Production → Forest → ℕ
rules_at c q ts = pass_rule_count c.passes c.write (Some q) + totals (pass_rule_count c.passes c.write) c.grammar ts

-- The number of rules still to be run at an open node itself.
abbrev pub rules_left : Setting → OpenNode → ℕ
rules_left c x = count_by is_computation (rest_of c x)

-- An open node x, which was entered with `outer`, waits for its child, a node of production p, which was entered with `inner`.
-- After the child's tree, the rest of x's list of instructions runs to its end. Fields: i children of x are complete, with the
-- trees `trees` and their values `values`; the rules `done` were run at x; `table` has the values at x and its children, and
-- `copied` the copies in x's row.
pub record Suspended (c : Setting) (outer : Entry) (level : ℕ) (x : OpenNode) (p : ℕ) (inner : Entry) : Type 0 where
  pub production : Production
  pub i : ℕ
  pub done : List ℕ
  pub table : Table
  pub copied : Table
  pub trees : Forest
  pub values : ℕ → Valuation
  pub is_open : IsOpenNode c outer level x.production production (state_of Got i done) table trees values inner.old
  pub runs : course.Runs c.passes production c.write (state_of Gone i done) (rest_of c x)
  pub counted : inner.before + rules_left c x ≡ outer.before + rules_at c production trees
  pub agreement : AgreesSoFar c production i table copied
  pub within : i < arity production
  pub occurs : item_at production (place_of production c.write i) ≡ Some (item.Symbol inner.symbol)
  pub place_is : x.place ≡ place_of production c.write i
  pub number : x.child ≡ p
  pub row_is : (a : ℕ) → table (place_of production c.write i) a ≡ inner.own a
  pub under_is : inner.under ≡ outer.under ++ stored c production (table 0) copied
  pub base : x.base ≡ length outer.under
  pub deep : level < max_depth
  pub todo_is : inner.others ≡ following c production table (suc i) (suc level) outer.others

-- The open nodes, the innermost first, wait for a node of production p that was entered with `entry`; if there are none, this
-- node is the root. `root` is the number of the root's production.
abbrev pub Expects : Setting → ℕ → List OpenNode → ℕ → Entry → Type 0
Expects c root [] p entry =
    (entry.symbol ≡ c.grammar.start) × (p ≡ root) × (entry.under ≡ []) × (entry.old ≡ record { read = []; put = [] })
    × (entry.before ≡ 0) × (entry.others ≡ [])
Expects c root (x ∷ xs) p entry =
    (outer : Entry) × Expects c root xs x.production outer × Suspended c outer (suc (length xs)) x p entry

-- The innermost open node x, which was entered with `entry`, is in this phase, and `current` is the progress at its next place.
-- The rest of its list of instructions runs from there to the end. `evals` rules were evaluated, and the children `todo` are
-- still to be read. The fields: i children are complete, with the trees `trees` and their values `valuations`; the rules `done`
-- were run at x; `table` has the values at x and its children, and `copied` the copies in x's row. When the i children were
-- complete, the transcript was `mid`. Of the child at the next place, `row` is the row, if it is in memory, `of_child` has the
-- copies in this row, and `count` rules were run in its tree.
pub record IsActive (c : Setting) (entry : Entry) (level : ℕ) (x : OpenNode) (phase : Phase) (values : List Value)
    (new : Transcript) (evals : ℕ) (todo : Pending) : Type 0 where
  pub production : Production
  pub i : ℕ
  pub done : List ℕ
  pub table : Table
  pub copied : Table
  pub of_child : Table
  pub row : List Value
  pub trees : Forest
  pub valuations : ℕ → Valuation
  pub mid : Transcript
  pub count : ℕ
  pub is_open : IsOpenNode c entry level x.production production (state_of phase i done) table trees valuations mid
  pub runs : course.Runs c.passes production c.write (state_of phase i done) (rest_of c x)
  pub agreement : AgreesSoFar c production (run_count phase i) table copied
  pub current : IsCurrent c production phase i level x.child table of_child row mid new count
  pub counted : evals + rules_left c x ≡ entry.before + (rules_at c production trees + count)
  pub values_are : values ≡ entry.under ++ (stored c production (table 0) copied ++ row)
  pub base : x.base ≡ length entry.under
  pub todo_is : todo ≡ pending c production phase i x.child table of_child (suc level) entry.others

-- The root's tree was read, and written except for the root's record, which has the values in memory. `evals` rules
-- were evaluated.
pub record IsRootReady (c : Setting) (root : ℕ) (values : List Value) (new : Transcript) (evals : ℕ)
    (todo : Pending) : Type 0 where
  pub tree : Tree
  pub valuation : Valuation
  pub ready : IsReady c (item.Symbol c.grammar.start) root (valuation []) tree valuation (record { read = []; put = [] }) new
  pub counted : evals ≡ rules_of_pass c.passes c.write c.grammar tree
  pub deep : depth_of tree ≤ max_depth
  pub few : length values ≤ version_two.max_values
  pub record_is : root_body (bodies_of version_two c.grammar c.passes c.write tree valuation) ≡ body_of Node root values
  pub nothing : todo ≡ []

-- The invariant of a pass. The list of nodes has the open ones, the innermost first. `values` are in memory, `new` is the
-- transcript, `evals` rules were evaluated, and the children `todo` are still to be read. `root` is the number of the root's
-- production.
abbrev pub RunInvariant : Setting → ℕ → List OpenNode → List Value → Transcript → ℕ → Pending → Type 0
RunInvariant c root [] values new evals todo = IsRootReady c root values new evals todo
RunInvariant c root (x ∷ xs) values new evals todo =
    (entry : Entry) × Expects c root xs x.production entry × (phase : Phase)
    × IsActive c entry (suc (length xs)) x phase values new evals todo

-- The invariant of a pass with some transcript t, number of rules and children to be read.
abbrev pub IsConsistent : Setting → ℕ → List OpenNode → List Value → Type 0
IsConsistent c root xs values =
    (t : Transcript) × (evals : ℕ) × (todo : Pending) × RunInvariant c root xs values t evals todo

-- The pass continues with the open nodes ys and the values `new`, and nothing was read, written or evaluated: the transcript t is
-- the same.
abbrev pub ContinuesAs : Setting → ℕ → List OpenNode → List Value → List OpenNode → List Value → Type 0
ContinuesAs c root xs values ys new = (t : Transcript) (evals : ℕ) (todo : Pending)
    → RunInvariant c root xs values t evals todo → RunInvariant c root ys new t evals todo
