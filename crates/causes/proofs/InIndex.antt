-- What is read along the nodes of an index is what the tree has there.
use Rattle.causes.proofs.Common
use Common.{ℕ, zero, suc, ◌≡◌, ◌-◌, ◌≤◌, List, [], ◌∷◌, ◌++◌, map, reverse, length, take, Bool, true, false, cond, Option, Some}
use Common.{None, slice_get, refl, sym, ◌∙◌, arith, nat_eq, map-append, reverse-append, reverse-reverse, slice_get_within, Result}
use Common.{Ok, Err, Value, Item, Production, Rule, Target, IsAccepted, Grammar, IsProduction, IsLegal, Passes, IsLastPass}
use Common.{NoRule, Valuation, WellAt, at, children, left_passes, rest, Forest, IsTreeOf, Tree, leaf, more, node, none}
use Common.{version_two, Table, environment, value_at, tree_at, values_at, child, IsNode, table_of, TreeIndex, DoesNext}
use Common.{DoesNextAt, IsCause, IsChain, Reading, itself, longer, places_of, IsNumberAt, Leads, in_file, IsInTree, in_tree, Next}
use Common.item
use Common.rule_does
use Rattle.std.proofs.Math.Seq.{split_at}
use Rattle.std.proofs.lemmas.List.{drop_all}
use Rattle.std.proofs.lemmas.Option.{get_or_from_slice_get}
use Rattle.ag_grammar.specs.declared.direction.Direction.{Direction}
use Rattle.ag_grammar.specs.grammars.Solution.{IsWellOn}
use Rattle.ag_grammar.proofs.grammars.Children.{child_each}
use Rattle.treefile.specs.declared.reading.FrameFault.{FrameFault}
use Rattle.treefile.specs.records.OneTree.{IsRecorded}
use Rattle.treefile.specs.records.Records.{IsFileOfTree, copies_of, values_up_to}
use Rattle.treefile.specs.framing.Backward.{next_before, some_body}
use Rattle.treefile.specs.framing.Ending.{body_before, header_bytes}
use Rattle.treefile.proofs.records.Copies.{copies_well, stored_well}
use Rattle.treefile.proofs.records.Fitting.{numbered}
use Rattle.treefile.proofs.records.Values.{values_well}
use Rattle.origins.specs.Causes.{IsSource, is_still}
use Rattle.origins.proofs.Arguments.{argument_value, row}
use Rattle.origins.proofs.Same.{node_is_no_token, one_body}
use Rattle.tree_index.specs.Nodes.{HasChild, IsIndexOf, IsKidOf, IsSubtreeAt, Subtree, back_from, end_of, kids, nodes_of}
use Rattle.tree_index.specs.Nodes.{record_of}
use Rattle.tree_index.proofs.Kids.{record_there, root_occurs}
use Rattle.causes.specs.Indexed.{IsAtPlaces, IsCauseIn, IsEndAt, way}
use Rattle.causes.specs.declared.chain.PathNode.{PathNode}
use Rattle.causes.proofs.InTree.{found_is_cause}
use Rattle.causes.proofs.Paths.{at_path, fits_at, reads, solves_at, tree_further, values_further}

-- the places that lead to the last of some nodes
way_turned : (ns : List PathNode) → way ns ≡ places_of (reverse ns)
way_turned [] = refl
way_turned (n ∷ ns) =
    let turned : reverse (n ∷ ns) ≡ reverse ns ++ n ∷ [] = reverse-append (n ∷ []) ns in
    cc (way_turned ns, map-append (λ (p : PathNode). p.place) (reverse ns) (n ∷ []))

way_of : (nodes : List PathNode) → way (reverse nodes) ≡ places_of nodes
way_of nodes = cc (way_turned (reverse nodes), reverse-reverse nodes)

-- the child of a tree, and of its values
child_at : (ts : Forest) (vs : ℕ → Valuation) (i : ℕ) (kid : Subtree) → slice_get (kids ts vs) i ≡ Some kid
    → (child ts i ≡ Some kid.tree) × (kid.values ≡ vs i)
child_at none vs i kid e = cc
child_at (more t ts) vs zero kid e = let same : kid ≡ record { tree = t; values = vs 0 } = cc in rw same (refl, refl)
child_at (more t ts) vs (suc i) kid e = child_at ts (rest vs) i kid e

-- the tree at the end of a path fits an item and is recorded
pub recorded_at : {g : Grammar} {m : Passes} {k : ℕ} {t : Tree} {v : Valuation} {content : List ℕ} (path : List ℕ) {s : Tree}
    → IsTreeOf g t → IsFileOfTree version_two g m k t v content → tree_at (Some t) path ≡ Some s
    → (x : Item) × IsRecorded g m k x s (values_at v path)
recorded_at {g} {m} {k} {t} {v} path fits file there =
    let fit = fits_at g path t fits there in (
      fit.0,
      record {
        fits = fit.1;
        texts = solves_at NoRule g path t v file.texts there;
        well = at_path (λ p s. IsWellOn (λ q. q ≤ k) g m s (values_at v p)) (λ p _ ts i s h is. rw (values_further v p i)
            (child_each (WellAt (λ q. q ≤ k)) g m ts (children (values_at v p)) (children (values_at v p)) i s h.1 is)) path t
            file.well there;
      },
    )

-- the child at a place has the number that the index returns for it
kid_number : (d : Direction) (t : Tree) (v : Valuation) (places : List ℕ) (place number : ℕ) (path : List ℕ) (tree : Tree)
    → places ≡ map suc path → tree_at (Some t) path ≡ Some tree
    → IsKidOf d (nodes_of d t v) tree (values_at v path) place number → IsAtPlaces d t v (places ++ place ∷ []) number
kid_number d t v places place number path (leaf c x) counted there kid = elim kid [ ]
kid_number d t v places place number path (node p ts) counted there kid =
    let at = child_at ts (children (values_at v path)) kid.index kid.kid kid.there in
    record {
      path = path ++ kid.index ∷ [];
      counted = cc (map-append suc path (kid.index ∷ []));
      tree = kid.kid.tree;
      there = rw (tree_further, there) at.0;
      occurs = rw (values_further v path kid.index, ← at.1) kid.occurs;
    }

pub child_number : (g : Grammar) {index : TreeIndex} {places : List ℕ} {number : ℕ} (place : ℕ) {c : ℕ}
    → IsNumberAt g index places number → HasChild g index number place c → IsNumberAt g index (places ++ place ∷ []) c
child_number g {places = places} place {c} numbered has_child k t v has tree =
    let at = numbered k t v has tree in
    let fits = fits_at g at.path t tree at.there in
    kid_number (back_from k) t v places place c at.path at.tree at.counted at.there
    (has_child k t v fits.0 at.tree (values_at v at.path) has fits.1 at.occurs)

-- `Leads` stays true if a child is added whose number is that of the node at its places
pub leads_down : (g : Grammar) {index : TreeIndex} (old : List PathNode) {new : List PathNode} (n : PathNode)
    → new ≡ old ++ n ∷ [] → Leads g index old → IsNumberAt g index (places_of old ++ n.place ∷ []) n.node → Leads g index new
leads_down g old {new} n is leads numbered =
    let turned : reverse new ≡ n ∷ reverse old = cc (reverse-append old (n ∷ [])) in
    rw turned (rw (way_of old) numbered, leads)

-- the last node has the number of the node at the end of the places
pub number_of_last : (g : Grammar) {index : TreeIndex} {nodes lent : List PathNode} {n : PathNode} → lent ≡ nodes
    → Some n ≡ slice_get lent (length lent - 1) → Leads g index nodes → IsNumberAt g index (places_of nodes) n.node
number_of_last g {nodes = nodes} {lent} {n} same is leads =
    let last = length lent - 1 in
    let within = slice_get_within lent last n (sym is) in
    let split : nodes ≡ take last lent ++ n ∷ [] = cc (
      split_at lent last n within,
      get_or_from_slice_get lent last n n (sym is),
      drop_all (suc last) lent (omega arith),
    ) in
    let turned : reverse nodes ≡ n ∷ reverse (take last lent) = cc (reverse-append (take last lent) (n ∷ [])) in
    let both = rw turned at leads in
    rw (← way_of nodes, turned) both.0

-- the root has the number 0
pub number_of_root : (g : Grammar) {index : TreeIndex} {nodes lent : List PathNode} → lent ≡ nodes → length lent ≤ 0
    → IsNumberAt g index (places_of nodes) 0
number_of_root g {nodes = nodes} {lent} same few =
    let empty : nodes ≡ [] = cc (drop_all 0 lent few) in
    rw empty (λ k t v has tree.
    record { path = []; counted = refl; tree = t; there = refl; occurs = root_occurs (back_from k) t v })

-- what a rule does depends only on the values of its arguments
same_environment : (r : Rule) (e f : Table) → ((k : ℕ) (o : Target) → slice_get r.args k ≡ Some o
    → e o.place o.attr ≡ f o.place o.attr) → environment r e ≡ environment r f
same_environment r e f same =
    let lent : environment r e ≡ environment r f = λ i k. by_argument (slice_get r.args k) k refl i in lent
  where
    by_argument : (o : Option Target) (k : ℕ) → slice_get r.args k ≡ o → value_at e o ≡ value_at f o
    by_argument None k is = refl
    by_argument (Some o) k is = same k o is

same_source : (r : Rule) (e f : Table) (k : ℕ) → environment r e ≡ environment r f → IsSource r e k → IsSource r f k
unfolding is_still
same_source r e f k same s = record { before = rw (← same) s.before; after = rw (← same) s.after }

does_same : (q : Production) (e f : Table) (target : Target) (does : Next)
    → ((i : ℕ) (r : Rule) → slice_get q.rules i ≡ Some r → environment r e ≡ environment r f) → DoesNext q.rules e target does
    → DoesNext q.rules f target does
does_same q e f target (rule_does.Passes argument) same d = record {
  number = d.number;
  rule = d.rule;
  there = d.there;
  gives = d.gives;
  index = d.index;
  takes = d.takes;
  source = same_source d.rule e f d.index (same d.number d.rule d.there) d.source;
}
does_same q e f target (rule_does.Arises number) same d =
    record { rule = d.rule; there = d.there; gives = d.gives; arises = cc (same number d.rule d.there) }

-- the body that is read before an offset, if there is one
pub body_there : (content : List ℕ) (end : ℕ) {body : List ℕ} → next_before version_two content end ≡ Ok (Some body)
    → body_before version_two content end ≡ Ok body
unfolding next_before
body_there content end found = by_header (nat_eq end header_bytes) (body_before version_two content end) found
  where
    by_header : (b : Bool) (read : Result (List ℕ) FrameFault) {body : List ℕ}
        → cond b (Ok None) (some_body read) ≡ Ok (Some body) → read ≡ Ok body
    by_header true read e = cc
    by_header false (Ok z) e = cc
    by_header false (Err fault) e = cc

-- the body that ends where the index says is the record of the node
pub body_is : {g : Grammar} {m : Passes} {k : ℕ} {t : Tree} {v : Valuation} {content : List ℕ} {index : TreeIndex}
    {number : ℕ} {tree : Tree} {w : Valuation} {body : List ℕ} (end : ℕ) → IsIndexOf g m k t v content index
    → IsSubtreeAt (back_from k) (nodes_of (back_from k) t v) number tree w → end_of index number ≡ Some end
    → body_before version_two content end ≡ Ok body → body ≡ record_of g m k tree w
body_is {g} {m} {k} {t} {v} {content} {index} {number} {tree} {w} {body} end indexed stands ends before =
    cc (body_there content end (record_there g m k t v content index number end tree w indexed stands ends).1)

-- The values of a record are those of a node of a tree: the arguments of each rule have the same values in both.
pub record IsRowAt (g : Grammar) (p : ℕ) (vs : List Value) (r : ℕ) (w : Valuation) : Type 0 where
  pub of : Production
  pub of_record : IsProduction g p of
  pub of_node : IsProduction g r of
  pub same : (i : ℕ) (rule : Rule) → slice_get of.rules i ≡ Some rule
      → environment rule (table_of g of vs) ≡ environment rule (at w)

module _ {g : Grammar} {m : Passes} {k : ℕ} (accepted : IsAccepted g) (legal : IsLegal g m) (last : IsLastPass k m)
    {body : List ℕ} {p : ℕ} {vs : List Value} (node_is : IsNode g body p vs) where
  pub row_at : {r : ℕ} {ts : Forest} {w : Valuation} (x : Item) → IsRecorded g m k x (node r ts) w
      → body ≡ record_of g m k (node r ts) w → IsRowAt g p vs r w
  row_at (item.Terminal a) recorded is = elim recorded.fits [ ]
  row_at {r} {ts} {w} (item.Symbol s) recorded is =
      let f = recorded.fits in
      let q = node_is.production in
      let passes = left_passes m (slice_get g.productions r) in
      let own = values_up_to k passes (w []) in
      let copies = copies_of g m k ts (children w) in
      let few = numbered g accepted in
      let small_p = slice_get_within g.productions p q node_is.there in
      let small_r = slice_get_within g.productions r f.0 f.1 in
      let all_well = stored_well true own copies (values_well k passes (w []) recorded.well.0)
      (copies_well g m k ts (children w) recorded.texts.1 recorded.well.1) in
      let apart = one_body p r vs (own ++ copies) (omega arith) (omega arith) node_is.well all_well (sym node_is.same ∙ is) in
      let production : f.0 ≡ q = cc apart.0 in
      let there_q : IsProduction g r q = cc in
      let vs_is : vs ≡ row g m k q ts w = rw there_q at apart.1 in
      record {
        of = q;
        of_record = node_is.there;
        of_node = there_q;
        same = λ i rule is_rule. same_environment rule (table_of g q vs) (at w) (λ j o arg.
            cc (
              vs_is,
              argument_value g m k legal last q ts w o (rw production at f.3) recorded.texts.1
                  (accepted.normal p q node_is.there i rule is_rule j o arg),
            ));
      }

  -- what a rule does with the values of a node's record, it does with the values of the tree
  in_tree_at : {v : Valuation} {target : Target} {does : Next} (t : Tree) (path : List ℕ) (tree : Tree) (x : Item)
      → tree_at (Some t) path ≡ Some tree → IsRecorded g m k x tree (values_at v path)
      → body ≡ record_of g m k tree (values_at v path) → DoesNextAt g p vs target does → IsInTree g t v (map suc path) target does
  in_tree_at t path (leaf c y) x there recorded is next = absurd (node_is_no_token p c _ _ (sym node_is.same ∙ is))
  in_tree_at {v} {target} {does} t path (node r ts) x there recorded is next =
      let row = row_at x recorded is in
      let one : next.production ≡ row.of = cc (next.there, row.of_record) in
      reads (record { number = r; trees = ts; there = there; is = row.of_node })
      (does_same row.of (table_of g row.of vs) (at (values_at v path)) target does row.same (rw one at next.next))

pub read_in_tree : {g : Grammar} {index : TreeIndex} {content places : List ℕ} {target : Target} {does : Next} {end : ℕ}
    {body : List ℕ} {p : ℕ} {vs : List Value} → IsAccepted g → IsEndAt g index places end
    → body_before version_two content end ≡ Ok body → IsNode g body p vs → DoesNextAt g p vs target does
    → in_file g index content places target does
read_in_tree {end = end} {body} {p} {vs} accepted ends before node_is next = (
  record { end = end; body = body; there = before; production = p; values = vs; is_node = node_is; next = next },
  λ indexed m k t v small legal last tree file.
      let index_of = indexed m k t v small legal tree file in
      let at = ends.numbered k t v index_of.nodes tree in
      let recorded = recorded_at at.path tree file at.there in
      rw at.counted (in_tree_at accepted legal last node_is t at.path at.tree recorded.0 at.there recorded.1
      (body_is end index_of at.occurs ends.ends before) next),
)

-- a chain by one reading is a chain by another one, if each rule that does something by the first does it by the second
module _ {R S : Reading} (each : (places : List ℕ) (target : Target) (does : Next) → R places target does → S places target does)
  where
    pub chain_in : {places : List ℕ} {target : Target} {there : List ℕ} {from : Target} {n : ℕ}
        → IsChain R places target there from n → IsChain S places target there from n
    chain_in itself = itself
    chain_in (longer there from n beyond origin chain link) = longer there from n beyond origin (chain_in chain) (record {
      argument = link.argument;
      passes = each there from (rule_does.Passes link.argument) link.passes;
      goes = link.goes;
    })

    pub cause_in : {places : List ℕ} {target : Target} {there : List ℕ} {number n : ℕ} → IsCause R places target there number n
        → IsCause S places target there number n
    cause_in {there = there} {number} cause = record {
      from = cause.from;
      chain = chain_in cause.chain;
      arises = each there cause.from (rule_does.Arises number) cause.arises;
    }

-- what is found in a file with its index is a cause in the tree
pub cause_in_tree : (g : Grammar) (index : TreeIndex) (content : List ℕ) {places : List ℕ} {target : Target} {there : List ℕ}
    {number n : ℕ} → IsCause (in_file g index content) places target there number n
    → IsCauseIn g index content places target there number n
cause_in_tree g index content {places} {target} {there} {number} {n} cause indexed m k t v small legal last tree file =
    let found : IsCause (in_tree g t v) places target there number n =
    cause_in (λ at for does read. read.1 indexed m k t v small legal last tree file) cause in
    record { found = found; caused = λ path is. found_is_cause g t v path target there number n (rw is at found) }
