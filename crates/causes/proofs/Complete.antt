-- In a solution no chain of rules that pass an error on stops, or is too long.
use Rattle.causes.proofs.Common
use Common.{ℕ, zero, suc, ◌≡◌, ◌*◌, ◌<◌, ◌≤◌, ◌⊎◌, inl, inr, List, [], ◌∷◌, ◌++◌, map, Option, Some, None, slice_get, refl, sym}
use Common.{arith, slice_get-map, Target, MAX_NODES, IsAccepted, Grammar, Inherited, Synthesized, item_at, item_kinds, used_kind}
use Common.{IsLegal, Passes, IsLastPass, AnyRule, Solves, Valuation, children, rest, Forest, IsTreeOf, Tree, max_nodes, more}
use Common.{node, node_count, none, fault_of, version_two, place_path, tree_at, values_at, child, TreeIndex, HasNoChildAt}
use Common.{IsNumberAt, LeadsNowhere, Stops, StopsAfter, in_file, IsInTree, IsNodeAt, Next, Production}
use Common.item
use Common.rule_does
use Rattle.treefile.specs.records.Records.{IsFileOfTree}
use Rattle.tree_index.specs.Nodes.{AreEnds, IsIndexOf, IsSubtreeAt, back_from, kids, nodes_of, record_at, record_of}
use Rattle.tree_index.proofs.Kids.{first_of, kind_there}
use Rattle.causes.specs.Indexed.{IsPassedFromNowhere, IsWithoutError, IsWithoutRecord}
use Rattle.causes.specs.Rules.{ComputesNoErrorIn}
use Rattle.causes.proofs.Errors.{IsErrorAt, chain_short, last_error, rule_error}
use Rattle.causes.proofs.InIndex.{body_is, chain_in, recorded_at, row_at}
use Rattle.causes.proofs.Instances.{child_tree, children_fit, instance_at, item_of, node_there}
use Rattle.causes.proofs.Paths.{on_way, read_at, same_path, split_path, tree_further}

-- if offsets are the ends of the records with some bodies, there is one for each body
ends_there : (content ends : List ℕ) (bodies : List (List ℕ)) (n : ℕ) (body : List ℕ) → AreEnds content ends bodies
    → slice_get bodies n ≡ Some body → slice_get ends n ≡ None → ⊥
ends_there content ends [] n body a is none_there = cc
ends_there content [] (b ∷ bodies) n body a is none_there = elim a [ ]
ends_there content (e ∷ ends) (b ∷ bodies) zero body a is none_there = cc
ends_there content (e ∷ ends) (b ∷ bodies) (suc n) body a is none_there = ends_there content ends bodies n body a.2 is none_there

-- each child of a tree is one of the `kids`, from which the index is defined
kid_there : (ts : Forest) (vs : ℕ → Valuation) (i : ℕ) {s : Tree} → child ts i ≡ Some s → slice_get (kids ts vs) i ≡ None → ⊥
kid_there none vs i e nothing = cc
kid_there (more t ts) vs zero e nothing = cc
kid_there (more t ts) vs (suc i) e nothing = kid_there ts (rest vs) i e nothing

-- no attribute of a symbol without inherited attributes is inherited
none_inherited : (syn : List (List ℕ)) (a : ℕ) → slice_get (map (λ n. Synthesized) syn ++ []) a ≡ Some Inherited → ⊥
none_inherited [] a e = cc
none_inherited (n ∷ syn) zero e = cc
none_inherited (n ∷ syn) (suc a) e = none_inherited syn a e

-- an option of which it is false that it is not `None` is `None`
none_if : {X : Type 0} (o : Option X) → ((o ≡ None → ⊥) → ⊥) → o ≡ None
none_if None h = refl
none_if (Some x) h = absurd (h (λ bad. cc))

module _ (g : Grammar) (index : TreeIndex) (content : List ℕ) (m : Passes) (k : ℕ) (t : Tree) (v : Valuation)
    (accepted : IsAccepted g) (legal : IsLegal g m) (last : IsLastPass k m) (fits : IsTreeOf g t)
    (file : IsFileOfTree version_two g m k t v content) (indexed : IsIndexOf g m k t v content index)
    (few : node_count t ≤ max_nodes) (solves : Solves AnyRule g t v)
    (read : (at : List ℕ) (for : Target) (does : Next) → in_file g index content at for does → IsInTree g t v at for does) where
  -- the number that the index has for a node is that of the node's subtree in the list of nodes
  node_is_at : {path : List ℕ} {q : Production} (n : IsNodeAt g t path q) {number : ℕ} → IsNumberAt g index (map suc path) number
      → IsSubtreeAt (back_from k) (nodes_of (back_from k) t v) number (node n.number n.trees) (values_at v path)
  node_is_at {path} n numbered =
      let at = numbered k t v indexed.nodes fits in
      let same : at.path ≡ path = same_path at.path path (sym at.counted) in
      let tree : at.tree ≡ node n.number n.trees = cc in
      rw (same, tree) at at.occurs

  -- The index has the record of each node.
  has_record : {path : List ℕ} {q : Production} → IsNodeAt g t path q → IsWithoutRecord g index (map suc path) → ⊥
  has_record {path} {q} n without =
      let nodes = nodes_of (back_from k) t v in
      let tree = node n.number n.trees in
      let w = values_at v path in
      let stands = node_is_at n without.numbered in
      ends_there content index.ends.items (map (record_at g m k) nodes) without.number (record_of g m k tree w) indexed.ends
      (rw (slice_get-map, first_of (back_from k) nodes without.number tree w stands))
      (without.none n.number q (kind_there k t v index without.number tree w indexed.nodes stands) n.is)

  -- With the values of the record, the rule that computes an error has an error as its value.
  has_error : {path : List ℕ} {target : Target} → IsErrorAt g t v path target
      → IsWithoutError g index content (map suc path) target → ⊥
  has_error {path} error without =
      let n = error.has.here in
      let recorded = recorded_at path fits file n.there in
      let is = body_is without.end indexed (node_is_at n without.ends.numbered) without.ends.ends without.there in
      let row = row_at accepted legal last without.is_node recorded.0 recorded.1 is in
      let one : row.of ≡ error.has.of = cc (row.of_node, n.is) in
      rule_error g t v accepted fits solves error (λ number rule small there gives.
      let of_row : slice_get row.of.rules number ≡ Some rule = cc in
      cc (row.same number rule of_row, without.none row.of row.of_record number rule small of_row gives))

  -- The index has each child of a node.
  has_child : {path : List ℕ} {q : Production} → IsNodeAt g t path q → (i : ℕ) {s : Tree}
      → tree_at (Some t) (path ++ i ∷ []) ≡ Some s → {places : List ℕ} {place : ℕ} → places ≡ map suc path → place ≡ suc i
      → HasNoChildAt g index places place → ⊥
  has_child {path} {q} n i {s} there counted placed missing =
      let no_child = rw (counted, placed) at missing in
      let w = values_at v path in
      kid_there n.trees (children w) i {s = s} (cc (child_tree n i))
      (no_child.none k t v (item.Symbol q.left) (node n.number n.trees) w indexed.nodes (omega arith)
      (q, n.is, refl, children_fit fits n) (node_is_at n no_child.numbered))

  -- The places of a node lead to it, and not nowhere.
  leads_there : {path : List ℕ} {q : Production} → IsNodeAt g t path q → LeadsNowhere g index (map suc path) → ⊥
  leads_there {path} n nowhere =
      let s = split_path path nowhere.prefix nowhere.split in
      let (_, _, there, child, is, _) = on_way s.before (Some t) s.number s.beyond (rw s.split at n.there) in
      let (q, above) = node_there fits s.before there in
      has_child above s.number {s = child} (rw (tree_further, there) is) s.counted s.placed nowhere.none

  -- There is a rule for each argument that passes its error on.
  goes_there : (path : List ℕ) {target : Target} → IsPassedFromNowhere g index content (map suc path) target → ⊥
  goes_there path {target} nowhere =
      let argument = nowhere.argument in
      let (q, n, next) = read_at (read (map suc path) target (rule_does.Passes argument) nowhere.passes) in
      by_place n argument.attr argument.place
      (accepted.normal n.number q n.is next.number next.rule next.there next.index argument next.takes) nowhere.nowhere
    where
      by_place : {path : List ℕ} {q : Production} → IsNodeAt g t path q → (a j : ℕ)
          → slice_get (item_kinds g (item_at q j)) a ≡ Some (used_kind j)
          → ((j ≡ 0) × (map suc path ≡ [])) ⊎ ((0 < j) × HasNoChildAt g index (map suc path) j) → ⊥
      by_place n a zero kind (inr (some, no_child)) = omega arith
      by_place n a (suc i) kind (inl (own, root)) = omega arith
      by_place {path} {q} n a zero kind (inl (own, root)) =
          let top = rw (same_path path [] root) at n.there in
          let whole : t ≡ node n.number n.trees = cc in
          let same = (item_of g (item.Symbol g.start) n.number n.trees (rw whole at fits) n.is).0 in
          let left : q.left ≡ g.start = cc in
          none_inherited accepted.start.symbol.syn a (rw (left, accepted.start.declared, accepted.start.plain) at kind)
      by_place n a (suc i) kind (inr (some, no_child)) = elim (instance_at fits n (suc i) a kind) [
        | inl (r, kid, is) ↦ has_child n i kid.there refl refl no_child
        | inr token ↦ has_child n i token.there refl refl no_child
      ]

  no_stop : {path : List ℕ} {target : Target} → IsErrorAt g t v path target → Stops g index content (map suc path) target → ⊥
  no_stop error (inl without) = has_record error.has.here without
  no_stop error (inr (inl without)) = has_error error without
  no_stop {path} error (inr (inr nowhere)) = goes_there path nowhere

  by_error : {path : List ℕ} {target : Target} → IsErrorAt g t v path target
      → LeadsNowhere g index (map suc path) ⊎ StopsAfter g index content (map suc path) target (16 * MAX_NODES) → ⊥
  by_error error (inl nowhere) = leads_there error.has.here nowhere
  by_error error (inr stops) =
      let chain = chain_in read stops.chain in
      let end = last_error g t v accepted fits solves error chain in
      elim stops.stops [
        | inl long ↦ (let short = chain_short g t v accepted fits solves m legal error chain in omega arith)
        | inr stop ↦ no_stop end.last (rw end.counted at stop)
      ]

-- Where no cause is found, the rule for the target computes no error.
pub none_complete : {g : Grammar} {index : TreeIndex} {content places : List ℕ} {target : Target}
    → LeadsNowhere g index places ⊎ StopsAfter g index content places target (16 * MAX_NODES)
    → ComputesNoErrorIn g index content places target
none_complete {g} {index} {content} {target = target} stops accepted indexed m k t v small legal last fits file few solves path
    counted has = none_if (fault_of (values_at v (place_path path target.place) [] target.attr)) (λ error.
    by_error g index content m k t v accepted legal last fits file (indexed m k t v small legal fits file) few solves
    (λ at for does says. says.1 indexed m k t v small legal last fits file) (record { has = has; error = error })
    (rw counted at stops))
