-- The nodes that are open or done are a part of each tree that completes them.
use Rattle.llparse.proofs.Common
use Common.{◌≡◌, suc, ◌+◌, ◌≤◌, max, List, [], ◌∷◌, ◌++◌, length, refl, append_assoc, arith, Grammar, Tree, leaf, node, Forest}
use Common.{none, more, depth_of, deepest, node_count, node_counts, Lexeme, joined, Open, opened, Continues, Completes}
use Common.{tree_frames, forest_frames}

pub node_counts-joined : (a b : Forest) → node_counts (joined a b) ≡ node_counts a + node_counts b
node_counts-joined none b = omega arith
node_counts-joined (more t a) b = let e = node_counts-joined a b in omega arith

pub deepest-joined : (a b : Forest) → deepest (joined a b) ≡ max (deepest a) (deepest b)
deepest-joined none b = omega arith
deepest-joined (more t a) b = let e = deepest-joined a b in omega arith

pub forest_frames-joined : (a b : Forest) → forest_frames (joined a b) ≡ forest_frames a ++ forest_frames b
forest_frames-joined none b = refl
forest_frames-joined (more t a) b =
    cc (forest_frames-joined a b, append_assoc (tree_frames t) (forest_frames a) (forest_frames b))

pub depth_some : (t : Tree) → 1 ≤ depth_of t
depth_some (leaf c x) = omega arith
depth_some (node p ts) = omega arith

pub count_some : (t : Tree) → 1 ≤ node_count t
count_some (leaf c x) = omega arith
count_some (node p ts) = omega arith

module _ (g : Grammar) where
  pub count_under : (os : List Open) (c : Tree) (ws : List Lexeme) (t : Tree) → Continues g os c ws t
      → node_count c + opened os ≤ node_count t
  count_under [] c ws t (nil, same) = let e : node_count t ≡ node_count c = cc in omega arith
  count_under (o ∷ os) c ws t (fs, vs, fit, e, k) =
      let outer = count_under os (node o.production (joined o.done (more c fs))) vs t k in
      let parts = node_counts-joined o.done (more c fs) in
      omega arith

  pub count_open : (o : Open) (os : List Open) (ws : List Lexeme) (t : Tree) → Completes g o os ws t
      → opened (o ∷ os) ≤ node_count t
  count_open o os ws t (fs, vs, fit, e, k) =
      let outer = count_under os (node o.production (joined o.done fs)) vs t k in
      let parts = node_counts-joined o.done fs in
      omega arith

  pub depth_under : (os : List Open) (c : Tree) (ws : List Lexeme) (t : Tree) → Continues g os c ws t
      → depth_of c + length os ≤ depth_of t
  depth_under [] c ws t (nil, same) = let e : depth_of t ≡ depth_of c = cc in omega arith
  depth_under (o ∷ os) c ws t (fs, vs, fit, e, k) =
      let outer = depth_under os (node o.production (joined o.done (more c fs))) vs t k in
      let parts = deepest-joined o.done (more c fs) in
      omega arith

  pub depth_open : (o : Open) (os : List Open) (ws : List Lexeme) (t : Tree) → Completes g o os ws t
      → suc (deepest o.done) + length os ≤ depth_of t
  depth_open o os ws t (fs, vs, fit, e, k) =
      let outer = depth_under os (node o.production (joined o.done fs)) vs t k in
      let parts = deepest-joined o.done fs in
      omega arith
