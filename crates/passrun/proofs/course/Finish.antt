-- The result of a pass whose root is written and which has no frame left to read.
use Rattle.passrun.proofs.Common
use Common.{flat_map, ℕ, ◌≡◌, ◌≤◌, List, [], ◌∷◌, ◌++◌, None, Ok, length, reverse, true, refl, ◌∙◌, arith, reverse-reverse, Value}
use Common.{Direction, Grammar, Passes, direction_of, other, Valuation, NoRule, OfPass, WellAt, Tree, node_count, max_nodes}
use Common.{each_map, solves_wider, ReadsTo, next_before, pass_of, IsBytes, is_tree_file, version_two_usable, BodyTree, branch}
use Common.{prefix, postfix, bodies_of, version_two, frame, header, back_is_file, reads_whole, bodies_count, Setting}
use Common.{pass_direction, IsSound, IsPassed, Pending, Transcript, IsRootReady, below, root_body}
use Rattle.treefile.proofs.records.Orders.{length-prefix, turned}

-- One body is read for each node.
pub count_of : (d : Direction) (g : Grammar) (m : Passes) (k : ℕ) (t : Tree) (v : Valuation)
    → length (prefix d (bodies_of version_two g m k t v)) ≡ node_count t
count_of d g m k t v = length-prefix d (bodies_of version_two g m k t v) ∙ bodies_count version_two g m k t v

whole : (d : Direction) (b : BodyTree) → below d b ++ root_body b ∷ [] ≡ postfix d b
whole d (branch body ts) = refl

-- The pass is done.
pub finished : (c : Setting) → IsSound c
    → (root : ℕ) (content to : List ℕ) (values : List Value) (transcript : Transcript) (place count evals : ℕ) (body : List ℕ)
    (todo : Pending)
    → (ready : IsRootReady c root values transcript evals todo)
    → body ≡ root_body (bodies_of version_two c.grammar c.passes c.write ready.tree ready.valuation)
    → IsBytes content → is_tree_file version_two content ≡ true → pass_of content ≡ c.read
    → ReadsTo version_two content (length content) transcript.read place → next_before version_two content place ≡ Ok None
    → to ≡ header version_two c.write ++ flat_map frame (transcript.put ++ body ∷ []) → count ≡ length transcript.read
    → length transcript.read ≤ max_nodes
    → IsPassed c content to count evals
finished c sound root content to values transcript place count evals body todo ready own bytes is_file pass read end put counted
    few =
    let t = ready.tree in
    let w = ready.valuation in
    let d = direction_of c.read in
    let bt = bodies_of version_two c.grammar c.passes c.read t w in
    let dir : pass_direction c ≡ other d = cc in
    let back : reverse transcript.read ≡ postfix d bt = cc (turned d bt, reverse-reverse (postfix d bt)) in
    let n = count_of (pass_direction c) c.grammar c.passes c.read t w in
    let len : length transcript.read ≡ node_count t = cc in
    record {
      tree = t;
      values = w;
      fits = ready.ready.evaluated.fits;
      from = record {
        occurs =
            cc (back_is_file version_two content bytes transcript.read version_two_usable is_file
            (reads_whole version_two content transcript.read (length content) place read end));
        texts =
            solves_wider (OfPass c.passes c.write) NoRule c.grammar
            (λ p q r production rule bad. absurd bad) t w ready.ready.evaluated.solved;
        well =
            each_map (WellAt (λ p. p ≤ c.write)) (WellAt (λ p. p ≤ c.read)) c.grammar c.passes
            (λ ps d e r a p is le. r a p is (omega (arith, sound.next))) t w w ready.ready.evaluated.well;
      };
      written = record {
        occurs = cc (whole (pass_direction c) (bodies_of version_two c.grammar c.passes c.write t w));
        texts =
            solves_wider (OfPass c.passes c.write) NoRule c.grammar
            (λ p q r production rule bad. absurd bad) t w ready.ready.evaluated.solved;
        well = ready.ready.evaluated.well;
      };
      solved = ready.ready.evaluated.solved;
      limits = record { deep = ready.deep; large = omega arith };
      nodes = cc;
      rules = ready.counted;
    }
