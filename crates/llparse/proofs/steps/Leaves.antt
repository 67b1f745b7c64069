-- The invariants of taking a token of a class.
use Rattle.llparse.proofs.Common
use Common.{◌≡◌, ℕ, suc, ◌+◌, ◌<◌, ◌≤◌, List, [], ◌∷◌, ◌++◌, length, drop, append_assoc, append-nil, arith, Text, Item, Class}
use Common.{IsAccepted, Grammar, IsTokenText, Tree, leaf, none, more, depth_of, node_count, Lexeme, WhenHonest, joined, Completes}
use Common.{Open, open_at, opened, leaf_texts, Task, Output, kept, written, Reading, IsTooDeep, IsTooLarge, leaf_frame}
use Common.{forest_frames, LeavesOnly, OpenProduction, following}
use Common.item
use Rattle.llparse.proofs.steps.Begins.{begins_leaf}
use Rattle.llparse.proofs.steps.Prefixes.{one_more}
use Rattle.llparse.proofs.answers.Kept.{texts-joined}
use Rattle.llparse.proofs.steps.Shown.{length-shows}
use Rattle.llparse.proofs.steps.Sizes as size
use Rattle.llparse.proofs.steps.Steps as step

module _ (k : Task) where
  abbrev g : Grammar
  g = k.grammar

  pub on_class : {p base c : ℕ} {x : List ℕ} {ys : List Item} {fs : List OpenProduction} {i n : ℕ} {rs out : Output}
      {rest : List Lexeme} → drop i k.words ≡ (Class c, x) ∷ rest → IsTokenText x
      → WhenHonest k.honest (out.bytes ≡ rs.bytes ++ leaf_frame c x) → out.texts ≡ rs.texts ++ Text x ∷ [] → n < k.nodes
      → suc (length fs) < k.depth
      → Reading k p base (item.Terminal (Class c) ∷ ys) fs i n rs → Reading k p base ys fs (i + 1) (n + 1) out
  on_class {p = p} {c = c} {x = x} {ys = ys} {fs = fs} {i = i} {out = out} {rest = rest} next text put grown more_nodes
      more_levels r =
      let after = following k.words i (Class c, x) rest next in
      let s = r.occurs in
      let same = length-shows g r.under fs r.shows in
      let counted = r.held.counted in
      let shallow = r.held.shallow.0 in
      let counts = size.node_counts-joined r.done (more (leaf c x) none) in
      let levels = size.deepest-joined r.done (more (leaf c x) none) in
      let content : WhenHonest k.honest
      (out.bytes ≡ k.prefix ++ (written r.under ++ forest_frames (joined r.done (more (leaf c x) none)))) = λ h.
      cc (
        put h,
        r.held.content h,
        append_assoc k.prefix (written r.under ++ forest_frames r.done) (leaf_frame c x),
        append_assoc (written r.under) (forest_frames r.done) (leaf_frame c x),
        append-nil (leaf_frame c x),
        size.forest_frames-joined r.done (more (leaf c x) none),
      ) in
      let texts : out.texts ≡ kept r.under ++ leaf_texts (joined r.done (more (leaf c x) none)) =
      cc (append_assoc (kept r.under) (leaf_texts r.done) (Text x ∷ []), texts-joined r.done (more (leaf c x) none)) in
      record {
        done = joined r.done (more (leaf c x) none);
        under = r.under;
        shows = r.shows;
        begins = r.begins;
        held =
            record {
              within = after.1;
              content = content;
              texts = texts;
              counted = omega arith;
              few = omega arith;
              shallow = (omega arith, r.held.shallow.1);
            };
        occurs = (s.0, s.1 ++ item.Terminal (Class c) ∷ [], s.2, rw append_assoc s.3, s.4);
        sound = λ others t w. rw (one_more k.words i (Class c, x) rest others next)
            (r.sound _ t ((step.class k.grammar p r.done c x ys r.under others t text).1 w));
        complete = λ others t e w. (step.class k.grammar p r.done c x ys r.under others t text).0
            (r.complete _ t (cc) (rw (one_more k.words i (Class c, x) rest others next) at w));
      }

  -- the next item is a leaf, and a limit is reached
  module _ {p base c : ℕ} {ys : List Item} {fs : List OpenProduction} {i n : ℕ} {rs : Output} (accepted : IsAccepted k.grammar)
      (r : Reading k p base (item.Terminal (Class c) ∷ ys) fs i n rs) where
    -- if each tree that has the leaf and the open nodes is beyond the limit, the words leave only trees beyond it
    beyond_leaf : (size : Tree → ℕ) (begun : List Open → ℕ) (limit : ℕ) → limit ≤ begun (open_at p r.done ys ∷ r.under)
        → ((x : List ℕ) (ws : List Lexeme) (t : Tree)
        → Completes k.grammar (open_at p (joined r.done (more (leaf c x) none)) ys) r.under ws t → limit < size t)
        → LeavesOnly k.grammar k.words size begun limit
    beyond_leaf size begun limit full passed =
        let b = begins_leaf k accepted r in
        record {
          index = i;
          within = r.held.within;
          rest = b.0;
          tree = b.1;
          begins = b.2;
          above = open_at p r.done ys ∷ r.under;
          cut = b.3;
          full = full;
          only = λ others t e h.
              let w = step.class_next k.grammar p r.done c ys r.under others t (r.complete others t e h) in
              passed w.0 w.1 t w.3;
        }

    pub deep_leaf : k.depth ≤ suc (length fs) → IsTooDeep k
    deep_leaf full =
        let same = length-shows g r.under fs r.shows in
        beyond_leaf depth_of (λ above. length above) k.depth (omega arith) (λ x ws t h.
        let d = size.depth_open k.grammar (open_at p (joined r.done (more (leaf c x) none)) ys) r.under ws t h in
        let levels = size.deepest-joined r.done (more (leaf c x) none) in
        omega arith)

    pub large_leaf : k.nodes ≤ n → IsTooLarge k
    large_leaf full =
        let counted = r.held.counted in
        beyond_leaf node_count opened k.nodes (omega arith) (λ x ws t h.
        let d = size.count_open k.grammar (open_at p (joined r.done (more (leaf c x) none)) ys) r.under ws t h in
        let counts = size.node_counts-joined r.done (more (leaf c x) none) in
        omega arith)
