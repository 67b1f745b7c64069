-- The invariants of closing a node, and the state at the end.
use Rattle.llparse.proofs.Common
use Common.{◌≡◌, ℕ, ◌<◌, ◌≤◌, List, [], ◌∷◌, ◌++◌, length, take, drop, refl, append_assoc, append-nil, arith, drop_all, Grammar}
use Common.{Tree, node, Forest, none, more, Lexeme, WhenHonest, ahead_of, joined, Open, open_at, Completes, FitsStack, leaf_texts}
use Common.{Task, Output, IsTreeAfter, Shows, kept, written, Agrees, Reading, Between, Finished, IsParsed, node_frame}
use Common.{tree_frames, forest_frames, IsStuckAt, OpenProduction}
use Common.item
use Common.ahead
use Rattle.std.proofs.lemmas.List.{length-drop, take_all}
use Rattle.llparse.proofs.answers.Kept.{parted, texts-joined}
use Rattle.llparse.proofs.steps.Sizes as size
use Rattle.llparse.proofs.steps.Steps as step

-- the list of words is empty if its look-ahead is the end
ends : (ws : List Lexeme) → ahead_of ws ≡ ahead.End → ws ≡ []
ends [] e = refl
ends (w ∷ ws) e = absurd (cc)

module _ (k : Task) where
  abbrev g : Grammar
  g = k.grammar

  -- if the node that is closed is not the root, the node around it becomes the innermost one
  pub on_close : {p base : ℕ} {f : OpenProduction} {fs : List OpenProduction} {i n : ℕ} {rs : Output} (out : Output)
      → WhenHonest k.honest (out.bytes ≡ rs.bytes ++ node_frame p (drop base rs.texts)) → out.texts ≡ take base rs.texts
      → Reading k p base [] (f ∷ fs) i n rs → Between k (f ∷ fs) i n out
  on_close {p = p} {base = base} {f = f} {fs = fs} {i = i} {n = n} {rs = rs} out put cut r =
      go r.under r.shows r.begins r.held r.occurs r.sound r.complete
    where
      go : (os : List Open) → Shows g os (f ∷ fs) → base ≡ length (kept os) → Agrees k (open_at p r.done [] ∷ os) i n rs
          → FitsStack k.grammar (open_at p r.done []) os
          → ((rest : List Lexeme) (t : Tree) → Completes k.grammar (open_at p r.done []) os rest t → IsTreeAfter k i rest t)
          → ((rest : List Lexeme) (t : Tree) → ahead_of rest ≡ ahead_of (drop i k.words) → IsTreeAfter k i rest t
          → Completes k.grammar (open_at p r.done []) os rest t)
          → Between k (f ∷ fs) i n out
      go [] shows begins held occurs sound complete = absurd shows
      go (o ∷ os) shows begins held occurs sound complete =
          let d : Forest = joined o.done (more (node p r.done) none) in
          let expected_symbol = occurs.4 in
          let counts = size.node_counts-joined o.done (more (node p r.done) none) in
          let levels = size.deepest-joined o.done (more (node p r.done) none) in
          let counted = held.counted in
          let inner = held.shallow.0 in
          let outer = held.shallow.1.0 in
          let parts = parted rs.texts (kept (o ∷ os)) (leaf_texts r.done) base held.texts begins in
          let own : List ℕ = node_frame p (leaf_texts r.done) in
          let content : WhenHonest k.honest (out.bytes ≡ k.prefix ++ (written os ++ forest_frames d)) = λ h.
          cc (
            put h,
            held.content h,
            append_assoc k.prefix ((written os ++ forest_frames o.done) ++ forest_frames r.done) own,
            append_assoc (written os ++ forest_frames o.done) (forest_frames r.done) own,
            append_assoc (written os) (forest_frames o.done) (tree_frames (node p r.done)),
            append-nil (tree_frames (node p r.done)),
            size.forest_frames-joined o.done (more (node p r.done) none),
          ) in
          let texts : out.texts ≡ kept os ++ leaf_texts d =
          cc (texts-joined o.done (more (node p r.done) none), append-nil (leaf_texts o.done)) in
          let whole : Reading k o.production f.base o.rest fs i n out = record {
            done = d;
            under = os;
            shows = shows.3;
            begins = shows.2;
            held =
                record {
                  within = held.within;
                  content = content;
                  texts = texts;
                  counted = omega arith;
                  few = held.few;
                  shallow = (omega arith, held.shallow.1.1);
                };
            occurs = (
              expected_symbol.0,
              expected_symbol.1 ++ item.Symbol occurs.0.left ∷ [],
              expected_symbol.2,
              rw append_assoc expected_symbol.3,
              expected_symbol.4,
            );
            sound =
                λ rest t w.
                sound rest t
                ((step.close k.grammar p r.done (o ∷ os) rest t).1
                ((step.child k.grammar o.production o.done o.rest os (node p r.done) rest t).1 w));
            complete =
                λ rest t e w. (step.child k.grammar o.production o.done o.rest os (node p r.done) rest t).0
                ((step.close k.grammar p r.done (o ∷ os) rest t).0 (complete rest t e w));
          } in
          rw (shows.0, shows.1) at whole

  -- if the node that is closed is the root, the tree is done
  pub on_root : {p base i n : ℕ} {rs : Output} (out : Output)
      → WhenHonest k.honest (out.bytes ≡ rs.bytes ++ node_frame p (drop base rs.texts)) → Reading k p base [] [] i n rs
      → Finished k i n out.bytes
  on_root {p = p} {base = base} {i = i} {n = n} {rs = rs} out put r = go r.under r.shows r.begins r.held r.sound r.complete
    where
      go : (os : List Open) → Shows g os [] → base ≡ length (kept os) → Agrees k (open_at p r.done [] ∷ os) i n rs
          → ((rest : List Lexeme) (t : Tree) → Completes k.grammar (open_at p r.done []) os rest t → IsTreeAfter k i rest t)
          → ((rest : List Lexeme) (t : Tree) → ahead_of rest ≡ ahead_of (drop i k.words) → IsTreeAfter k i rest t
          → Completes k.grammar (open_at p r.done []) os rest t)
          → Finished k i n out.bytes
      go [] shows begins held sound complete =
          let counted = held.counted in
          let shallow = held.shallow.0 in
          let own = (parted rs.texts [] (leaf_texts r.done) base held.texts begins).1 in
          record {
            tree = node p r.done;
            within = held.within;
            content =
                λ h. cc (put h, held.content h, append_assoc k.prefix (forest_frames r.done) (node_frame p (leaf_texts r.done)));
            counted = omega arith;
            few = held.few;
            shallow = omega arith;
            sound = sound [] (node p r.done) ((step.close k.grammar p r.done [] [] (node p r.done)).1 (refl, refl));
            complete = λ rest t e h. (step.close k.grammar p r.done [] rest t).0 (complete rest t e h);
          }
      go (o ∷ os) shows begins held sound complete = absurd shows

  -- all words are taken
  pub on_end : (i n : ℕ) (rs : List ℕ) → length k.words ≤ i → Finished k i n rs → IsParsed k n rs
  on_end i n rs all w =
      let within = w.within in
      let every : take i k.words ≡ k.words = take_all i k.words (omega arith) in
      let none_left : drop i k.words ≡ [] = drop_all i k.words (omega arith) in
      let counted = w.counted in
      let few = w.few in
      record {
        tree = w.tree;
        has_words = rw (append-nil, every) at w.sound;
        only =
            λ t h.
            (w.complete [] t (cc) (rw (append-nil, every) h)).1;
        content = w.content;
        counted = counted;
        few = omega arith;
        shallow = w.shallow;
      }

  -- words are left
  pub no_end : (i n : ℕ) (rs : List ℕ) → i < length k.words → Finished k i n rs → IsStuckAt k.grammar k.words i
  no_end i n rs short w = record {
    within = w.within;
    begins = ([], w.tree, w.sound);
    ends = λ rest t e h.
        let nil : rest ≡ [] = (w.complete rest t e h).0 in
        let none_left = ends (drop i k.words) (cc) in
        let zero_left : length (drop i k.words) ≡ 0 = cc in
        omega (arith, length-drop i k.words);
  }
