-- The expected symbol at the beginning, and the invariants of opening a node.
use Rattle.llparse.proofs.Common
use Common.{◌≡◌, ℕ, ◌+◌, ◌<◌, ◌≤◌, List, [], ◌∷◌, length, drop, Some, None, refl, append-nil, arith, Item, Production, IsAccepted}
use Common.{Grammar, Tree, none, depth_of, node_count, Lexeme, ahead_of, Continues, Open, open_at, opened, Task, Output, kept}
use Common.{written, Reading, AtSymbol, IsTooDeep, IsTooLarge, right_side, IsStuckAt, LeavesOnly, Choices, FitsGrammar, choice_of}
use Common.{OpenProduction}
use Common.item
use Rattle.llparse.proofs.steps.Begins.{begins_symbol}
use Rattle.llparse.proofs.steps.Shown.{length-shows}
use Rattle.llparse.proofs.steps.Sizes as size
use Rattle.llparse.proofs.steps.Steps as step

module _ (k : Task) where
  abbrev g : Grammar
  g = k.grammar

  pub begin : (rs : Output) → rs.bytes ≡ k.prefix → rs.texts ≡ [] → AtSymbol k k.grammar.start [] 0 0 rs
  begin rs same bare = record {
    under = [];
    shows = tt;
    held =
        record {
          within = omega arith;
          content = λ h. cc (append-nil k.prefix);
          texts = bare;
          counted = refl;
          few = omega arith;
          shallow = tt;
        };
    occurs = refl;
    sound = λ rest t w. (step.begin k.grammar rest t).1 w;
    complete = λ rest t e p. (step.begin k.grammar rest t).0 p;
  }

  pub on_symbol : (f : OpenProduction) {s : ℕ} {ys : List Item} {fs : List OpenProduction} {i n : ℕ} {rs : Output}
      → ys ≡ drop f.passed (right_side g f.production)
      → Reading k f.production f.base (item.Symbol s ∷ ys) fs i n rs → AtSymbol k s (f ∷ fs) i n rs
  on_symbol f {s = s} {ys = ys} left r = record {
    under = open_at f.production r.done ys ∷ r.under;
    shows = (refl, left, r.begins, r.shows);
    held =
        record {
          within = r.held.within;
          content = r.held.content;
          texts = r.held.texts;
          counted = r.held.counted;
          few = r.held.few;
          shallow = r.held.shallow;
        };
    occurs = r.occurs;
    sound = λ rest t w. r.sound rest t ((step.ask k.grammar f.production r.done s ys r.under rest t).1 w);
    complete = λ rest t e p. (step.ask k.grammar f.production r.done s ys r.under rest t).0 (r.complete rest t e p);
  }

  module _ (tables : Choices) (fits : FitsGrammar k.grammar tables) where
    pub on_open : (s p base : ℕ) (fs : List OpenProduction) (i n : ℕ) (rs : Output)
        → choice_of tables s (ahead_of (drop i k.words)) ≡ Some p → base ≡ length rs.texts → n < k.nodes → length fs < k.depth
        → AtSymbol k s fs i n rs → Reading k p base (right_side g p) fs i (n + 1) rs
    on_open s p base fs i n rs chosen at more_nodes more_levels a =
        let c = (fits s (ahead_of (drop i k.words)) p).0 chosen in
        let q : Production = c.0 in
        let items : q.items ≡ right_side g p = cc in
        let same = length-shows g a.under fs a.shows in
        let counted = a.held.counted in
        let r : Reading k p base q.items fs i (n + 1) rs = record {
          done = none;
          under = a.under;
          shows = a.shows;
          begins = cc;
          held =
              record {
                within = a.held.within;
                content = λ h. cc (a.held.content h, append-nil (written a.under));
                texts = cc (append-nil (kept a.under));
                counted = omega arith;
                few = omega arith;
                shallow = (omega arith, a.held.shallow);
              };
          occurs = (q, [], c.1, refl, rw c.2 a.occurs);
          sound = λ rest t w. a.sound rest t (step.open_back k.grammar a.under s rest t p q c.1 c.2 w);
          complete =
              λ rest t e w.
              (step.opens k.grammar tables fits a.under s rest t p q a.occurs (cc) c.1 c.2).0
              (a.complete rest t e w);
        } in
        rw items at r

    pub no_rule : {fs : List OpenProduction} {i n : ℕ} {rs : Output} → IsAccepted k.grammar → (s : ℕ)
        → choice_of tables s (ahead_of (drop i k.words)) ≡ None → AtSymbol k s fs i n rs → IsStuckAt k.grammar k.words i
    no_rule accepted s unnamed a = record {
      within = a.held.within;
      ends =
          λ rest t e p. step.no_rule k.grammar tables fits a.under s rest t a.occurs (cc)
          (a.complete rest t e p);
      begins = let b = begins_symbol k accepted a in (b.0, b.1, b.2);
    }

  -- a node is to be opened, and a limit is reached
  module _ {s : ℕ} {fs : List OpenProduction} {i n : ℕ} {rs : Output} (accepted : IsAccepted k.grammar)
      (a : AtSymbol k s fs i n rs) where
    -- if each tree that has this node below the open nodes is beyond the limit, the words leave only trees beyond it
    beyond_node : (size : Tree → ℕ) (begun : List Open → ℕ) (limit : ℕ) → limit ≤ begun a.under
        → ((c : Tree) (ws : List Lexeme) (t : Tree) → Continues k.grammar a.under c ws t → limit < size t)
        → LeavesOnly k.grammar k.words size begun limit
    beyond_node size begun limit full passed =
        let b = begins_symbol k accepted a in
        record {
          index = i;
          within = a.held.within;
          rest = b.0;
          tree = b.1;
          begins = b.2;
          above = a.under;
          cut = b.3;
          full = full;
          only = λ others t e p. let w = a.complete others t e p in passed w.0 w.1 t w.4;
        }

    -- if the limit of levels is reached, the words leave only trees that are too deep
    pub deep_node : k.depth ≤ length fs → IsTooDeep k
    deep_node full =
        let same = length-shows g a.under fs a.shows in
        beyond_node depth_of (λ above. length above) k.depth (omega arith) (λ c ws t h.
        let d = size.depth_under k.grammar a.under c ws t h in
        let one : 1 ≤ depth_of c = size.depth_some c in
        omega arith)

    pub large_node : k.nodes ≤ n → IsTooLarge k
    large_node full =
        let counted = a.held.counted in
        beyond_node node_count opened k.nodes (omega arith) (λ c ws t h.
        let d = size.count_under k.grammar a.under c ws t h in
        let one : 1 ≤ node_count c = size.count_some c in
        omega arith)
