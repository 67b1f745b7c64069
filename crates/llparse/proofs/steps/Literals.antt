-- The invariants of taking a token of a literal, and of refusing a token.
use Rattle.llparse.proofs.Common
use Common.{◌≡◌, ℕ, ◌+◌, List, [], ◌∷◌, ◌++◌, drop, append_assoc, Item, Terminal, Literal, IsAccepted, Grammar, literal_text}
use Common.{Lexeme, ahead_of, Task, Output, Reading, IsStuckAt, OpenProduction, following}
use Common.item
use Common.ahead
use Rattle.llparse.proofs.steps.Begins.{begins_reading}
use Rattle.llparse.proofs.steps.Prefixes.{one_more}
use Rattle.llparse.proofs.steps.Steps as step

module _ (k : Task) where
  abbrev g : Grammar
  g = k.grammar

  pub on_literal : {p base l : ℕ} {ys : List Item} {fs : List OpenProduction} {i n : ℕ} {rs : Output} {rest : List Lexeme}
      → drop i k.words ≡ (Literal l, literal_text k.grammar l) ∷ rest
      → Reading k p base (item.Terminal (Literal l) ∷ ys) fs i n rs → Reading k p base ys fs (i + 1) n rs
  on_literal {p = p} {l = l} {ys = ys} {i = i} {rest = rest} next r =
      let after = following k.words i (Literal l, literal_text k.grammar l) rest next in
      let s = r.occurs in
      record {
        done = r.done;
        under = r.under;
        shows = r.shows;
        begins = r.begins;
        held =
            record {
              within = after.1;
              content = r.held.content;
              texts = r.held.texts;
              counted = r.held.counted;
              few = r.held.few;
              shallow = r.held.shallow;
            };
        occurs = (s.0, s.1 ++ item.Terminal (Literal l) ∷ [], s.2, rw append_assoc s.3, s.4);
        sound = λ others t w. rw (one_more k.words i (Literal l, literal_text k.grammar l) rest others next)
            (r.sound _ t ((step.literal k.grammar p r.done l ys r.under others t).1 w));
        complete = λ others t e w. (step.literal k.grammar p r.done l ys r.under others t).0
            (r.complete _ t (cc) (rw (one_more k.words i (Literal l, literal_text k.grammar l) rest others next) at w));
      }

  pub no_terminal : {p base : ℕ} {a : Terminal} {ys : List Item} {fs : List OpenProduction} {i n : ℕ} {rs : Output}
      → IsAccepted k.grammar → (ahead_of (drop i k.words) ≡ ahead.Terminal a → ⊥)
      → Reading k p base (item.Terminal a ∷ ys) fs i n rs → IsStuckAt k.grammar k.words i
  no_terminal {p = p} {a = a} {ys = ys} accepted other r = record {
    within = r.held.within;
    begins = begins_reading k accepted r;
    ends = λ rest t e h.
        other (cc (e, step.terminal_next k.grammar p r.done a ys r.under rest t (r.complete rest t e h)));
  }
