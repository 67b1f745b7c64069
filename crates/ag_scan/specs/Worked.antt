-- Worked examples of sentences and their tokens.
use Rattle.std.specs.Prelude.{[], ◌∷◌, codes}
use Rattle.ag_grammar.specs.declared.grammar.Terminal.TheVariants.{Literal, Class}
use Rattle.ag_scan.specs.Tokens.{AreTokensOf, NoTokenAt}
use Rattle.ag_scan.specs.Words.{vocabulary}

-- With the literal `if` and the class NAME, the tokens of `iffy if` are the NAME `iffy` and then the literal: the longest word
-- wins, and a literal wins a tie.
abbrev pub LongestWins : Type 0
LongestWins =
    AreTokensOf (vocabulary (codes "if" ∷ []) (0 ∷ [])) (codes "iffy if")
    (record { kind = Class 0; lex = codes "iffy"; at = 0 } ∷ record { kind = Literal 0; lex = codes "if"; at = 5 } ∷ [])

-- With the literal `1` and no class in use, no token begins at offset 1 of `12`.
abbrev pub UnusedIsNone : Type 0
UnusedIsNone = NoTokenAt (vocabulary (codes "1" ∷ []) []) (codes "12") 1
