-- Worked examples.
use Rattle.std.proofs.Common.{◌≡◌, ◌≤◌, [], ◌∷◌, length, Some, None, IsUtf8, codes, refl, sym, subst, lit<, arith}
use Rattle.std.proofs.lemmas.Str.{encode_ascii}
use Rattle.std.specs.Str.{chars}
use Rattle.unicode_ident.proofs.IdentLemmas.{is_xid_start-ascii, is_xid_continue-ascii}
use Rattle.ag_grammar.specs.declared.grammar.Terminal.TheVariants.{Literal, Class}
use Rattle.ag_grammar.specs.grammars.Tree.{max_token_bytes}
use Rattle.ag_grammar.proofs.grammars.Members.{both, only}
use Rattle.ag_scan.specs.Cutting.{word_from, class_from}
use Rattle.ag_scan.specs.Tokens.{Token, AreTokens, ended, separator}
use Rattle.ag_scan.specs.Words.{Vocabulary, vocabulary}
use Rattle.ag_scan.specs.Worked.{LongestWins, UnusedIsNone}
use Rattle.ag_scan.proofs.Cut.{word_is, one_more}

-- ---- the longest word wins

abbrev iffy : Vocabulary
iffy = vocabulary (codes "if" ∷ []) (0 ∷ [])

abbrev name : Token
name = record { kind = Class 0; lex = codes "iffy"; at = 0 }

abbrev literal : Token
literal = record { kind = Literal 0; lex = codes "if"; at = 5 }

first : word_from iffy (codes "iffy if") ≡ Some (record { kind = Class 0; lex = codes "iffy"; rest = codes " if" })
unfolding class_from lib.Utf8.encode
first =
    rw (
      is_xid_start-ascii 105 (lit< tt),
      is_xid_continue-ascii 105 (lit< tt),
      is_xid_continue-ascii 102 (lit< tt),
      is_xid_continue-ascii 121 (lit< tt),
      is_xid_continue-ascii 32 (lit< tt),
    ) refl

second : word_from iffy (codes "if") ≡ Some (record { kind = Literal 0; lex = codes "if"; rest = [] })
unfolding class_from lib.Utf8.encode
second = rw (is_xid_start-ascii 105 (lit< tt), is_xid_continue-ascii 105 (lit< tt), is_xid_continue-ascii 102 (lit< tt)) refl

are_iffy : AreTokens iffy 0 (codes "iffy if") (name ∷ literal ∷ []) 7 []
are_iffy =
    one_more first (separator 4 32 (codes "if") (literal ∷ []) 7 [] refl (one_more second (ended 7 [])))

iffy_characters : chars (codes "iffy if") ≡ codes "iffy if"
unfolding chars
iffy_characters = refl

iffy_text : IsUtf8 (codes "iffy if")
iffy_text = (
  codes "iffy if",
  (
    refl,
    rw (encode_ascii 105 (lit< tt), encode_ascii 102 (lit< tt), encode_ascii 121 (lit< tt), encode_ascii 32 (lit< tt))
        refl,
  ),
)

pub longest_wins : LongestWins
longest_wins = record {
  readable = record { short = omega arith; utf8 = iffy_text };
  tokens = record {
    are = subst (λ cs. AreTokens iffy 0 cs (name ∷ literal ∷ []) 7 []) (sym iffy_characters) are_iffy;
    short = both (λ t. length t.lex ≤ max_token_bytes) name literal (omega arith) (omega arith);
  };
}

-- ---- a class that is not in use

abbrev ones : Vocabulary
ones = vocabulary (codes "1" ∷ []) []

one : word_from ones (codes "12") ≡ Some (record { kind = Literal 0; lex = codes "1"; rest = codes "2" })
unfolding class_from lib.Utf8.encode
one = rw (is_xid_start-ascii 49 (lit< tt)) refl

none : word_from ones (codes "2") ≡ None
unfolding class_from lib.Utf8.encode
none = rw (is_xid_start-ascii 50 (lit< tt)) refl

pub unused_is_none : UnusedIsNone
unused_is_none = record {
  before = record { kind = Literal 0; lex = codes "1"; at = 0 } ∷ [];
  first = 50;
  rest = [];
  reaches = record {
    are = one_more one (ended 1 (codes "2"));
    short = only (λ t. length t.lex ≤ max_token_bytes) (record { kind = Literal 0; lex = codes "1"; at = 0 }) (omega arith);
  };
  no_separator = refl;
  no_word = rw none at (word_is ones (codes "2"));
}
