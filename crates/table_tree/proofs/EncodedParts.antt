-- The encoding of a table is compared with bytes, part by part.
use Rattle.std.proofs.Common.{◌≡◌, List, ℕ, ◌++◌, length}
use Rattle.ag_value.specs.Spelling.{spelling_of_pair}
use Rattle.table_tree.specs.Splits.{IsSplit}
use Rattle.table_tree.proofs.Compared.{two_parts}
use Rattle.table_tree.proofs.Encoded.{encodings, split_encodings}
use Rattle.table_tree.proofs.Keys.{Pair}

-- three parts of bytes are the encodings of the pairs before a pair, of the pair, and of the pairs after it
pub record AreEncoded (before here after : List ℕ) (a : List Pair) (p : Pair) (b : List Pair) : Type 0 where
  pub first : before ≡ encodings a
  pub middle : here ≡ spelling_of_pair p
  pub last : after ≡ encodings b

pub encoded_parts : (before here after : List ℕ) {ps a : List Pair} {p : Pair} {b : List Pair} → IsSplit ps a p b
    → length before ≡ length (encodings a) → length here ≡ length (spelling_of_pair p)
    → before ++ (here ++ after) ≡ encodings ps → AreEncoded before here after a p b
encoded_parts before here after {ps} {a} {p} {b} s m n e =
    let outer =
    two_parts before (here ++ after) (encodings a) (spelling_of_pair p ++ encodings b) m (cc (split_encodings s)) in
    let inner = two_parts here after (spelling_of_pair p) (encodings b) n outer.rest in
    record { first = outer.first; middle = inner.first; last = inner.rest }

pub parts_encoded : {ps a : List Pair} {p : Pair} {b : List Pair} {bytes before rest here after : List ℕ} → IsSplit ps a p b
    → bytes ≡ before ++ rest → rest ≡ here ++ after → before ≡ encodings a → here ≡ spelling_of_pair p → after ≡ encodings b
    → bytes ≡ encodings ps
parts_encoded s one two first middle last = cc (split_encodings s)
