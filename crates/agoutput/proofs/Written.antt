-- The bytes of a writer after one more write: it took some bytes, or it failed.
use Rattle.std.proofs.Common.{ℕ, List, ◌++◌, take, drop, Option, Some, None, ◌≡◌, sym, ap, ◌∙◌, append_assoc}
use Rattle.std.proofs.lemmas.List.{take-append-drop}
use Rattle.std.specs.Io.KnownBytes.{Appends, Keeps}
use Rattle.agoutput.specs.Writing.{AppendsBeginning}

-- `bytes` without its suffix `rest` was appended to the writer's bytes, if contracts can name these
pub record HasWritten (old new : Option (List ℕ)) (bytes rest : List ℕ) : Type 0 where
  pub prefix : List ℕ
  pub cut : bytes ≡ prefix ++ rest
  pub put : Appends old new prefix

-- bytes were appended, and then more bytes or none
appended : (old mid new : Option (List ℕ)) (xs ys : List ℕ) → Appends old mid xs → Appends mid new ys → Appends old new (xs ++ ys)
appended None mid new xs ys p q = tt
appended (Some os) None new xs ys p q = absurd p
appended (Some os) (Some ms) None xs ys p q = absurd q
appended (Some os) (Some ms) (Some ns) xs ys p q = q ∙ ap (λ (w : List ℕ). w ++ ys) p ∙ append_assoc os xs ys

kept : (old mid new : Option (List ℕ)) (xs : List ℕ) → Appends old mid xs → Keeps mid new → Appends old new xs
kept None mid new xs p q = tt
kept (Some os) None new xs p q = absurd p
kept (Some os) (Some ms) None xs p q = absurd q
kept (Some os) (Some ms) (Some ns) xs p q = q ∙ p

-- the write took the first n bytes of the rest
pub one_more : (old mid new : Option (List ℕ)) (bytes rest : List ℕ) (n : ℕ) → HasWritten old mid bytes rest
    → Appends mid new (take n rest) → HasWritten old new bytes (drop n rest)
one_more old mid new bytes rest n so_far more = record {
  prefix = so_far.prefix ++ take n rest;
  cut =
      so_far.cut ∙ ap (λ (w : List ℕ). so_far.prefix ++ w) (sym (take-append-drop n rest))
      ∙ sym (append_assoc so_far.prefix (take n rest) (drop n rest));
  put = appended old mid new so_far.prefix (take n rest) so_far.put more;
}

-- the write took no byte, or failed: a prefix of all bytes was appended
pub none_more : (old mid new : Option (List ℕ)) (bytes rest : List ℕ) → HasWritten old mid bytes rest → Keeps mid new
    → AppendsBeginning old new bytes
none_more old mid new bytes rest so_far same =
    record { prefix = so_far.prefix; rest = rest; cut = so_far.cut; put = kept old mid new so_far.prefix so_far.put same }

pub so_far_written : (old new : Option (List ℕ)) (bytes rest : List ℕ) → HasWritten old new bytes rest
    → AppendsBeginning old new bytes
so_far_written old new bytes rest so_far = record { prefix = so_far.prefix; rest = rest; cut = so_far.cut; put = so_far.put }

pub ruleset beginning = (none_more, so_far_written)
