-- Lists that grow at their end, in one step or several.
use Rattle.std.proofs.Common.{◌≡◌, ℕ, List, [], ◌++◌, sym, ◌∙◌, append_assoc}
use Rattle.std.proofs.lemmas.List.{append-nil}
use Rattle.ag_value.specs.Spelling.{Extends}
use Rattle.ag_value.proofs.Layers.{spellings, weights}

pub by_nothing : (a b : List ℕ) → b ≡ a → Extends a b
by_nothing a b e = record { more = []; is = e ∙ sym (append-nil a) }

pub by_one : (a b more : List ℕ) → b ≡ a ++ more → Extends a b
by_one a b more e = record { more = more; is = e }

pub by_two : (a b c : List ℕ) → Extends a b → Extends b c → Extends a c
by_two a b c p q =
    record { more = p.more ++ q.more; is = cc (append_assoc a p.more q.more) }

pub ruleset extending = (by_nothing, by_one, by_two)

-- these lemmas, and those that compute the spelling and the weight of a value from those of its parts
pub ruleset appending = (extending, spellings, weights)
