-- `IsReadable` of `Faults` as a test: each literal of a raw grammar has at least one byte and contains no separator, and each
-- class is NAME, NUMBER or TEXT.
use Rattle.std.specs.Prelude.{ℕ, Bool, true, ◌&&◌, not, nat_eq, nat_le, nat_lt, List, length, ◌||◌}
use Rattle.std.specs.List.{list_all}
use Rattle.ag_grammar.specs.grammars.Accepted.{class_count}
use Rattle.ag_grammar.specs.declared.raw.RawItem.{RawItem}
use Rattle.ag_grammar.specs.declared.raw.RawItem.TheVariants as raw_item
use Rattle.ag_grammar.specs.declared.raw.RawProduction.{RawProduction}

-- a space, a tab, CR or LF
abbrev pub is_separator : ℕ → Bool
is_separator b = nat_eq b 32 || nat_eq b 9 || nat_eq b 13 || nat_eq b 10

-- a literal: it is not empty and has no separator
abbrev pub readable_text : List ℕ → Bool
readable_text text = nat_le 1 (length text) && list_all (λ b. not (is_separator b)) text

-- an item: a name always passes, a literal if `readable_text` holds, and a class if it is NAME, NUMBER or TEXT
abbrev pub readable_item : RawItem → Bool
readable_item (raw_item.Name name) = true
readable_item (raw_item.Literal text) = readable_text text
readable_item (raw_item.Class c) = nat_lt c class_count

-- a production: each item passes
abbrev pub readable_in : RawProduction → Bool
readable_in q = list_all readable_item q.items
