use Rattle.std.proofs.Common.{◌≡◌, ◌∷◌, ◌++◌, [], List, ap, append_assoc, arith, length, length-append}
use Rattle.table_tree.proofs.Keys.{Pair}
use Rattle.table_tree.proofs.Tables.{member, well_prefix, well_same, well_suffix}
use Rattle.table_tree.proofs.flat.+take_last.Goals as goal

pub new-requires-2 : goal.new-requires-2
new-requires-2 t c =
    let p : Pair = (c.in-Some.key, c.in-Some.value) in
    let earlier : List Pair = c.pop.new.self.items in
    let whole : c.args.pairs.now.items ≡ earlier ++ p ∷ c.in_ok-right.right =
    cc (c.in_ok-right.ensures.parts, c.in-Some.ensures.items, append_assoc earlier (p ∷ []) c.in_ok-right.right) in
    let is = member earlier p c.in_ok-right.right (well_same c.requires.well whole) in
    record { short = is.short; well = is.well; item = is.item }

pub take_last-requires-2 : goal.take_last-requires-2
take_last-requires-2 t c =
    let p : Pair = (c.in-Some.key, c.in-Some.value) in
    let earlier : List Pair = c.pop.new.self.items in
    let whole : c.args.pairs.now.items ≡ earlier ++ p ∷ c.in_ok-right.right =
    cc (c.in_ok-right.ensures.parts, c.in-Some.ensures.items, append_assoc earlier (p ∷ []) c.in_ok-right.right) in (
      omega arith,
      (
        omega (arith, ap length whole, length-append earlier (p ∷ c.in_ok-right.right), c.in_ok-right.ensures.count),
        well_prefix earlier (p ∷ c.in_ok-right.right) (well_same c.requires.well whole),
      ),
    )

pub fork-requires : goal.fork-requires
fork-requires t c =
    let p : Pair = (c.in-Some.key, c.in-Some.value) in
    let earlier : List Pair = c.pop.new.self.items in
    let rest : List Pair = c.take_last-2.new.pairs.items in
    let right : List Pair = c.in_ok-right.right in
    let entry : c.in_ok-entry.entry.value ≡ p = cc (c.in_ok-entry.ensures.ok, c.in_ok-new.ensures) in
    let whole : c.args.pairs.now.items ≡ rest ++ (c.in_ok-left.left ++ c.in_ok-entry.entry.value ∷ right) =
    cc (
      c.in_ok-right.ensures.parts,
      c.in-Some.ensures.items,
      c.in_ok-left.ensures.parts,
      append_assoc earlier (p ∷ []) right,
      append_assoc rest c.in_ok-left.left (p ∷ right),
    ) in
    well_suffix rest (c.in_ok-left.left ++ c.in_ok-entry.entry.value ∷ right) (well_same c.requires.well whole)
