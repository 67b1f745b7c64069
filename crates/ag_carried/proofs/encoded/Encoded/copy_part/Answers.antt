use Rattle.std.proofs.Common.{rules, ◌≡◌, ap, length, arith}
use Rattle.ag_value.specs.Spelling.{spelling_of}
use Rattle.ag_value.specs.declared.value.Value.{List as ListValue, Table}
use Rattle.ag_value.proofs.Lengths.{length-spelling}
use Rattle.ag_carried.proofs.encoded.Encoded.copy_part.Goals as goal

pub copy_part-requires : goal.copy_part-requires
copy_part-requires c =
    let table = c.in-Table.table in
    let bytes : c.args.self.now ≡ spelling_of (Table table) = search rules in
    omega (arith, c.requires, length-spelling (Table table), ap length bytes)

pub copy_part-requires-in-List : goal.copy_part-requires-in-List
copy_part-requires-in-List c =
    let list = c.in-List.list in
    let bytes : c.args.self.now ≡ spelling_of (ListValue list) = search rules in
    omega (arith, c.requires, length-spelling (ListValue list), ap length bytes)
