use Rattle.std.proofs.Common.{◌≡◌, ◌++◌, arith, length}
use Rattle.ag_value.specs.Spelling.{spelling_of}
use Rattle.ag_value.specs.declared.value.Value.TheVariants as v
use Rattle.table_tree.proofs.Bytes.{bytes_append}
use Rattle.table_tree.proofs.Encoded.{encodings, length-encodings, length-table, table_encoding}
use Rattle.table_tree.proofs.tree.TableTree.encoding_len.Goals as goal

pub returns-clause-len : goal.returns-clause-len
returns-clause-len c =
    let five : length c.header-header.result ≡ 5 = cc in
    omega (arith, length-table c.args.self.now, length-encodings c.args.self.now)

pub returns-clause-bytes : goal.returns-clause-bytes
returns-clause-bytes c =
    let parts : spelling_of (v.Table c.args.self.now) ≡ c.header-header.result ++ encodings c.args.self.now =
    cc (table_encoding c.args.self.now) in
    rw parts
    (bytes_append c.header-header.result (encodings c.args.self.now) c.byte_count.ensures.bytes c.totals.ensures.bytes)
