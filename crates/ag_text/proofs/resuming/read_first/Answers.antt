use Rattle.std.proofs.Common.{chars}
use Rattle.std.proofs.lemmas.Str.{IsCharBoundary-start}
use Rattle.ag_text.specs.Reading.{grammar_of}
use Rattle.ag_text.proofs.Continued.{noted_err, noted_ok}
use Rattle.ag_text.proofs.resuming.read_first.Goals as goal
use Rattle.ag_text.proofs.resuming.read_first.Goals.{in-Ok, in-Err}

pub push_fault-requires : goal.push_fault-requires
push_fault-requires c = IsCharBoundary-start c.args.text.now c.utf8.text

pub returns : goal.returns
returns c =
    elim c.match-whole_grammar.branch [
      | in-Ok w ↦ let read = noted_ok c.args.text.now grammar_of 0 (chars c.args.text.now) c.new-cursor.result c.new-cursor.ensures
          c.args.faults.now.items _ _ w.in-Ok.ensures in
          rw (w.result-is, w.faults-is) read
      | in-Err w ↦ let read = noted_err c.args.text.now grammar_of 0 (chars c.args.text.now) c.new-cursor.result c.new-cursor.ensures
          w.in-Err.fault c.args.faults.now.items w.push_fault.new.faults.items w.push_fault.result w.in-Err.ensures
          w.push_fault.ensures.known w.push_fault.ensures.pushed w.push_fault.ensures.next in
          rw (w.result-is, w.faults-is) read
    ]
