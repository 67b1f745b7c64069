use Rattle.ag_text.proofs.Lines.{lines_more}
use Rattle.ag_text.proofs.faults.line_from.Goals as goal

pub returns-then-at-bytes : goal.returns-then-at-bytes
returns-then-at-bytes c =
    rw (c.requires, c.line_feeds.ensures, c.as_bytes-bytes.ensures.value)
    (lines_more c.args.text.now c.args.from c.args.at c.if-from-at.true)
