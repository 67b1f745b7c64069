use Rattle.aggen.proofs.Common.{ap, Err, sym}
use Rattle.treefile.proofs.framing.Beginning.{not_begun}
use Rattle.aggen.proofs.Sentences.{one_of, parse_exact, scan_exact, with_tokens}
use Rattle.aggen.proofs.Exits.{at_exit}
use Rattle.aggen.proofs.Left.{first_begins, no_parse_of_device}
use Rattle.aggen.proofs.translator.Translator.parse_tree.Goals as goal

-- a sentence has at most one tree, for any result
pub returns-in_err-tokens-clause-one : goal.returns-in_err-tokens-clause-one
returns-in_err-tokens-clause-one g c =
    rw (sym c.self.view_is) (one_of c.self.invariant.0 _ c.self.invariant.1 c.args.sentence.now)

pub returns-in_err-writer-clause-one : goal.returns-in_err-writer-clause-one
returns-in_err-writer-clause-one g c =
    rw (sym c.self.view_is) (one_of c.self.invariant.0 _ c.self.invariant.1 c.args.sentence.now)

pub returns-in_err-count-clause-one : goal.returns-in_err-count-clause-one
returns-in_err-count-clause-one g c =
    rw (sym c.self.view_is) (one_of c.self.invariant.0 _ c.self.invariant.1 c.args.sentence.now)

pub returns-clause-one : goal.returns-clause-one
returns-clause-one g c =
    rw (sym c.self.view_is) (one_of c.self.invariant.0 _ c.self.invariant.1 c.args.sentence.now)

-- a tree of the sentence is a tree of its tokens, of which `parse` states the same
pub returns-clause-limits : goal.returns-clause-limits
returns-clause-limits g c = rw (sym c.self.view_is)
    (λ t is. c.in_ok-count.ensures.limits t (with_tokens c.self.invariant.0 c.in_ok-tokens.ensures.tokens t is))

pub returns-clause-count : goal.returns-clause-count
returns-clause-count g c = rw (sym c.self.view_is)
    (λ t is. c.in_ok-count.ensures.count t (with_tokens c.self.invariant.0 c.in_ok-tokens.ensures.tokens t is))

pub returns-clause-file : goal.returns-clause-file
returns-clause-file g c = rw (sym c.self.view_is)
    (λ t is. c.in_ok-count.ensures.file t (with_tokens c.self.invariant.0 c.in_ok-tokens.ensures.tokens t is))

-- the meaning of a fault of scanning, and of parsing, for the sentence
pub returns-in_err-tokens-clause-refused : goal.returns-in_err-tokens-clause-refused
returns-in_err-tokens-clause-refused g c =
    at_exit _ _ _ c.from_residual.ensures
    (rw (sym c.self.view_is) (scan_exact c.self.invariant.0 c.args.sentence.now _ c.in_err-tokens.ensures.refused))

pub returns-in_err-count-clause-refused : goal.returns-in_err-count-clause-refused
returns-in_err-count-clause-refused g c =
    let e = c.in_err-count.ensures in
    at_exit _ _ _ c.from_residual-in_err-count.ensures
    (rw (sym c.self.view_is)
    (parse_exact c.self.invariant.0 c.in_err-count.field-0.0 c.in_ok-tokens.ensures.tokens e.unexpected e.none e.deep e.large))

-- the content of the device after a fault
pub returns-in_err-writer-clause-left : goal.returns-in_err-writer-clause-left
returns-in_err-writer-clause-left g c =
    at_exit _ _ _ c.from_residual-in_err-writer.ensures
    (λ h. not_begun 0 _ _ c.in_err-writer.field-0.0 (λ failed. c.in_err-writer.ensures.device (ap Err failed) h)
    (λ resource. c.in_err-writer.ensures.memory (ap Err resource) h))

-- after P a prefix of the file, and after Ok all of it
pub returns-in_err-writer-clause-parsed : goal.returns-in_err-writer-clause-parsed
returns-in_err-writer-clause-parsed g c =
    at_exit _ _ _ c.from_residual-in_err-writer.ensures (λ is. absurd (no_parse_of_device c.in_err-writer.field-0.0 is))

pub returns-clause-begins : goal.returns-clause-begins
returns-clause-begins g c = λ h. let tree = c.in_ok-count.ensures.tree in
    first_begins c.self.invariant.0 tree.1.tree (c.in_ok-count.ensures.file tree.0 tree.1 h)
