use Rattle.llparse.proofs.Common.{◌≡◌, ◌<◌, arith, get_or, length, rows, slice_get-get_or, sym}
use Rattle.llparse.proofs.look_ahead.Columns.{known_of}
use Rattle.llparse.proofs.look_ahead.Conflicts.{conflict_added, least_of_pair, none_added, none_of_pair}
use Rattle.llparse.proofs.table.conflicts.add_conflict.Goals as goal

pub returns-in_default : goal.returns-in_default
returns-in_default c = λ old.
    let g = c.args.grammar.now in
    let ok = c.productions-productions.ensures.accepted in
    none_added g ok c.args.first c.args.second c.args.faults.now.items old
    (none_of_pair g ok (rows c.args.lists.now) c.requires.marks c.args.first c.args.second c.in_default.ensures)

pub returns : goal.returns
returns c = λ old.
    let g = c.args.grammar.now in
    let ok = c.of.ensures.accepted in
    let first = c.args.first in
    let second = c.args.second in
    let below : first < length g.productions = omega (arith, c.requires.earlier, c.requires.within) in
    let one = get_or g.productions first c.index-productions-first.result in
    let other = get_or g.productions second c.index-productions-second.result in
    let lent = c.productions-productions.ensures.lent in
    let same : one.left ≡ other.left = sym (rw lent at c.if-productions-second.false) in
    let x = c.ahead-ahead.result in
    let known = known_of g ok x (rw c.of.ensures.literals at c.ahead-ahead.ensures.known) in
    rw (c.in_ok-push.ensures.items, lent)
    (conflict_added g ok first second c.args.faults.now.items old one.left x
    (least_of_pair g ok (rows c.args.lists.now) c.requires.marks first second one other
    (slice_get-get_or g.productions first c.index-productions-first.result below)
    (slice_get-get_or g.productions second c.index-productions-second.result c.requires.within) c.requires.earlier same
    c.in-Some.index x c.in-Some.ensures known (rw c.of.ensures.literals at c.ahead-ahead.ensures.index)))
