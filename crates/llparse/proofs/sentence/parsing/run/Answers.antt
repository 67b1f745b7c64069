use Rattle.llparse.proofs.Common
use Common.{◌<◌, List, drop, None, subst, offset_at, Token, ahead_of, words_of, choice_of, sym, ◌∙◌, ◌≡◌, ◌≤◌, length, Ok, Err}
use Common.{refl, ap, arith, err_from_is_err_and, max_nodes, TokenReader, added, none_added, task_of, ParseFault}
use Rattle.llparse.specs.declared.sentence.parse_fault.ParseFault.TheVariants.{Unexpected}
use Rattle.treefile.specs.framing.Writing.{Progress}
use Rattle.llparse.proofs.steps.Prefixes.{on_top}
use Rattle.llparse.proofs.answers.Nexts.{some_left, all_taken}
use Rattle.llparse.proofs.answers.Putting.{stopped}
use Rattle.llparse.proofs.answers.Refused.{stuck}
use Rattle.llparse.proofs.steps.Starts.{on_symbol}
use Rattle.llparse.proofs.steps.Turning as turn
use Rattle.llparse.proofs.sentence.parsing.run.Goals as goal

pub returns-in_err-node-clause-refused : goal.returns-in_err-node-clause-refused
returns-in_err-node-clause-refused g c =
    let k =
    task_of c.args.language.now.grammar.now c.args.sentence.now (g.D.Device.is_honest c.args.device.now)
    (g.D.Device.content c.args.device.now) in
    let p = err_from_is_err_and c.from_residual.result c.from_residual.ensures.1 in
    let made = c.new-parser.ensures.tokens in
    rw (p.1, p.2)
    (stuck k.grammar c.args.sentence.now k.honest k.prefix 0 c.in_err-node.field-0.0
    (subst (λ (h : TokenReader). c.in_err-node.field-0.0 ≡ Unexpected (offset_at h.list h.taken)) made
    c.in_err-node.ensures.offset)
    (turn.not_begun k c.args.language.now.tables.now c.requires.tables c.start-start.result c.start-start.ensures.value
    c.start-start.ensures.accepted
    (subst
    (λ (h : TokenReader).
    choice_of c.args.language.now.tables.now c.start-start.result (ahead_of (drop h.taken (words_of h.list))) ≡ None)
    made c.in_err-node.ensures.none)))

pub loop-terminal-init : goal.loop-terminal-init
loop-terminal-init g c =
    let made = c.new-parser.ensures in
    let none_waits = ap length made.waiting in
    let none_written = ap (λ (w : Progress). w.written) c.requires.begun in
    let counted = made.count in
    record {
      occurs =
          λ honest below.
          turn.begun (task_of c.args.language.now.grammar.now c.args.sentence.now honest (g.D.Device.content c.args.device.now))
          c.args.language.now.tables.now c.requires.tables c.start-start.result c.start-start.ensures.value
          c.in_ok-node.node c.new-parser.result
          (omega arith) (omega arith) made.waiting made.texts
          (ap (λ (h : TokenReader). h.taken) made.tokens) made.count c.in_ok-node.ensures.begins
          c.in_ok-node.ensures.base
          (rw made.tokens at c.in_ok-node.ensures.chosen);
      written = omega arith;
      list = ap (λ (h : TokenReader). h.list) made.tokens;
      fine = ap (λ (w : Progress). w.is_broken) c.requires.begun;
      frames = λ h. none_added ParseFault _ (Ok tt);
      persists = record { honest = λ h. h; kept = omega arith; bounded = λ h. h; cause = λ h. absurd h };
    }

pub next_item-requires : goal.next_item-requires
next_item-requires g c =
    turn.within _ c.loop-terminal.node c.loop-terminal.parser _
    (c.loop-terminal.invariant.occurs (g.D.Device.is_honest c.loop-terminal.device) (λ h. h))

-- after a terminal
pub loop-terminal-smaller-in-Continue-branch-2 : goal.loop-terminal-smaller-in-Continue-branch-2
loop-terminal-smaller-in-Continue-branch-2 g c =
    turn.smaller
    (task_of c.args.language.now.grammar.now c.args.sentence.now (g.D.Device.is_honest c.args.device.now)
    (g.D.Device.content c.args.device.now)) _ _ _ c.in-Some-Terminal.ensures c.loop-terminal.parser c.take.new.self
    c.in_ok-take-in-Some-Terminal.ensures.waiting
    c.in_ok-take-in-Some-Terminal.ensures.count

pub loop-terminal-preserved-in-Continue-branch-2 : goal.loop-terminal-preserved-in-Continue-branch-2
loop-terminal-preserved-in-Continue-branch-2 g c =
    let inv = c.loop-terminal.invariant in
    let done = c.in_ok-take-in-Some-Terminal.ensures in
    let takes = rw inv.list at done.takes in
    record {
      occurs =
          λ honest below. takes c.next_item.new.node honest below _ _ (c.start-start.ensures.accepted, c.requires.tokens)
          (turn.faced _ _ _ _ c.in-Some-Terminal.ensures _
          c.in-Some-Terminal.field-0-is c.loop-terminal.parser _
          (inv.occurs honest (λ h. done.device.persists.honest (below h))));
      written = done.written;
      list = done.list ∙ inv.list;
      fine = done.fine;
      frames =
          λ h. added ParseFault _ _ _ (Ok tt) (inv.frames (done.device.persists.honest h)) (done.adds h);
      persists = turn.persists_on _ _ _ _ _ _ inv.persists done.device.persists;
    }

pub returns-in_err-take-in-Some-Terminal-clause-refused : goal.returns-in_err-take-in-Some-Terminal-clause-refused
returns-in_err-take-in-Some-Terminal-clause-refused g c =
    let p =
    err_from_is_err_and c.from_residual-in_err-take-in-Some-Terminal.result
    c.from_residual-in_err-take-in-Some-Terminal.ensures.1 in
    let inv = c.loop-terminal.invariant in
    rw (p.1, p.2)
    ((rw inv.list at (c.in_err-take-in-Some-Terminal.ensures.refuses c.next_item.new.node)) _ _ _ _
    (c.start-start.ensures.accepted, c.requires.tokens)
    (turn.faced _ _ _ _ c.in-Some-Terminal.ensures _
    c.in-Some-Terminal.field-0-is c.loop-terminal.parser _
    (inv.occurs (g.D.Device.is_honest c.take.new.device)
    (λ h. c.in_err-take-in-Some-Terminal.ensures.device.persists.honest h))))

-- after a symbol
pub returns-in_err-node-in-Some-Symbol-clause-refused : goal.returns-in_err-node-in-Some-Symbol-clause-refused
returns-in_err-node-in-Some-Symbol-clause-refused g c =
    let p =
    err_from_is_err_and c.from_residual-in_err-node-in-Some-Symbol.result
    c.from_residual-in_err-node-in-Some-Symbol.ensures.1 in
    let inv = c.loop-terminal.invariant in
    rw (p.1, p.2)
    ((rw inv.list at c.in_err-node-in-Some-Symbol.ensures.refuses) _ _ _ _
    (c.start-start.ensures.accepted, c.requires.tables) (on_symbol _ c.next_item.new.node refl
    (turn.faced _ _ _ _ c.in-Some-Symbol.ensures _
    c.in-Some-Symbol.field-0-is c.loop-terminal.parser _
    (inv.occurs (g.D.Device.is_honest c.loop-terminal.device) (λ h. h)))))

pub loop-terminal-preserved-in-Some-Symbol : goal.loop-terminal-preserved-in-Some-Symbol
loop-terminal-preserved-in-Some-Symbol g c =
    let inv = c.loop-terminal.invariant in
    let written = inv.written in
    let counted = c.in_ok-node-in-Some-Symbol.ensures.counted in
    record {
      occurs =
          λ honest below. (rw inv.list at c.in_ok-node-in-Some-Symbol.ensures.opens) _ _ _ _
          (c.start-start.ensures.accepted, c.requires.tables)
          (on_symbol _ c.next_item.new.node refl
          (turn.faced _ _ _ _ c.in-Some-Symbol.ensures _ c.in-Some-Symbol.field-0-is c.loop-terminal.parser _
          (inv.occurs honest below)));
      written = omega arith;
      list = ap (λ (h : TokenReader). h.list) c.in_ok-node-in-Some-Symbol.ensures.tokens ∙ inv.list;
      fine = inv.fine;
      frames = inv.frames;
      persists = inv.persists;
    }

-- at a node's end
pub texts_from-texts-requires : goal.texts_from-texts-requires
texts_from-texts-requires g c =
    (turn.own_few _ _ _ c.loop-terminal.parser _ c.in-None.ensures
    (c.loop-terminal.invariant.occurs (g.D.Device.is_honest c.loop-terminal.device) (λ h. h)) c.start-start.ensures.accepted).0

pub put_node-requires-clause-few : goal.put_node-requires-clause-few
put_node-requires-clause-few g c =
    let few =
    (turn.own_few _ _ _ c.loop-terminal.parser _ c.in-None.ensures
    (c.loop-terminal.invariant.occurs (g.D.Device.is_honest c.loop-terminal.device) (λ h. h)) c.start-start.ensures.accepted).1 in
    rw c.texts_from-texts.ensures (omega (arith, few))

pub put_node-requires-clause-room : goal.put_node-requires-clause-room
put_node-requires-clause-room g c =
    let few : c.loop-terminal.parser.count ≤ max_nodes =
    (c.loop-terminal.invariant.occurs (g.D.Device.is_honest c.loop-terminal.device) (λ h. h)).held.few in
    let written = c.loop-terminal.invariant.written in
    omega arith

pub put_node-requires-clause-well : goal.put_node-requires-clause-well
put_node-requires-clause-well g c =
    rw c.texts_from-texts.ensures
    (turn.own_few _ _ _ c.loop-terminal.parser _ c.in-None.ensures
    (c.loop-terminal.invariant.occurs (g.D.Device.is_honest c.loop-terminal.device) (λ h. h)) c.start-start.ensures.accepted).2

pub loop-terminal-preserved : goal.loop-terminal-preserved
loop-terminal-preserved g c =
    let inv = c.loop-terminal.invariant in
    let put = c.in_ok-put_node-in-None.ensures in
    let written = inv.written in
    let more = ap (λ (w : Progress). w.written) put.counted in
    let sizes = c.in-Some.ensures.len in
    record {
      occurs =
          λ honest below.
          rw (on_top c.pop.new.self.items c.loop-terminal.parser.waiting.items c.in-Some.outer c.in-Some.ensures.items) at
          (turn.ended _ _ _ c.loop-terminal.parser _ c.in-None.ensures
          (inv.occurs honest (λ h. put.device.persists.honest (below h))) _ _ _ c.texts_from-texts.ensures
          c.truncate.ensures.items (λ h. put.frame (below h)));
      written = omega arith;
      list = inv.list;
      fine = ap (λ (w : Progress). w.is_broken) put.counted ∙ inv.fine;
      frames =
          λ h. added ParseFault _ _ _ (Ok tt) (inv.frames (put.device.persists.honest h)) (put.adds h);
      persists = turn.persists_on _ _ _ _ _ _ inv.persists put.device.persists;
    }

-- at the end of the root
pub returns-then-is_some-clause-refused : goal.returns-then-is_some-clause-refused
returns-then-is_some-clause-refused g c =
    let inv = c.loop-terminal.invariant in
    let none_waits : length c.loop-terminal.parser.waiting.items ≡ 0 = omega (arith, c.in_default.ensures.cases) in
    let tokens = c.loop-terminal.parser.tokens in
    let some : tokens.taken < length c.args.sentence.now =
    subst (λ (ts : List Token). tokens.taken < length ts) inv.list
    (some_left tokens.list tokens.taken c.ahead.result c.ahead.ensures (sym c.is_some.ensures ∙ c.if-is_some.true)) in
    let exact : c.unexpected.result ≡ Unexpected (offset_at c.args.sentence.now tokens.taken) =
    subst (λ ts. c.unexpected.result ≡ Unexpected (offset_at ts tokens.taken)) inv.list c.unexpected.ensures in
    stuck _ c.args.sentence.now (g.D.Device.is_honest c.put_node.new.device) (g.D.Device.content c.args.device.now) tokens.taken
    c.unexpected.result exact
    (turn.some_left _ c.args.sentence.now _ _ c.loop-terminal.parser _ _ none_waits
    (turn.ended _ c.loop-terminal.node c.next_item.new.node c.loop-terminal.parser _ c.in-None.ensures
    (inv.occurs (g.D.Device.is_honest c.put_node.new.device)
    (λ h. c.in_ok-put_node-in-None.ensures.device.persists.honest h)) _ _ _
    c.texts_from-texts.ensures c.truncate.ensures.items (λ h. c.in_ok-put_node-in-None.ensures.frame h)) some)

pub returns-clause-parsed : goal.returns-clause-parsed
returns-clause-parsed g c =
    let inv = c.loop-terminal.invariant in
    let none_waits : length c.loop-terminal.parser.waiting.items ≡ 0 = omega (arith, c.in_default.ensures.cases) in
    let tokens = c.loop-terminal.parser.tokens in
    let all =
    rw inv.list at
    (all_taken tokens.list tokens.taken c.ahead.result c.ahead.ensures (sym c.is_some.ensures ∙ c.if-is_some.false)) in
    turn.all_taken _ c.args.sentence.now _ _ c.loop-terminal.parser _ _ none_waits
    (turn.ended _ _ _ c.loop-terminal.parser _ c.in-None.ensures
    (inv.occurs (g.D.Device.is_honest c.put_node.new.device)
    (λ h. c.in_ok-put_node-in-None.ensures.device.persists.honest h)) _ _ _
    c.texts_from-texts.ensures c.truncate.ensures.items (λ h. c.in_ok-put_node-in-None.ensures.frame h)) all

-- the content after a fault: the records so far, or these and a prefix of a frame
pub returns-in_err-take-in-Some-Terminal-clause-left : goal.returns-in_err-take-in-Some-Terminal-clause-left
returns-in_err-take-in-Some-Terminal-clause-left g c =
    let inv = c.loop-terminal.invariant in
    rw (err_from_is_err_and c.from_residual-in_err-take-in-Some-Terminal.result
    c.from_residual-in_err-take-in-Some-Terminal.ensures.1).1
    (λ h. added ParseFault _ _ _ (Err c.in_err-take-in-Some-Terminal.field-0.0)
    (inv.frames (c.in_err-take-in-Some-Terminal.ensures.device.persists.honest h))
    (c.in_err-take-in-Some-Terminal.ensures.adds h))

pub returns-in_err-node-in-Some-Symbol-clause-left : goal.returns-in_err-node-in-Some-Symbol-clause-left
returns-in_err-node-in-Some-Symbol-clause-left g c =
    rw (err_from_is_err_and c.from_residual-in_err-node-in-Some-Symbol.result
    c.from_residual-in_err-node-in-Some-Symbol.ensures.1).1
    (λ h. stopped _ _ c.in_err-node-in-Some-Symbol.field-0.0
    (c.loop-terminal.invariant.frames h))

pub returns-in_err-put_node-in-None-clause-left : goal.returns-in_err-put_node-in-None-clause-left
returns-in_err-put_node-in-None-clause-left g c =
    let inv = c.loop-terminal.invariant in
    rw (err_from_is_err_and c.from_residual-in_err-put_node-in-None.result c.from_residual-in_err-put_node-in-None.ensures.1).1
    (λ h. added ParseFault _ _ _ (Err c.in_err-put_node-in-None.field-0.0)
    (inv.frames (c.in_err-put_node-in-None.ensures.device.persists.honest h))
    (c.in_err-put_node-in-None.ensures.adds h))

pub returns-then-is_some-clause-left : goal.returns-then-is_some-clause-left
returns-then-is_some-clause-left g c = λ h.
    let inv = c.loop-terminal.invariant in
    stopped _ _ c.unexpected.result
    (added ParseFault _ _ _ (Ok tt)
    (inv.frames (c.in_ok-put_node-in-None.ensures.device.persists.honest h)) (c.in_ok-put_node-in-None.ensures.adds h))
