use Rattle.llparse.proofs.Common
use Common.{◌+◌, ◌<◌, ◌∷◌, ap, length, reverse, arith, ◌∙◌, length-reverse, err_from_is_err_and, max_depth, reader_at, task_of}
use Common.{none_added, ParseFault, Parser}
use Rattle.ag_scan.specs.Words.{vocabulary_of}
use Rattle.llparse.proofs.answers.Refused.{full_leaf, stuck, text_is}
use Rattle.llparse.proofs.steps.Leaves.{on_class}
use Rattle.llparse.proofs.steps.Literals.{no_terminal, on_literal}
use Rattle.llparse.proofs.sentence.parser.Parser.take.Goals as goal
use Rattle.llparse.proofs.sentence.parser.Parser.take.Goals.{in-Class+in_ok-has_room+in_ok-put_leaf, in_default}

pub returns-in_err-lex-clause-refuses : goal.returns-in_err-lex-clause-refuses
returns-in_err-lex-clause-refuses g c = λ node.
    let p = err_from_is_err_and c.from_residual.result c.from_residual.ensures.1 in
    rw (p.1, p.2) (λ gr honest prefix bytes has b.
    stuck gr c.args.self.now.tokens.list honest prefix c.args.self.now.tokens.taken c.in_err-lex.field-0.0
    c.in_err-lex.ensures.offset
    (no_terminal (task_of gr c.args.self.now.tokens.list honest prefix) has.0 c.in_err-lex.ensures.other b))

pub returns-in_err-lex-clause-adds : goal.returns-in_err-lex-clause-adds
returns-in_err-lex-clause-adds g c h = none_added ParseFault (g.D.Device.content c.args.device.now) c.from_residual.result

pub returns-in_err-has_room-clause-refuses : goal.returns-in_err-has_room-clause-refuses
returns-in_err-has_room-clause-refuses g c = λ node.
    let p = err_from_is_err_and c.from_residual-in_err-has_room.result c.from_residual-in_err-has_room.ensures.1 in
    rw (p.1, p.2, c.in-Class.is) (λ gr honest prefix bytes has b.
    full_leaf gr c.args.self.now.tokens.list honest prefix has.0 node c.args.self.now c.in-Class.class bytes
    c.in_err-has_room.field-0.0 c.in_err-has_room.ensures.full b)

pub returns-in_err-has_room-clause-adds : goal.returns-in_err-has_room-clause-adds
returns-in_err-has_room-clause-adds g c h =
    none_added ParseFault (g.D.Device.content c.args.device.now) c.from_residual-in_err-has_room.result

pub put_leaf-requires-clause-text : goal.put_leaf-requires-clause-text
put_leaf-requires-clause-text g c =
    let fits = c.in_ok-lex.ensures.fits (vocabulary_of c.requires.fits.0) c.requires.fits.1.1 in
    (rw c.in-Class.is at fits).1

pub returns-clause-takes : goal.returns-clause-takes
returns-clause-takes g c = λ node honest below gr prefix has b.
    let task = task_of gr c.args.self.now.tokens.list honest prefix in
    let fs = node ∷ reverse c.args.self.now.waiting.items in
    let lex = c.in_ok-lex.lex.now in
    let fits = c.in_ok-lex.ensures.fits (vocabulary_of gr) has.1 in
    elim c.match-terminal.branch [
      | in-Class+in_ok-has_room+in_ok-put_leaf w ↦
          let is = w.in-Class.is in
          let room = w.in_ok-has_room.ensures.room in
          let levels : length fs < max_depth = omega (arith, length-reverse c.args.self.now.waiting.items, room.0) in
          let passed = c.advance.ensures ∙ ap (λ (p : Parser). reader_at p.tokens.list (p.tokens.taken + 1)) w.self-is in
          rw (w.self-is, w.device-is, passed)
          (on_class task (rw is at c.in_ok-lex.ensures.taken) (rw is at fits).1
          (λ h. w.in_ok-put_leaf.ensures.frame ((rw w.device-is at below) h)) w.in_ok-put_leaf.ensures.kept room.1 levels
          (rw is at b))
      | in_default w ↦
          let is = w.in_default.is in
          let passed = c.advance.ensures ∙ ap (λ (p : Parser). reader_at p.tokens.list (p.tokens.taken + 1)) w.self-is in
          let text = text_is gr w.in_default.field-0 lex (rw is at fits) in
          let word = rw is at c.in_ok-lex.ensures.taken in
          rw (w.self-is, w.device-is, passed) (on_literal task (rw text at word) (rw is at b))
    ]
