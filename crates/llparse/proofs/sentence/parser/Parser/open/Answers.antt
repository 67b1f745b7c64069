use Rattle.llparse.proofs.Common
use Common.{rules, ◌≡◌, ◌++◌, [], ◌<◌, ◌∷◌, length, reverse, arith, length-reverse, err_from_is_err_and, max_depth, max_nodes}
use Common.{task_of, output_of}
use Rattle.llparse.proofs.steps.Prefixes.{on_top}
use Rattle.llparse.proofs.answers.Refused.{full_node, stuck}
use Rattle.llparse.proofs.steps.Stacks.{fewer_opened}
use Rattle.llparse.proofs.steps.Starts.{no_rule, on_open}
use Rattle.llparse.proofs.sentence.parser.Parser.open.Goals as goal

pub returns-in_err-node-clause-refuses : goal.returns-in_err-node-clause-refuses
returns-in_err-node-clause-refuses c =
    let p = err_from_is_err_and c.from_residual.result c.from_residual.ensures.1 in
    rw (p.1, p.2) (λ g honest prefix bytes has a.
    stuck g c.args.self.now.tokens.list honest prefix c.args.self.now.tokens.taken c.in_err-node.field-0.0
    c.in_err-node.ensures.offset
    (no_rule (task_of g c.args.self.now.tokens.list honest prefix) c.args.tables.now has.1 has.0 c.args.symbol
    c.in_err-node.ensures.none a))

pub returns-in_err-has_room-clause-refuses : goal.returns-in_err-has_room-clause-refuses
returns-in_err-has_room-clause-refuses c =
    let p = err_from_is_err_and c.from_residual-in_err-has_room.result c.from_residual-in_err-has_room.ensures.1 in
    rw (p.1, p.2) (λ g honest prefix bytes has a.
    full_node g c.args.self.now.tokens.list honest prefix has.0 c.args.outer c.args.self.now c.args.symbol bytes
    c.in_err-has_room.field-0.0 c.in_err-has_room.ensures.full a)

pub returns-clause-opens : goal.returns-clause-opens
returns-clause-opens c = λ g honest prefix bytes has a.
    let room = c.in_ok-has_room.ensures.room in
    let levels : length (c.args.outer ∷ reverse c.args.self.now.waiting.items) < max_depth =
    omega (arith, length-reverse c.args.self.now.waiting.items, room.0) in
    let opened =
    on_open (task_of g c.args.self.now.tokens.list honest prefix) c.args.tables.now has.1 c.args.symbol
    c.in_ok-node.node.production c.in_ok-node.node.base (c.args.outer ∷ reverse c.args.self.now.waiting.items) _ _
    (output_of c.args.self.now bytes) c.in_ok-node.ensures.chosen
    (omega (arith, c.in_ok-node.ensures.base, c.len.ensures)) room.1 levels a in
    let pushed : c.push.new.self.items ≡ c.args.self.now.waiting.items ++ c.args.outer ∷ [] = search rules in
    rw (c.in_ok-node.ensures.begins, on_top c.args.self.now.waiting.items c.push.new.self.items c.args.outer pushed) opened

pub returns-clause-steps : goal.returns-clause-steps
returns-clause-steps c = λ g.
    let pushed : c.push.new.self.items ≡ c.args.self.now.waiting.items ++ c.args.outer ∷ [] = search rules in
    rw (c.in_ok-node.ensures.begins, on_top c.args.self.now.waiting.items c.push.new.self.items c.args.outer pushed)
    (fewer_opened g max_nodes (c.args.outer ∷ reverse c.args.self.now.waiting.items) c.in_ok-node.node.production
    c.in_ok-node.node.base c.args.self.now.count c.in_ok-has_room.ensures.room.1)
