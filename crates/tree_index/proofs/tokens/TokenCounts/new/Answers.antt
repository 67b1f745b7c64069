use Rattle.std.proofs.Common.{◌≡◌, ◌+◌, ◌∷◌, [], length, sym, ap, arith}
use Rattle.std.proofs.lemmas.List.{length-append}
use Rattle.tree_index.specs.Tokens.{count_before}
use Rattle.tree_index.proofs.Counts.{before_next, none_before, pushed}
use Rattle.tree_index.proofs.tokens.TokenCounts.new.Goals as goal

pub loop-node-init : goal.loop-node-init
loop-node-init c =
    let kinds = c.args.index.now.kinds.items in
    let none = none_before c.args.grammar.now kinds in
    let items : c.push.new.self.items ≡ 0 ∷ [] = cc (c.in_ok-push.ensures.items, c.new-before.ensures.items) in
    record {
      long = ap length items;
      count = sym none;
      each = rw items (pushed (count_before c.args.grammar.now kinds) [] 0 (λ i n is. cc) (sym none));
    }

pub loop-node-preserved : goal.loop-node-preserved
loop-node-preserved c =
    let g = c.args.grammar.now in
    let kinds = c.args.index.now.kinds.items in
    let node = c.loop-node.node in
    let before = c.loop-node.before.items in
    let was = c.loop-node.invariant in
    let sum : c.in-Some.sum ≡ count_before g kinds (node + 1) =
    omega (arith, was.count, before_next g kinds node, c.own_tokens.ensures, c.in-Some.ensures) in
    let one : node + 1 ≡ length before = omega (arith, was.long) in
    let items = c.in_ok-push-2.ensures.items in
    record {
      long = omega (arith, length-append before (c.in-Some.sum ∷ []), ap length items);
      count = sum;
      each = rw items (pushed (count_before g kinds) before c.in-Some.sum was.each (rw one at sum));
    }
