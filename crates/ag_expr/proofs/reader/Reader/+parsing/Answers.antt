use Rattle.ag_expr.proofs.Common.{[], ◌∙◌, ap, refl, sym, Ok, further_from, input}
use Rattle.ag_expr.specs.language.Reading.{atom_from, expr_in, is_operator_of, items_from, other_from, ranked_from}
use Rattle.ag_expr.specs.language.Syntax.{closer, takes_one}
use Rattle.ag_expr.proofs.language.Parts.{answered, goes_on, ends, failed, stopped}
use Rattle.ag_expr.proofs.reader.Reader.+parsing.Goals as goal

-- ---- the operands of a chain

pub others-returns-in_err-other : goal.others-returns-in_err-other
others-returns-in_err-other t c =
    answered (λ others. others.items)
    (λ all names. further_from (takes_one c.args.precedence) (is_operator_of c.args.precedence)
    (other_from c.args.precedence (ranked_from (atom_from (expr_in all c.args.levels) names all) (closer c.args.precedence)))
    [])
    c.args.self.now c.other.new.self _ _ c.from_residual.ensures.1
    (λ memory. failed c.loop-precedence.invariant.so_far (cc) _ (c.in_err-other.ensures memory))

pub others-returns-then-takes_one : goal.others-returns-then-takes_one
others-returns-then-takes_one t c =
    let last =
    ends c.loop-precedence.invariant.so_far (cc) (cc) _ _ c.in_ok-other.ensures.0 c.in_ok-other.ensures.1 in
    (last.0 ∙ ap (λ others. Ok (others, input c.other.new.self)) (sym c.in_ok-push.ensures.items), last.1)

pub others-loop-precedence-preserved : goal.others-loop-precedence-preserved
others-loop-precedence-preserved t c = record {
  so_far =
      rw c.in_ok-push.ensures.items
      (goes_on c.loop-precedence.invariant.so_far (cc) (cc) _ _ c.in_ok-other.ensures.0 c.in_ok-other.ensures.1);
  same = refl;
  ranked = refl;
}

pub others-returns : goal.others-returns
others-returns t c = (
  stopped c.loop-precedence.invariant.so_far (cc),
  c.loop-precedence.invariant.so_far.keeps,
)

-- ---- the items of a list

pub items-returns-in_err-item : goal.items-returns-in_err-item
items-returns-in_err-item t c =
    answered (λ items. items.items)
    (λ all names. items_from (expr_in all c.args.levels) names c.args.first) c.args.self.now c.next.new.self _ _
    c.from_residual-in_err-item.ensures.1
    (λ memory. failed c.loop-self.invariant.so_far (cc) _ (c.in_err-item.ensures memory))

pub items-loop-self-preserved : goal.items-loop-self-preserved
items-loop-self-preserved t c = record {
  so_far =
      rw c.in_ok-push-2.ensures.items
      (goes_on c.loop-self.invariant.so_far refl (cc) _ _ c.in_ok-item.ensures.0 c.in_ok-item.ensures.1);
  same = refl;
}

pub items-returns : goal.items-returns
items-returns t c =
    (stopped c.loop-self.invariant.so_far (cc), c.loop-self.invariant.so_far.keeps)
