use Rattle.passassign.proofs.Common.{◌≡◌, ◌↔◌, IsTrue, false, Strike}
use Rattle.passassign.proofs.slots.Lists.{whole_prefix, prefix_more}
use Rattle.passassign.proofs.strikes.Following.{strikes_has}
use Rattle.passassign.proofs.chain.index_of.Goals as goal
use Rattle.passassign.proofs.strikes.Walked.{none}

is_no : {Q : Type 0} → (IsTrue false ↔ Q) → Q → ⊥
is_no h q = cc (h.1 q)

pub loop-index-preserved : goal.loop-index-preserved
loop-index-preserved c =
    prefix_more (λ k (x : Strike). (x.symbol ≡ c.args.symbol) × (x.attr ≡ c.args.attr) → ⊥) c.args.strikes.now c.loop-index.index
    none c.loop-index-test.true c.loop-index.invariant (is_no c.if-is_strike_of.ensures)

pub returns-clause-none : goal.returns-clause-none
returns-clause-none c = λ same h.
    let w = strikes_has c.args.strikes.now c.args.symbol c.args.attr h in
    whole_prefix (λ k (x : Strike). (x.symbol ≡ c.args.symbol) × (x.attr ≡ c.args.attr) → ⊥) c.args.strikes.now c.loop-index.index
    c.loop-index-test.false c.loop-index.invariant w.1.0 w.0 w.1.1 (w.2, w.3)
