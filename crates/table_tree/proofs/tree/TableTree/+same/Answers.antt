use Rattle.std.proofs.Common.{arith, refl}
use Rattle.table_tree.proofs.Compared.{split_same}
use Rattle.table_tree.proofs.tree.TableTree.+same.Goals as goal

pub returns-then-not-same : goal.returns-then-not-same
returns-then-not-same t c = (
  λ b. cc,
  λ e.
      let parts = split_same c.in-Some-Some.ensures c.in-Some-Some.ensures' (omega arith) e in c.if-not-same.ensures.1 (cc),
)

pub returns-then-not-same-2 : goal.returns-then-not-same-2
returns-then-not-same-2 t c = (
  λ b. cc,
  λ e.
      let parts = split_same c.in-Some-Some.ensures c.in-Some-Some.ensures' (omega arith) e in
      c.if-not-same-2.ensures.1 parts.before,
)

pub returns : goal.returns
returns t c = (
  λ b.
      cc (
        c.in-Some-Some.ensures.parts,
        c.in-Some-Some.ensures'.parts,
        c.if-not-same-2.ensures.0 refl,
        c.if-not-same.ensures.0 refl,
        c.same-3.ensures.0 b,
      ),
  λ e.
      let parts = split_same c.in-Some-Some.ensures c.in-Some-Some.ensures' (omega arith) e in
      c.same-3.ensures.1 parts.after,
)
