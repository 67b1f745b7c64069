use Rattle.passassign.proofs.Common
use Common.{◌≡◌, ◌+◌, ◌*◌, ◌≤◌, ◌⊎◌, length, true, Grammar, AreStrikesSoFar, IsLastInUse, IsProgress, IsAcceptedWith, open_count}
use Common.{max_passes, AreReady, table_passes}
use Rattle.passassign.proofs.assigning.assign_all.Given as goal

abbrev pub invariant-loop-open_now : goal.invariant-loop-open_now
invariant-loop-open_now l = record {
  ready : AreReady l.dependencies (length l.progress.states.items);
  len : length l.progress.states.items ≤ 4096;
  count : l.open_now ≡ open_count l.progress.states.items;
  next : l.progress.next + 2 * l.open_now ≤ max_passes + 1;
  made : (g : Grammar) → IsAcceptedWith l.symbols l.productions g → IsProgress g l.dependencies.all.items l.progress;
  last : (g : Grammar) → IsAcceptedWith l.symbols l.productions g
      → (l.progress.next ≡ 1) ⊎ IsLastInUse l.progress.next (table_passes l.progress.states.items);
  wanted : l.kept.is_wanted ≡ l.wants_strikes;
  kept : (g : Grammar) → IsAcceptedWith l.symbols l.productions g → l.kept.is_wanted ≡ true
      → AreStrikesSoFar g l.progress.next (table_passes l.progress.states.items) l.kept.lists.items;
}

abbrev pub decreases-loop-open_now : goal.decreases-loop-open_now
decreases-loop-open_now l = l.open_now
