use Rattle.ag_eval.proofs.Common.{◌≡◌, drop, list_all, is_text}
use Rattle.ag_eval.proofs.builtins.texts.are_texts.Given as goal

abbrev pub invariant-loop-item : goal.invariant-loop-item
invariant-loop-item l = list_all is_text (drop l.item-index l.items) ≡ list_all is_text l.items
