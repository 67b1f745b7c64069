use Rattle.list_tree.proofs.items.ItemTree.+take_last.Given as goal

abbrev pub decreases-take_last : goal.decreases-take_last
decreases-take_last l = l.count
