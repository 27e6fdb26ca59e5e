use Rattle.btree.proofs.node.Node.+take_alone.Given as goal

abbrev pub decreases-take_alone : goal.decreases-take_alone
decreases-take_alone g l = goal.size-take_alone g l
