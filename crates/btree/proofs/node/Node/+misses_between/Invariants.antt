use Rattle.btree.proofs.node.Node.+misses_between.Given as goal

abbrev pub decreases-misses_between : goal.decreases-misses_between
decreases-misses_between g l = goal.size-misses_between g l
