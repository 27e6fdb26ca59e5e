use Rattle.btree.proofs.node.Node.+replace.Given as goal

abbrev pub decreases-replace : goal.decreases-replace
decreases-replace g l = goal.size-replace g l
