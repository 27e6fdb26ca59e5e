use Rattle.btree.proofs.node.Node.+take_stretch.Given as goal

abbrev pub decreases-take_stretch : goal.decreases-take_stretch
decreases-take_stretch g l = goal.size-take_stretch g l
