use Rattle.btree.proofs.node.Node.+put_between.Given as goal

abbrev pub decreases-put_between : goal.decreases-put_between
decreases-put_between g l = goal.size-put_between g l
