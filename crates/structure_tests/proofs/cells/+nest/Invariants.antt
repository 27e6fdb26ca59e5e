use Rattle.structure_tests.proofs.cells.+nest.Given as goal

abbrev pub decreases-nest : goal.decreases-nest
decreases-nest l = l.depth
