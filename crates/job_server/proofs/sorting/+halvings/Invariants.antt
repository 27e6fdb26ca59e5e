use Rattle.std.proofs.Common.{◌+◌, ◌*◌}
use Rattle.job_server.proofs.sorting.+halvings.Given as goal

abbrev pub decreases-scripts_by_halves : goal.decreases-scripts_by_halves
decreases-scripts_by_halves g l = 2 * l.halvings

abbrev pub decreases-sort_front : goal.decreases-sort_front
decreases-sort_front g l = 2 * l.fewer + 1

abbrev pub decreases-sort_back : goal.decreases-sort_back
decreases-sort_back g l = 2 * l.fewer + 1
