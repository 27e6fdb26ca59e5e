use Rattle.script_run.specs.laws.Lines.{cut_at_ends}
use Rattle.script_run.proofs.laws.lines_are_cut_at_their_ends.Goals as goal

pub returns : goal.returns
returns c = cut_at_ends
