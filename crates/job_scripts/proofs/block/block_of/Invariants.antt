use Rattle.std.proofs.Common.{◌≡◌, ◌≢◌, ◌≤◌, length}
use Rattle.std.specs.List.{All}
use Rattle.collation.specs.Limits.{most_levels}
use Rattle.command.specs.declared.request.Command.{Command}
use Rattle.command.specs.declared.request.Command.TheVariants.{Halt}
use Rattle.job_scripts.specs.Blocks.{level_behind, IsOneBlock, AreInFront}
use Rattle.job_scripts.specs.Lines.{lent_lines}
use Rattle.job_scripts.proofs.block.block_of.Given as goal

-- none is HALT, only the last may leave no transaction open, and fewer lines are left
abbrev pub invariant-loop-level : goal.invariant-loop-level
invariant-loop-level l = record {
  few : l.level ≤ most_levels;
  goes_on : All (λ (c : Command). c ≢ Halt) l.block.commands.items;
  level : l.level ≡ level_behind 1 l.block.commands.items;
  one : IsOneBlock 1 l.block.commands.items;
  rest : length l.block.rest.now ≤ length l.fn.lines;
  asked : AreInFront l.fn.job (lent_lines l.fn.lines) (lent_lines l.block.rest.now) l.block.places.items l.block.commands.items l.block.musts.items;
}

abbrev pub decreases-loop-level : goal.decreases-loop-level
decreases-loop-level l = length l.block.rest.now
