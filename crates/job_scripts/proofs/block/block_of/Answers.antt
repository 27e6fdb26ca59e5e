use Rattle.std.proofs.Common.{◌≢◌, ◌++◌, ◌∷◌, [], ◌∙◌, sym, ap, arith, rules}
use Rattle.std.proofs.lemmas.List.Elements.{All-push, All-same}
use Rattle.command.specs.declared.request.Command.{Command}
use Rattle.command.specs.declared.request.Command.TheVariants.{Halt}
use Rattle.job_scripts.specs.Blocks.{level_after, level_behind}
use Rattle.job_scripts.specs.Lines.{lent_lines}
use Rattle.job_scripts.proofs.Blocks.{level_more, one_more, one_same}
use Rattle.job_scripts.proofs.block.block_of.Goals as goal

pub loop-level-preserved-in-Continue-1 : goal.loop-level-preserved-in-Continue-1
loop-level-preserved-in-Continue-1 c =
    let before = c.loop-level.invariant in
    let items = c.in_ok-add-in-Ok.ensures.commands in record {
      few = search rules;
      goes_on = All-same (λ (d : Command). d ≢ Halt) _ _ items (All-push (λ (d : Command). d ≢ Halt) _ c.in-Ok.command before.goes_on (search rules));
      level = c.level_after-level.ensures.left ∙ ap (level_after c.in-Ok.command) before.level ∙ sym (level_more 1 c.loop-level.block.commands.items c.in-Ok.command) ∙ sym (ap (level_behind 1) items);
      one = one_same 1 _ (c.loop-level.block.commands.items ++ c.in-Ok.command ∷ []) items (one_more 1 c.loop-level.block.commands.items c.in-Ok.command (omega (arith, before.level, c.loop-level-test.true)) before.one);
      rest = search rules;
      asked = c.in_ok-add-in-Ok.ensures.asked c.args.job (lent_lines c.args.lines.now) before.asked c.in-Some.ensures.first c.in-Ok.ensures;
    }
