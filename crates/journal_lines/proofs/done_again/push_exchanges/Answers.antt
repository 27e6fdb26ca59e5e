use Rattle.command.specs.declared.request.Command.TheVariants.{Access}
use Rattle.journal_lines.proofs.Gathered.{all_one_lines}
use Rattle.journal_lines.proofs.done_again.push_exchanges.Goals as goal

pub returns : goal.returns
returns c = all_one_lines (λ e. (c.args.job, Access e.command)) _ _ c.args.exchanges.now c.exchanges.exchange-index c.exchanges-test.false c.exchanges.invariant
