use Rattle.std.proofs.Common.{◌≡◌, ◌++◌, take}
use Rattle.std.specs.List.{flat_map}
use Rattle.command.specs.declared.request.Command.TheVariants.{Access}
use Rattle.journal_lines.specs.Journals.{step_line}
use Rattle.journal_lines.proofs.done_again.push_exchanges.Given as goal

-- the lines of the commands so far
abbrev pub invariant-exchanges : goal.invariant-exchanges
invariant-exchanges l = l.out.items ≡ l.fn.out.items ++ flat_map (λ e. step_line (l.job, Access e.command)) (take l.exchange-index l.exchanges)
