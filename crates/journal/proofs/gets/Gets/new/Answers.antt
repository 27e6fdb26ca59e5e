use Rattle.std.proofs.Common.{[], ap}
use Rattle.std.specs.List.{All}
use Rattle.std.proofs.lemmas.List.Elements.{All-nil}
use Rattle.journal.proofs.Logs.{stands_empty, none_in}
use Rattle.journal.specs.Gathered.{IsGetOf}
use Rattle.journal.proofs.Gathering.{none_gathered}
use Rattle.journal.proofs.gets.Gets.new.Goals as goal

pub invariant_of-result : goal.invariant_of-result
invariant_of-result c = (stands_empty c.new.result.items c.new.ensures.items, none_gathered c.args.job c.new.result.items)

pub returns : goal.returns
returns c = ap (λ us. record { job = c.args.job; units = us }) (none_in c.new.result.items)
