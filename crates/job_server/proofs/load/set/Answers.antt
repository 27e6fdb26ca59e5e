use Rattle.std.proofs.Common.{List, subst}
use Rattle.command.specs.declared.access.DataCommand.TheVariants.{Set}
use Rattle.journal.specs.declared.unit.Unit.{Unit as JournalUnit}
use Rattle.pin_board.specs.Slips.{IsBeginning}
use Rattle.shared_engine.specs.Blocks.{IsLone}
use Rattle.job_server.proofs.Loads.{set_by_lone}
use Rattle.job_server.proofs.load.set.Goals as goal

pub returns-in-Ok-Done-clause-done : goal.returns-in-Ok-Done-clause-done
returns-in-Ok-Done-clause-done g c =
    let old = c.args.session.now in
    let new = c.lone.new.session in
    let told = subst (λ r. (units : List JournalUnit) × IsBeginning units old.seen × IsLone (Set c.args.key c.args.value) r units new.seen old new) c.in-Ok-Done.is c.lone.ensures.done in
    λ earlier set. set_by_lone c.args.key c.args.value _ old new told told.2.0.0 earlier set
