use Rattle.std.proofs.Common.{sym, subst}
use Rattle.command.specs.declared.access.DataCommand.{DataCommand}
use Rattle.command.specs.declared.access.DataCommand.TheVariants.{Set, Kill, Merge, Increment, Look}
use Rattle.command.specs.declared.request.Command.TheVariants.{Access}
use Rattle.command.specs.declared.request.Reply.TheVariants.{Answered}
use Rattle.shared_engine.specs.Blocks.{said}
use Rattle.job_server.specs.Steps.{WasDoneBy}
use Rattle.job_server.proofs.Stepped.{written_stepped, read_stepped}
use Rattle.job_server.proofs.job_run.Calls.access_inside.Goals as goal

pub returns-in-Set : goal.returns-in-Set
returns-in-Set g c =
    subst (λ (d : DataCommand). WasDoneBy (Access d) (said Answered c.written.result) c.args.session.now c.set.new.self) (sym c.in-Set.is)
    (written_stepped (Set c.in-Set.key c.in-Set.value) c.set.result c.written.result c.args.session.now c.set.new.self tt c.requires c.set.ensures.begun c.set.ensures.written c.set.ensures.same c.set.ensures.others c.set.ensures.refused c.set.ensures.cause c.written.ensures)

pub returns-in-Kill : goal.returns-in-Kill
returns-in-Kill g c =
    subst (λ (d : DataCommand). WasDoneBy (Access d) (said Answered c.written-in-Kill.result) c.args.session.now c.kill.new.self) (sym c.in-Kill.is)
    (written_stepped (Kill c.in-Kill.key c.in-Kill.extent) c.kill.result c.written-in-Kill.result c.args.session.now c.kill.new.self tt c.requires c.kill.ensures.begun c.kill.ensures.written c.kill.ensures.same c.kill.ensures.others c.kill.ensures.refused c.kill.ensures.cause c.written-in-Kill.ensures)

pub returns-in-Merge : goal.returns-in-Merge
returns-in-Merge g c =
    subst (λ (d : DataCommand). WasDoneBy (Access d) (said Answered c.read.result) c.args.session.now c.read.new.session) (sym c.in-Merge.is)
    (read_stepped (Merge c.in-Merge.to c.in-Merge.from) c.read.result c.args.session.now c.read.new.session c.requires c.read.ensures.journal c.read.ensures.answered c.read.ensures.open c.read.ensures.same c.read.ensures.others)

pub returns-in-Increment : goal.returns-in-Increment
returns-in-Increment g c =
    subst (λ (d : DataCommand). WasDoneBy (Access d) (said Answered c.read-in-Increment.result) c.args.session.now c.read-in-Increment.new.session) (sym c.in-Increment.is)
    (read_stepped (Increment c.in-Increment.key c.in-Increment.number) c.read-in-Increment.result c.args.session.now c.read-in-Increment.new.session c.requires c.read-in-Increment.ensures.journal c.read-in-Increment.ensures.answered c.read-in-Increment.ensures.open c.read-in-Increment.ensures.same c.read-in-Increment.ensures.others)

pub returns-in-Look : goal.returns-in-Look
returns-in-Look g c =
    subst (λ (d : DataCommand). WasDoneBy (Access d) (said Answered c.read-in-Look.result) c.args.session.now c.read-in-Look.new.session) (sym c.in-Look.is)
    (read_stepped (Look c.in-Look.look) c.read-in-Look.result c.args.session.now c.read-in-Look.new.session c.requires c.read-in-Look.ensures.journal c.read-in-Look.ensures.answered c.read-in-Look.ensures.open c.read-in-Look.ensures.same c.read-in-Look.ensures.others)
