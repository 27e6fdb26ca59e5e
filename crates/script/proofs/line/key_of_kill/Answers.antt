use Rattle.std.proofs.Common.{sym, subst, Err}
use Rattle.command.specs.declared.access.DataCommand.TheVariants.{Kill}
use Rattle.script.specs.Line.{IsReading}
use Rattle.script.specs.declared.line.LineFault.{LineFault}
use Rattle.script.proofs.Asked.{of_kill, data_read, data_faulty}
use Rattle.script.proofs.line.key_of_kill.Goals as goal

pub returns-in-Ok-clause-key : goal.returns-in-Ok-clause-key
returns-in-Ok-clause-key c = λ line asked.
    let p = of_kill line c.args.drafts.now c.args.job c.args.extent asked in
    data_read line c.args.job (Kill p.0 c.args.extent) (Kill c.in-Ok.key c.args.extent) p.2 (c.in-Ok.ensures c.args.extent p.0 p.1)

pub returns-in-Err-clause-key : goal.returns-in-Err-clause-key
returns-in-Err-clause-key c = λ line asked.
    let p = of_kill line c.args.drafts.now c.args.job c.args.extent asked in
    subst (λ (fault : LineFault). IsReading line (Err fault)) (sym c.refuse.ensures.fault)
    (data_faulty line c.args.job (Kill p.0 c.args.extent) c.in-Err.refusal p.2 (c.in-Err.ensures c.args.extent p.0 p.1), sym p.2.owner)

pub kill_key-requires : goal.kill_key-requires
kill_key-requires c =
    let said = c.requires.spelled in
    record { reference = said.2.reference; draft = said.2.drafted }
