use Rattle.std.proofs.Common.{◌≡◌, sym, subst, Result, Ok, Err, None}
use Rattle.command.specs.declared.access.DataCommand.TheVariants.{Set, Look}
use Rattle.command.specs.declared.access.Look.TheVariants.{Get}
use Rattle.script.specs.Line.{IsReading}
use Rattle.script.specs.declared.line.LineFault.{LineFault}
use Rattle.script.proofs.Asked.{of_get, data_read, data_faulty}
use Rattle.script.proofs.line.key_of_get.Goals as goal

pub returns-in-Ok-clause-key : goal.returns-in-Ok-clause-key
returns-in-Ok-clause-key c = λ line asked.
    let p = of_get line c.args.drafts.now c.args.job asked in
    data_read line c.args.job (Look (Get p.0 None)) (Look (Get c.in-Ok.key None)) p.2 (c.in-Ok.ensures p.0 p.1)

pub returns-in-Err-clause-key : goal.returns-in-Err-clause-key
returns-in-Err-clause-key c = λ line asked.
    let p = of_get line c.args.drafts.now c.args.job asked in
    subst (λ (fault : LineFault). IsReading line (Err fault)) (sym c.refuse.ensures.fault)
    (data_faulty line c.args.job (Look (Get p.0 None)) c.in-Err.refusal p.2 (c.in-Err.ensures p.0 p.1), sym p.2.owner)

pub get_key-requires : goal.get_key-requires
get_key-requires c =
    let said = c.requires.spelled in
    record { reference = said.2.reference; draft = said.2.drafted }
