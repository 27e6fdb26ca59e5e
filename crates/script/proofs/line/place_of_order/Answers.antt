use Rattle.std.proofs.Common.{sym, subst, Err}
use Rattle.command.specs.declared.access.DataCommand.TheVariants.{Look}
use Rattle.command.specs.declared.access.Look.TheVariants.{Order}
use Rattle.m_text.specs.Place.{spot_of}
use Rattle.script.specs.Line.{IsReading}
use Rattle.script.specs.declared.line.LineFault.{LineFault}
use Rattle.script.proofs.Asked.{of_order, data_read, data_faulty}
use Rattle.script.proofs.line.place_of_order.Goals as goal

pub returns-in-Ok-clause-place : goal.returns-in-Ok-clause-place
returns-in-Ok-clause-place c = λ line asked.
    let p = of_order line c.args.drafts.now c.args.job c.args.direction asked in
    data_read line c.args.job (Look (Order (spot_of p.0) c.args.direction)) (Look (Order c.in-Ok.place c.args.direction)) p.2 (c.in-Ok.ensures p.0 p.1)

pub returns-in-Err-clause-place : goal.returns-in-Err-clause-place
returns-in-Err-clause-place c = λ line asked.
    let p = of_order line c.args.drafts.now c.args.job c.args.direction asked in
    subst (λ (fault : LineFault). IsReading line (Err fault)) (sym c.refuse.ensures.fault)
    (data_faulty line c.args.job (Look (Order (spot_of p.0) c.args.direction)) c.in-Err.refusal p.2 (c.in-Err.ensures p.0 p.1), sym p.2.owner)

pub order_place-requires : goal.order_place-requires
order_place-requires c =
    let said = c.requires.spelled in
    record { reference = said.2.reference; draft = said.2.drafted }
