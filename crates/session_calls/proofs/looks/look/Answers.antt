use Rattle.std.specs.Prelude.{Ok}
use Rattle.std.proofs.Common.{refl}
use Rattle.session_calls.proofs.Looked.{looked}
use Rattle.session_calls.proofs.looks.look.Goals as goal

pub returns-in-Ok-Ok : goal.returns-in-Ok-Ok
returns-in-Ok-Ok c =
    looked c.args.at_start _ _ c.args.seat.now c.seen.new.seat c.in-Ok-Ok.field-0 c.in-Ok-Ok.share c.copy_in.result c.in-Ok-Ok.field-0-is c.in-Ok-Ok.ensures.seen c.copy_in.ensures

pub returns-in-Some : goal.returns-in-Some
returns-in-Some c = looked c.args.at_start _ _ c.args.seat.now c.args.seat.now (Ok c.in-Some.view) c.in-Some.view c.copy_value.result refl c.in-Some.ensures c.copy_value.ensures
