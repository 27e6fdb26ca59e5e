use Rattle.std.proofs.Common.{◌≡◌, Option, Result, Ok, Err, ap, ◌∙◌}
use Rattle.refusal.specs.declared.Refusal.{Refusal}
use Rattle.collation.specs.Reference.{Reference, Spot}
use Rattle.collation.specs.declared.direction.Direction.{Direction}
use Rattle.command.specs.declared.access.DataCommand.{DataCommand}
use Rattle.command.specs.declared.access.DataCommand.TheVariants.{Look}
use Rattle.command.specs.declared.access.Look.TheVariants.{Order}
use Rattle.m_text.specs.Reading.{Answers}
use Rattle.m_text.specs.Place.{spot_fault, spot_of, unless}
use Rattle.m_text.specs.laws.Faults.{place_answers, unless_ok}
use Rattle.script.proofs.Due.{due_other}
use Rattle.script.proofs.finish.order_place.Goals as goal

-- what a place is answered, its $ORDER is
of_place : (direction : Direction) (r : Reference) (result : Result Spot Refusal) → Answers (λ (p : Spot). p) result (unless (spot_fault (spot_of r)) (spot_of r))
    → Answers (λ (p : Spot). Look (Order p direction)) result (unless {A = DataCommand} (spot_fault (spot_of r)) (Look (Order (spot_of r) direction)))
of_place direction r (Ok place) told =
    let good = unless_ok (spot_fault (spot_of r)) (spot_of r) place told in
    ap (λ (f : Option Refusal). unless {A = DataCommand} f (Look (Order (spot_of r) direction))) good.0 ∙ ap (λ (p : Spot). Ok (Look (Order p direction))) good.1
of_place direction r (Err refusal) told = due_other refusal (spot_fault (spot_of r)) (spot_of r) (Look (Order (spot_of r) direction)) told

pub returns : goal.returns
returns c = λ r is. of_place c.args.direction r c.place.result (place_answers r c.place.result (c.place.ensures.ok r is) (c.place.ensures.err r is))
