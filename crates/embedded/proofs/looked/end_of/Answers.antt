use Rattle.std.proofs.Common.{ap}
use Rattle.std.specs.Option.{option_map}
use Rattle.embedded.proofs.Walked.{past_all}
use Rattle.embedded.proofs.looked.end_of.Goals as goal

pub returns-in-Some : goal.returns-in-Some
returns-in-Some c = λ x h. past_all _ _ _ x (ap (option_map (λ b. b.value)) c.in-Some.is) c.deref.ensures h
