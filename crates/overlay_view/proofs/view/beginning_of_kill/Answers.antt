use Rattle.std.proofs.Common.{◌≡◌, true, false, sym, ◌∙◌}
use Rattle.overlay_view.proofs.view.beginning_of_kill.Goals as goal

pub returns-in-Some : goal.returns-in-Some
returns-in-Some c = λ h. record { root = c.in-Some.killed.now; extent = c.in-Some.extent; kills = c.in-Some.ensures; stands = c.taken_from.ensures }

pub returns-in-None : goal.returns-in-None
returns-in-None c = λ h.
    let no : true ≡ false = sym h ∙ c.in-None.ensures in
    absurd (cc)
