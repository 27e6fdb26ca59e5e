use Rattle.std.proofs.Common.{[], ◌∷◌}
use Rattle.job_scripts.specs.Groups.{group_of}
use Rattle.job_scripts.proofs.OneMore.{then_ok}
use Rattle.job_scripts.proofs.Placing.{line_grouped, places_stay, within_scripts}
use Rattle.job_scripts.proofs.grouping.add_line.Goals as goal

pub push_at-requires : goal.push_at-requires
push_at-requires c = within_scripts c.script_at.new.groups.scripts.items (group_of c.args.line.now) c.in_ok-place.place c.in_ok-place.ensures.place

pub returns-clause-places : goal.returns-clause-places
returns-clause-places c =
    then_ok c.push_at.result c.push_at.ensures
    (λ e. places_stay c.script_at.new.groups.places.items c.in_ok-place.place (c.args.line.now ∷ []) c.script_at.new.groups.scripts.items c.push_at.new.scripts.items e c.in_ok-place.ensures.places)

pub returns-clause-scripts : goal.returns-clause-scripts
returns-clause-scripts c =
    then_ok c.push_at.result c.push_at.ensures
    (λ e all rest s.
    line_grouped c.args.line.now c.in_ok-place.place c.args.groups.now.scripts.items c.script_at.new.groups.scripts.items c.push_at.new.scripts.items all rest c.in_ok-place.ensures.place c.in_ok-place.ensures.scripts e s)
