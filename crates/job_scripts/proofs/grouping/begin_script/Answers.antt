use Rattle.std.proofs.Common.{map, refl, ◌∙◌}
use Rattle.job_scripts.specs.Groups.{numbers_in, shown}
use Rattle.job_scripts.proofs.Placing.{group_begun, is_new, place_begun, places_begun}
use Rattle.job_scripts.proofs.grouping.begin_script.Goals as goal

pub returns-clause-places : goal.returns-clause-places
returns-clause-places c =
    places_begun c.args.groups.now.places.items _ c.args.groups.now.scripts.items c.push.new.self.items _ c.args.number c.len-place.result c.requires.places c.requires.few c.requires.none (c.len-place.ensures ∙ c.args.groups.now.scripts.ok.0) refl c.in_ok-push.ensures.items c.requires.number

pub returns-clause-scripts : goal.returns-clause-scripts
returns-clause-scripts c =
    (let none = is_new c.args.groups.now.places.items (numbers_in (map shown c.args.groups.now.scripts.items)) c.args.number c.requires.places c.requires.few c.requires.none in
    group_begun c.args.groups.now.scripts.items c.push.new.self.items _ c.args.number none c.in_ok-push.ensures.items c.requires.job c.new.ensures.items)

pub returns-clause-place : goal.returns-clause-place
returns-clause-place c =
    (let none = is_new c.args.groups.now.places.items (numbers_in (map shown c.args.groups.now.scripts.items)) c.args.number c.requires.places c.requires.few c.requires.none in
    place_begun c.args.groups.now.scripts.items c.push.new.self.items _ c.args.number c.len-place.result none (c.len-place.ensures ∙ c.args.groups.now.scripts.ok.0) c.in_ok-push.ensures.items c.requires.number)
