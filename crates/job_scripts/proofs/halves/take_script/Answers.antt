use Rattle.std.proofs.Common.{◌≡◌, ◌-◌, ◌∙◌, get_or, map, refl, rules}
use Rattle.job_scripts.specs.Groups.{numbers_in, shown}
use Rattle.job_scripts.specs.Lines.{lent_lines}
use Rattle.job_scripts.specs.SoFar.{IsPlaceOf}
use Rattle.job_scripts.proofs.OneMore.{then_ok}
use Rattle.job_scripts.proofs.Placing.{is_known, is_new, places_begun, places_stay, within_scripts}
use Rattle.job_scripts.proofs.Joining.{script_known, script_new}
use Rattle.job_scripts.proofs.halves.take_script.Goals as goal

pub append_at-requires : goal.append_at-requires
append_at-requires c =
    (let scripts = c.args.groups.now.scripts.items in
    let number = c.number_of-number.result in
    let known : IsPlaceOf number (numbers_in (map shown scripts)) (c.index-place.result.now - 1) = is_known c.args.groups.now.places.items (numbers_in (map shown scripts)) number c.index-place.result.now c.requires c.number_of-number.ensures.few (search rules) (search rules) in
    within_scripts scripts number (c.index-place.result.now - 1) known)

pub returns-in_ok-push-clause-places : goal.returns-in_ok-push-clause-places
returns-in_ok-push-clause-places c =
    (let none : get_or c.args.groups.now.places.items c.number_of-number.result 0 ≡ 0 = search rules in
    places_begun c.args.groups.now.places.items _ c.args.groups.now.scripts.items c.push.new.self.items c.args.script c.number_of-number.result c.len-behind.result c.requires c.number_of-number.ensures.few none (c.len-behind.ensures ∙ c.args.groups.now.scripts.ok.0) refl c.in_ok-push.ensures.items
    c.number_of-number.ensures.value)

pub returns-in_ok-push-clause-scripts : goal.returns-in_ok-push-clause-scripts
returns-in_ok-push-clause-scripts c =
    (let scripts = c.args.groups.now.scripts.items in
    let number = c.number_of-number.result in
    let none : get_or c.args.groups.now.places.items number 0 ≡ 0 = search rules in
    script_new scripts c.push.new.self.items c.args.script number c.number_of-number.ensures.value (is_new c.args.groups.now.places.items (numbers_in (map shown scripts)) number c.requires c.number_of-number.ensures.few none) c.in_ok-push.ensures.items)

pub returns-else-place-eq0-clause-places : goal.returns-else-place-eq0-clause-places
returns-else-place-eq0-clause-places c =
    then_ok c.append_at.result c.append_at.ensures
    (λ e. places_stay c.args.groups.now.places.items (c.index-place.result.now - 1) (lent_lines c.args.script.lines.items) c.args.groups.now.scripts.items c.append_at.new.scripts.items e c.requires)

pub returns-else-place-eq0-clause-scripts : goal.returns-else-place-eq0-clause-scripts
returns-else-place-eq0-clause-scripts c =
    (let scripts = c.args.groups.now.scripts.items in
    let number = c.number_of-number.result in
    let known : IsPlaceOf number (numbers_in (map shown scripts)) (c.index-place.result.now - 1) = is_known c.args.groups.now.places.items (numbers_in (map shown scripts)) number c.index-place.result.now c.requires c.number_of-number.ensures.few (search rules) (search rules) in
    then_ok c.append_at.result c.append_at.ensures (λ e. script_known scripts c.args.script number (c.index-place.result.now - 1) (map shown c.append_at.new.scripts.items) c.number_of-number.ensures.value known e))
