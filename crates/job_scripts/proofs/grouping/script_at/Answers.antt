use Rattle.std.proofs.Common.{◌∙◌, ◌-◌, ℕ, ap, map, rules, subst, unwrap_or}
use Rattle.job_scripts.specs.Groups.{numbers_in, shown}
use Rattle.job_scripts.specs.SoFar.{HaveGroup}
use Rattle.job_scripts.proofs.Placing.{group_known, is_known}
use Rattle.job_scripts.proofs.grouping.script_at.Goals as goal

pub returns-else-place-eq0-clause-scripts : goal.returns-else-place-eq0-clause-scripts
returns-else-place-eq0-clause-scripts c =
    (let scripts = c.args.groups.now.scripts.items in
    let number = c.number_of-number.result in
    let known = is_known c.args.groups.now.places.items (numbers_in (map shown scripts)) number c.index-place.result.now c.requires c.number_of-number.ensures.few (search rules) (search rules) in
    subst (λ (n : ℕ). HaveGroup n (map shown scripts) (map shown scripts)) (c.number_of-number.ensures.value ∙ ap (λ j. unwrap_or j 0) c.job_of_line-job.ensures)
    (group_known scripts number (c.index-place.result.now - 1) known))
