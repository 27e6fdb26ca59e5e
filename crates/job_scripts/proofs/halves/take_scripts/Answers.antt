use Rattle.std.proofs.Common.{◌≡◌, ◌∷◌, arith, length, rules}
use Rattle.std.specs.Vec.Iter.{into_iter_items}
use Rattle.job_scripts.proofs.Joining.{all_taken, taken_on}
use Rattle.job_scripts.proofs.halves.take_scripts.Goals as goal

pub loop-script-preserved : goal.loop-script-preserved
loop-script-preserved c =
    (let steps : into_iter_items c.loop-script.script-iterator ≡ c.in-Some.script ∷ into_iter_items c.next.new.self = search rules in
    record {
      places = c.in_ok-take_script.ensures.places;
      taken = taken_on (into_iter_items c.loop-script.script-iterator) (into_iter_items c.next.new.self) c.loop-script.groups.scripts.items c.take_script.new.groups.scripts.items c.in-Some.script _ steps c.in_ok-take_script.ensures.scripts c.loop-script.invariant.taken;
    })

pub returns-clause-scripts : goal.returns-clause-scripts
returns-clause-scripts c =
    (let none : length (into_iter_items c.loop-script.script-iterator) ≡ 0 = search (rules, arith) in
    all_taken (into_iter_items c.loop-script.script-iterator) c.loop-script.groups.scripts.items _ none c.loop-script.invariant.taken)
