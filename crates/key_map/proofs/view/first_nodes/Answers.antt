use Rattle.std.proofs.Common.{◌≡◌, false, sym, ◌∙◌, true}
use Rattle.globals.specs.Cuts.{front_to, stands_within}
use Rattle.globals.specs.laws.Ends.{front_goes, front_stops}
use Rattle.globals.specs.laws.Runs.{one_gathered, run_of_most, run_of_all}
use Rattle.std.proofs.Common.{arith}
use Rattle.key_map.proofs.view.first_nodes.Goals as goal

pub returns-then-not-stands_within : goal.returns-then-not-stands_within
returns-then-not-stands_within c =
    let out : stands_within c.args.end c.in-Some.key.now ≡ false = sym c.stands_within.ensures ∙ c.if-not-stands_within.true in
    run_of_all c.args.most (front_to c.args.end c.args.walk) c.loop-key.run (front_to c.args.end c.loop-key.key-iterator) c.loop-key.invariant.all
    (front_stops c.args.end c.loop-key.key-iterator c.next.new.self (c.in-Some.key.now, c.in-Some.value.now) c.in-Some.ensures.steps out)
    (let few = c.loop-key.invariant.few in omega (arith, few))

pub returns-then-len-most : goal.returns-then-len-most
returns-then-len-most c =
    let in_it : stands_within c.args.end c.in-Some.key.now ≡ true = sym c.stands_within.ensures ∙ c.if-not-stands_within.false in
    let first = front_goes c.args.end c.loop-key.key-iterator c.next.new.self (c.in-Some.key.now, c.in-Some.value.now) c.in-Some.ensures.steps in_it in
    let more = one_gathered (front_to c.args.end c.args.walk) c.loop-key.run c.push.new.self (front_to c.args.end c.loop-key.key-iterator) (front_to c.args.end c.next.new.self) (c.in-Some.key.now, c.in-Some.value.now) c.loop-key.invariant.all first c.push.ensures in
    run_of_most c.args.most c.len.result (front_to c.args.end c.args.walk) c.push.new.self (front_to c.args.end c.next.new.self) c.requires.some more c.len.ensures.length c.if-len-most.true
