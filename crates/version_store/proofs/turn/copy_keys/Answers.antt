use Rattle.std.proofs.Common.{◌≡◌, [], ◌∷◌, ◌++◌, ap, rules, arith}
use Rattle.version_store.specs.Versions.{keys_of}
use Rattle.version_store.proofs.TurnLemmas.{turn_step}
use Rattle.version_store.proofs.turn.copy_keys.Goals as goal

pub loop-key-preserved : goal.loop-key-preserved
loop-key-preserved c =
    let steps : c.loop-key.key-iterator ≡ (c.in-Some.key.now, c.in-Some.field-0-1.now) ∷ c.next.new.self = search rules in
    let pushed : c.push.new.self.items ≡ c.loop-key.keys.items ++ c.in-Some.key.now ∷ [] = search rules in
    record {
      can_next = tt;
      is_finite = tt;
      same = turn_step c.loop-key.keys.items c.push.new.self.items (keys_of c.loop-key.key-iterator) (keys_of c.next.new.self) _ c.args.limit c.in-Some.key.now pushed (ap keys_of steps) (search (rules, arith)) c.loop-key.invariant.same;
    }
