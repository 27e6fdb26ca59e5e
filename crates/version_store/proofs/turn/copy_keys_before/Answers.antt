use Rattle.std.proofs.Common.{◌≡◌, [], ◌∷◌, ◌++◌, sym, ◌∙◌, rules, arith}
use Rattle.std.specs.Prelude.{filter}
use Rattle.globals.specs.Cuts.{stands_before}
use Rattle.version_store.specs.Versions.{keys_of}
use Rattle.version_store.proofs.RangeLemmas.{sorted_rest}
use Rattle.version_store.proofs.TurnLemmas.{turn_step, turn_past, first_before}
use Rattle.version_store.proofs.turn.copy_keys_before.Goals as goal

pub returns-then-not-stands_before : goal.returns-then-not-stands_before
returns-then-not-stands_before c =
    let steps : c.loop-key.key-iterator ≡ (c.in-Some.key.now, c.in-Some.field-0-1.now) ∷ c.next.new.self = search rules in
    turn_past c.args.high c.loop-key.keys.items _ c.args.limit _ _ (c.in-Some.key.now, c.in-Some.field-0-1.now) steps c.loop-key.invariant.sorted (sym c.stands_before.ensures ∙ c.if-not-stands_before.true) c.loop-key.invariant.same

pub loop-key-preserved : goal.loop-key-preserved
loop-key-preserved c =
    let steps : c.loop-key.key-iterator ≡ (c.in-Some.key.now, c.in-Some.field-0-1.now) ∷ c.next.new.self = search rules in
    let pushed : c.push.new.self.items ≡ c.loop-key.keys.items ++ c.in-Some.key.now ∷ [] = search rules in
    let first = first_before c.args.high _ _ (c.in-Some.key.now, c.in-Some.field-0-1.now) steps (sym c.stands_before.ensures ∙ c.if-not-stands_before.false) in
    record {
      can_next = tt;
      is_finite = tt;
      sorted = sorted_rest _ _ (c.in-Some.key.now, c.in-Some.field-0-1.now) steps c.loop-key.invariant.sorted;
      same = turn_step c.loop-key.keys.items c.push.new.self.items (filter (stands_before c.args.high) (keys_of c.loop-key.key-iterator)) (filter (stands_before c.args.high) (keys_of c.next.new.self)) _ c.args.limit c.in-Some.key.now pushed first (search (rules, arith)) c.loop-key.invariant.same;
    }
