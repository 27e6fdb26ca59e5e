use Rattle.std.proofs.Common.{◌≡◌, [], ◌∷◌, length, ap, sym, ◌∙◌, rules, arith}
use Rattle.std.specs.List.{filter}
use Rattle.steady_map.proofs.RunsTaken.{count_ends, count_on, sorted_on, few_before}
use Rattle.steady_map.proofs.map.count_before.Goals as goal

pub returns-then-not-is_after : goal.returns-then-not-is_after
returns-then-not-is_after g c =
    let to = g.Q.Point.before c.args.to.now in
    let steps : c.loop-key.key-iterator ≡ (c.in-Some.key.now, c.in-Some.field-0-1.now) ∷ c.next.new.self = search rules in
    count_ends g.K.Ord.cmp to (g.met.Q.Point.downward c.args.to.now) c.loop-key.key-iterator c.next.new.self (c.in-Some.key.now, c.in-Some.field-0-1.now) c.loop-key.count (length (filter (λ e. to e.0) c.args.walk)) steps c.loop-key.invariant.sorted (sym c.is_after.ensures ∙ c.if-not-is_after.true) c.loop-key.invariant.counted

pub overflow_add-count : goal.overflow_add-count
overflow_add-count g c =
    let to = g.Q.Point.before c.args.to.now in
    let steps : c.loop-key.key-iterator ≡ (c.in-Some.key.now, c.in-Some.field-0-1.now) ∷ c.next.new.self = search rules in
    let more = count_on g.K.Ord.cmp to (g.met.Q.Point.downward c.args.to.now) c.loop-key.key-iterator c.next.new.self (c.in-Some.key.now, c.in-Some.field-0-1.now) c.loop-key.count (length (filter (λ e. to e.0) c.args.walk)) steps (sym c.is_after.ensures ∙ c.if-not-is_after.false) c.loop-key.invariant.counted in
    omega (arith, more, few_before to c.args.walk, c.requires.few)

pub loop-key-preserved : goal.loop-key-preserved
loop-key-preserved g c =
    let to = g.Q.Point.before c.args.to.now in
    let steps : c.loop-key.key-iterator ≡ (c.in-Some.key.now, c.in-Some.field-0-1.now) ∷ c.next.new.self = search rules in
    record {
      can_next = tt;
      is_finite = tt;
      sorted = sorted_on g.K.Ord.cmp to (g.met.Q.Point.downward c.args.to.now) c.loop-key.key-iterator c.next.new.self (c.in-Some.key.now, c.in-Some.field-0-1.now) steps c.loop-key.invariant.sorted;
      counted = count_on g.K.Ord.cmp to (g.met.Q.Point.downward c.args.to.now) c.loop-key.key-iterator c.next.new.self (c.in-Some.key.now, c.in-Some.field-0-1.now) c.loop-key.count (length (filter (λ e. to e.0) c.args.walk)) steps (sym c.is_after.ensures ∙ c.if-not-is_after.false) c.loop-key.invariant.counted;
    }

pub returns : goal.returns
returns g c =
    let to = g.Q.Point.before c.args.to.now in
    let empty : c.loop-key.key-iterator ≡ [] = search rules in
    let none = ap (λ es. length (filter (λ e. to e.0) es)) empty in
    omega (arith, c.loop-key.invariant.counted, none)
