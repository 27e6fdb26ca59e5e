use Rattle.std.proofs.Common.{◌≡◌, [], ◌∷◌, sym, ap, ◌∙◌, rules, arith}
use Rattle.std.specs.Prelude.{filter}
use Rattle.globals.specs.Cuts.{stands_before}
use Rattle.version_store.proofs.RangeLemmas.{sorted_rest}
use Rattle.version_store.proofs.SeenLemmas.{stands_first, stands_more, stands_full, stands_last, pairs_past, pairs_before}
use Rattle.version_store.proofs.turn.Seen.add_before.Goals as goal

pub loop-key-init : goal.loop-key-init
loop-key-init c =
    let same = c.into_iter-key-iterator.ensures.into_iter_gives in
    record {
      can_next = tt;
      is_finite = tt;
      opened = rw same c.requires.open;
      sorted = rw same c.requires.sorted;
      stands = λ qs seen. stands_first _ qs _ c.args.limit _ _ _ _ (ap (filter (λ p. stands_before c.args.high p.0)) same) seen;
    }

pub add-requires-clause-open : goal.add-requires-clause-open
add-requires-clause-open c =
    let steps : c.loop-key.key-iterator ≡ (c.in-Some.key.now, c.in-Some.id.now) ∷ c.next.new.self = search rules in
    (rw steps at c.loop-key.invariant.opened).0

pub loop-key-preserved : goal.loop-key-preserved
loop-key-preserved c =
    let now = c.loop-key.invariant in
    let steps : c.loop-key.key-iterator ≡ (c.in-Some.key.now, c.in-Some.id.now) ∷ c.next.new.self = search rules in
    let before = pairs_before c.args.high _ _ (c.in-Some.key.now, c.in-Some.id.now) steps (sym c.stands_before.ensures ∙ c.if-not-stands_before.false) in
    record {
      can_next = tt;
      is_finite = tt;
      opened = (rw steps at now.opened).1;
      sorted = sorted_rest _ _ (c.in-Some.key.now, c.in-Some.id.now) steps now.sorted;
      stands = λ qs seen. stands_more _ qs _ c.args.limit _ _ (c.in-Some.key.now, c.in-Some.id.now) _ _ _ _ _ _ before (search (rules, arith)) c.in_ok-add.ensures (now.stands qs seen);
    }

pub returns-then-self-limit : goal.returns-then-self-limit
returns-then-self-limit c = λ qs seen. stands_full _ qs _ c.args.limit _ _ _ _ (search (rules, arith)) (c.loop-key.invariant.stands qs seen)

pub returns-then-not-stands_before : goal.returns-then-not-stands_before
returns-then-not-stands_before c =
    let now = c.loop-key.invariant in
    let steps : c.loop-key.key-iterator ≡ (c.in-Some.key.now, c.in-Some.id.now) ∷ c.next.new.self = search rules in
    let past = pairs_past c.args.high _ _ (c.in-Some.key.now, c.in-Some.id.now) steps now.sorted (sym c.stands_before.ensures ∙ c.if-not-stands_before.true) in
    λ qs seen. stands_last _ qs _ c.args.limit _ _ _ _ past (now.stands qs seen)

pub returns : goal.returns
returns c =
    let none : c.loop-key.key-iterator ≡ [] = search rules in
    λ qs seen. stands_last _ qs _ c.args.limit _ _ _ _ (ap (filter (λ p. stands_before c.args.high p.0)) none) (c.loop-key.invariant.stands qs seen)
