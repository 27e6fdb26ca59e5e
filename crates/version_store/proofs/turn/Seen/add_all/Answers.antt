use Rattle.std.proofs.Common.{◌≡◌, ◌∷◌, rules, arith}
use Rattle.version_store.proofs.SeenLemmas.{stands_first, stands_more, stands_full, stands_last}
use Rattle.version_store.proofs.turn.Seen.add_all.Goals as goal

pub loop-key-init : goal.loop-key-init
loop-key-init c =
    let same = c.into_iter-key-iterator.ensures.into_iter_gives in
    record {
      can_next = tt;
      is_finite = tt;
      opened = rw same c.requires;
      stands = λ qs seen. stands_first _ qs _ c.args.limit _ _ _ _ same seen;
    }

pub add-requires-clause-open : goal.add-requires-clause-open
add-requires-clause-open c =
    let steps : c.loop-key.key-iterator ≡ (c.in-Some.key.now, c.in-Some.id.now) ∷ c.next.new.self = search rules in
    (rw steps at c.loop-key.invariant.opened).0

pub loop-key-preserved : goal.loop-key-preserved
loop-key-preserved c =
    let now = c.loop-key.invariant in
    let steps : c.loop-key.key-iterator ≡ (c.in-Some.key.now, c.in-Some.id.now) ∷ c.next.new.self = search rules in
    record {
      can_next = tt;
      is_finite = tt;
      opened = (rw steps at now.opened).1;
      stands = λ qs seen. stands_more _ qs _ c.args.limit _ _ (c.in-Some.key.now, c.in-Some.id.now) _ _ _ _ _ _ steps (search (rules, arith)) c.in_ok-add.ensures (now.stands qs seen);
    }

pub returns-then-self-limit : goal.returns-then-self-limit
returns-then-self-limit c = λ qs seen. stands_full _ qs _ c.args.limit _ _ _ _ (search (rules, arith)) (c.loop-key.invariant.stands qs seen)

pub returns : goal.returns
returns c = λ qs seen. stands_last _ qs _ c.args.limit _ _ _ _ (search rules) (c.loop-key.invariant.stands qs seen)
