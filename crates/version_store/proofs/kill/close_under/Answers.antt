use Rattle.std.proofs.Common.{◌≡◌, [], ◌∷◌, true, sym, subst, ◌∙◌, rules}
use Rattle.btree.specs.Order.{Each}
use Rattle.version_store.specs.declared.kill.Placed.TheVariants.{Nothing}
use Rattle.version_store.proofs.KillLemmas.{IsClosing, stays, closing_begun, closing_on, closing_open, closed_tied, closed_versions, closed_told, closed_cells, none_under}
use Rattle.version_store.proofs.kill.close_under.Goals as goal

pub loop-key-init : goal.loop-key-init
loop-key-init c =
    let r = c.args.root.now in
    let all = c.args.tree.now.pairs in
    let was = c.args.chains.now in
    record {
      can_next = tt;
      is_finite = tt;
      closing = subst (λ es. IsClosing r all was es was Nothing) (sym (c.into_iter-key-iterator.ensures.into_iter_gives ∙ c.from-key-items.ensures)) (closing_begun r all was c.requires.0 c.requires.1);
    }

pub close-requires : goal.close-requires
close-requires c =
    let steps : c.loop-key.key-iterator ≡ (c.in-Some.key.now, c.in-Some.id.now) ∷ c.next.new.self = search rules in
    closing_open c.args.root.now c.args.tree.now.pairs c.args.chains.now c.requires.0 c.requires.1 c.loop-key.key-iterator c.next.new.self c.in-Some.key.now c.in-Some.id.now c.loop-key.chains c.loop-key.placed steps c.loop-key.invariant.closing

pub loop-key-preserved : goal.loop-key-preserved
loop-key-preserved c =
    let steps : c.loop-key.key-iterator ≡ (c.in-Some.key.now, c.in-Some.id.now) ∷ c.next.new.self = search rules in
    let r = c.args.root.now in
    let all = c.args.tree.now.pairs in
    let was = c.args.chains.now in
    let on = closing_on r all was c.requires.0 c.requires.1 c.loop-key.key-iterator c.next.new.self c.in-Some.key.now c.in-Some.id.now c.loop-key.chains c.close.new.self c.loop-key.placed c.eq.result steps (sym c.is_under.ensures ∙ c.if-not-is_under.false) c.eq.ensures
    c.loop-key.invariant.closing c.close.ensures.chains c.close.ensures.spare in
    record {
      can_next = tt;
      is_finite = tt;
      closing = subst (IsClosing r all was c.next.new.self c.close.new.self) (sym c.with_one-placed.ensures) on;
    }

pub returns-then-not-is_under-clause-tied : goal.returns-then-not-is_under-clause-tied
returns-then-not-is_under-clause-tied c =
    let steps : c.loop-key.key-iterator ≡ (c.in-Some.key.now, c.in-Some.id.now) ∷ c.next.new.self = search rules in
    let r = c.args.root.now in
    let all = c.args.tree.now.pairs in
    let none = none_under r all c.args.chains.now c.requires.0 c.requires.1 c.loop-key.key-iterator c.next.new.self (c.in-Some.key.now, c.in-Some.id.now) c.loop-key.chains c.loop-key.placed steps (sym c.is_under.ensures ∙ c.if-not-is_under.true) c.loop-key.invariant.closing in
    closed_tied r all c.args.chains.now c.requires.0 c.requires.1 c.loop-key.key-iterator c.loop-key.chains c.loop-key.placed c.loop-key.invariant.closing none

pub returns-then-not-is_under-clause-versions : goal.returns-then-not-is_under-clause-versions
returns-then-not-is_under-clause-versions c =
    let steps : c.loop-key.key-iterator ≡ (c.in-Some.key.now, c.in-Some.id.now) ∷ c.next.new.self = search rules in
    let r = c.args.root.now in
    let all = c.args.tree.now.pairs in
    let none = none_under r all c.args.chains.now c.requires.0 c.requires.1 c.loop-key.key-iterator c.next.new.self (c.in-Some.key.now, c.in-Some.id.now) c.loop-key.chains c.loop-key.placed steps (sym c.is_under.ensures ∙ c.if-not-is_under.true) c.loop-key.invariant.closing in
    closed_versions r all c.args.chains.now c.requires.0 c.requires.1 c.loop-key.key-iterator c.loop-key.chains c.loop-key.placed c.loop-key.invariant.closing none

pub returns-then-not-is_under-clause-spare : goal.returns-then-not-is_under-clause-spare
returns-then-not-is_under-clause-spare c = c.loop-key.invariant.closing.spare

pub returns-clause-tied : goal.returns-clause-tied
returns-clause-tied c =
    let empty : c.loop-key.key-iterator ≡ [] = search rules in
    let r = c.args.root.now in
    closed_tied r c.args.tree.now.pairs c.args.chains.now c.requires.0 c.requires.1 c.loop-key.key-iterator c.loop-key.chains c.loop-key.placed c.loop-key.invariant.closing (subst (Each (λ e. stays r e.0 ≡ true)) (sym empty) tt)

pub returns-clause-versions : goal.returns-clause-versions
returns-clause-versions c =
    let empty : c.loop-key.key-iterator ≡ [] = search rules in
    let r = c.args.root.now in
    closed_versions r c.args.tree.now.pairs c.args.chains.now c.requires.0 c.requires.1 c.loop-key.key-iterator c.loop-key.chains c.loop-key.placed c.loop-key.invariant.closing (subst (Each (λ e. stays r e.0 ≡ true)) (sym empty) tt)

pub returns-clause-spare : goal.returns-clause-spare
returns-clause-spare c = c.loop-key.invariant.closing.spare

pub returns-then-not-is_under-clause-cells : goal.returns-then-not-is_under-clause-cells
returns-then-not-is_under-clause-cells c =
    let steps : c.loop-key.key-iterator ≡ (c.in-Some.key.now, c.in-Some.id.now) ∷ c.next.new.self = search rules in
    let r = c.args.root.now in
    let all = c.args.tree.now.pairs in
    let none = none_under r all c.args.chains.now c.requires.0 c.requires.1 c.loop-key.key-iterator c.next.new.self (c.in-Some.key.now, c.in-Some.id.now) c.loop-key.chains c.loop-key.placed steps (sym c.is_under.ensures ∙ c.if-not-is_under.true) c.loop-key.invariant.closing in
    closed_cells r all c.args.chains.now c.requires.0 c.requires.1 c.loop-key.key-iterator c.loop-key.chains c.loop-key.placed c.loop-key.invariant.closing none

pub returns-clause-cells : goal.returns-clause-cells
returns-clause-cells c =
    let empty : c.loop-key.key-iterator ≡ [] = search rules in
    let r = c.args.root.now in
    closed_cells r c.args.tree.now.pairs c.args.chains.now c.requires.0 c.requires.1 c.loop-key.key-iterator c.loop-key.chains c.loop-key.placed c.loop-key.invariant.closing (subst (Each (λ e. stays r e.0 ≡ true)) (sym empty) tt)

pub returns-then-not-is_under-clause-told : goal.returns-then-not-is_under-clause-told
returns-then-not-is_under-clause-told c =
    let steps : c.loop-key.key-iterator ≡ (c.in-Some.key.now, c.in-Some.id.now) ∷ c.next.new.self = search rules in
    let r = c.args.root.now in
    let all = c.args.tree.now.pairs in
    let none = none_under r all c.args.chains.now c.requires.0 c.requires.1 c.loop-key.key-iterator c.next.new.self (c.in-Some.key.now, c.in-Some.id.now) c.loop-key.chains c.loop-key.placed steps (sym c.is_under.ensures ∙ c.if-not-is_under.true) c.loop-key.invariant.closing in
    closed_told r all c.args.chains.now c.requires.0 c.requires.1 c.loop-key.key-iterator c.loop-key.chains c.loop-key.placed c.loop-key.invariant.closing none

pub returns-clause-told : goal.returns-clause-told
returns-clause-told c =
    let empty : c.loop-key.key-iterator ≡ [] = search rules in
    let r = c.args.root.now in
    closed_told r c.args.tree.now.pairs c.args.chains.now c.requires.0 c.requires.1 c.loop-key.key-iterator c.loop-key.chains c.loop-key.placed c.loop-key.invariant.closing (subst (Each (λ e. stays r e.0 ≡ true)) (sym empty) tt)
