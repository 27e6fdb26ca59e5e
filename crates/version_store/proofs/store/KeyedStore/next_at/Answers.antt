use Rattle.std.proofs.Common.{not, ◌∙◌, sym, ap}
use Rattle.std.specs.Option.{option_map}
use Rattle.globals.specs.Cuts.{stands_before}
use Rattle.version_store.proofs.SeekLemmas.{open_in, open_first, none_between, beyond_between, found_between}
use Rattle.version_store.proofs.store.KeyedStore.next_at.Goals as goal

pub at-requires : goal.at-requires
at-requires c =
    let s = c.self.inside in
    open_first s.chains (λ x. not (stands_before c.args.cut x)) s.tree.pairs (c.in-Some.key.now, c.in-Some.id.now)
    (open_in s.chains s.tree.pairs s.present c.self.invariant.0) (sym c.first_from.ensures.found ∙ ap (option_map (λ p. (p.0.now, p.1.now))) c.in-Some.is)

pub returns-in-None : goal.returns-in-None
returns-in-None c =
    let s = c.self.inside in
    rw (← c.self.view_is) (sym (none_between c.args.cut c.args.end s.chains s.tree.pairs c.args.stamp c.self.invariant.0.sorted
    (sym c.first_from.ensures.found ∙ ap (option_map (λ p. (p.0.now, p.1.now))) c.in-None.is)))

pub returns-then-not-stands_within : goal.returns-then-not-stands_within
returns-then-not-stands_within c =
    let s = c.self.inside in
    rw (← c.self.view_is) (sym (beyond_between c.args.cut c.args.end s.chains s.tree.pairs c.args.stamp c.self.invariant.0.sorted (c.in-Some.key.now, c.in-Some.id.now)
    (sym c.first_from.ensures.found ∙ ap (option_map (λ p. (p.0.now, p.1.now))) c.in-Some.is) (sym c.stands_within.ensures ∙ c.if-not-stands_within.true)))

pub returns-in-Some-at : goal.returns-in-Some-at
returns-in-Some-at c =
    let s = c.self.inside in
    rw (← c.self.view_is) (sym (found_between c.args.cut c.args.end s.chains s.tree.pairs c.args.stamp c.self.invariant.0.sorted (c.in-Some.key.now, c.in-Some.id.now)
    (sym c.first_from.ensures.found ∙ ap (option_map (λ p. (p.0.now, p.1.now))) c.in-Some.is) c.in-Some-at.text.now (sym c.in-Some-at.ensures) (sym c.stands_within.ensures ∙ c.if-not-stands_within.false)))
