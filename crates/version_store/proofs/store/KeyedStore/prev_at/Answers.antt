use Rattle.std.proofs.Common.{◌∙◌, sym, ap}
use Rattle.std.specs.Option.{option_map}
use Rattle.globals.specs.Cuts.{stands_before}
use Rattle.version_store.proofs.SeekLemmas.{open_in, open_last, none_back, under_back, found_back}
use Rattle.version_store.proofs.store.KeyedStore.prev_at.Goals as goal

pub at-requires : goal.at-requires
at-requires c =
    let s = c.self.inside in
    open_last s.chains (stands_before c.args.cut) s.tree.pairs (c.in-Some.key.now, c.in-Some.id.now)
    (open_in s.chains s.tree.pairs s.present c.self.invariant.0) (sym c.last_before.ensures.found ∙ ap (option_map (λ p. (p.0.now, p.1.now))) c.in-Some.is)

pub returns-in-None : goal.returns-in-None
returns-in-None c =
    let s = c.self.inside in
    rw (← c.self.view_is) (sym (none_back c.args.cut c.args.floor s.chains s.tree.pairs c.args.stamp c.self.invariant.0.sorted
    (sym c.last_before.ensures.found ∙ ap (option_map (λ p. (p.0.now, p.1.now))) c.in-None.is)))

pub returns-then-stands_under : goal.returns-then-stands_under
returns-then-stands_under c =
    let s = c.self.inside in
    rw (← c.self.view_is) (sym (under_back c.args.cut c.args.floor s.chains s.tree.pairs c.args.stamp c.self.invariant.0.sorted (c.in-Some.key.now, c.in-Some.id.now)
    (sym c.last_before.ensures.found ∙ ap (option_map (λ p. (p.0.now, p.1.now))) c.in-Some.is) (sym c.stands_under.ensures ∙ c.if-stands_under.true)))

pub returns-in-Some-at : goal.returns-in-Some-at
returns-in-Some-at c =
    let s = c.self.inside in
    rw (← c.self.view_is) (sym (found_back c.args.cut c.args.floor s.chains s.tree.pairs c.args.stamp c.self.invariant.0.sorted (c.in-Some.key.now, c.in-Some.id.now)
    (sym c.last_before.ensures.found ∙ ap (option_map (λ p. (p.0.now, p.1.now))) c.in-Some.is) c.in-Some-at.text.now (sym c.in-Some-at.ensures) (sym c.stands_under.ensures ∙ c.if-stands_under.false)))
