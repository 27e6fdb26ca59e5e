use Rattle.std.proofs.Common.{sym, ap, ◌∙◌}
use Rattle.std.specs.Option.{option_map}
use Rattle.globals.specs.laws.Ends.{found_to, found_beyond, nothing_to}
use Rattle.key_map.proofs.view.KeyMapTextOrderedView.next.Goals as goal

pub returns-then-stands_within : goal.returns-then-stands_within
returns-then-stands_within c =
    found_to c.args.cut c.args.end c.args.self.now (c.in-Some.key.now, c.in-Some.value.now) (sym c.first_from.ensures ∙ ap (option_map (λ e. (e.0.now, e.1.now))) c.in-Some.is) (sym c.stands_within.ensures ∙ c.if-stands_within.true)

pub returns-else-stands_within : goal.returns-else-stands_within
returns-else-stands_within c =
    found_beyond c.args.cut c.args.end c.args.self.now (c.in-Some.key.now, c.in-Some.value.now) (sym c.first_from.ensures ∙ ap (option_map (λ e. (e.0.now, e.1.now))) c.in-Some.is) (sym c.stands_within.ensures ∙ c.if-stands_within.false)

pub returns-in-None : goal.returns-in-None
returns-in-None c =
    nothing_to c.args.cut c.args.end c.args.self.now (sym c.first_from.ensures ∙ ap (option_map (λ e. (e.0.now, e.1.now))) c.in-None.is)
