use Rattle.std.proofs.Common.{sym, ap, ◌∙◌}
use Rattle.std.specs.Option.{option_map}
use Rattle.globals.specs.laws.Ends.{last_found_to, last_beyond, nothing_down}
use Rattle.key_map.proofs.view.KeyMapTextOrderedView.prev.Goals as goal

pub returns-then-stands_under : goal.returns-then-stands_under
returns-then-stands_under c =
    last_beyond c.args.cut c.args.floor c.args.self.now (c.in-Some.key.now, c.in-Some.value.now) (sym c.last_before.ensures ∙ ap (option_map (λ e. (e.0.now, e.1.now))) c.in-Some.is) (sym c.stands_under.ensures ∙ c.if-stands_under.true)

pub returns-else-stands_under : goal.returns-else-stands_under
returns-else-stands_under c =
    last_found_to c.args.cut c.args.floor c.args.self.now (c.in-Some.key.now, c.in-Some.value.now) (sym c.last_before.ensures ∙ ap (option_map (λ e. (e.0.now, e.1.now))) c.in-Some.is) (sym c.stands_under.ensures ∙ c.if-stands_under.false)

pub returns-in-None : goal.returns-in-None
returns-in-None c =
    nothing_down c.args.cut c.args.floor c.args.self.now (sym c.last_before.ensures ∙ ap (option_map (λ e. (e.0.now, e.1.now))) c.in-None.is)
