use Rattle.std.proofs.Common.{◌-◌, ap, drop, length, ◌∙◌}
use Rattle.journal.proofs.Got.{last_is}
use Rattle.journal.proofs.exchanges.ExchangeLog.value_got.Goals as goal

pub returns : goal.returns
returns c = λ before key value is size.
    let here = c.as_slice-bytes.ensures.value in
    c.split_at.ensures.back
    ∙ ap (drop c.saturating_sub-start.result) here
    ∙ last_is c.self.inside.bytes.items before _ key value c.args.size c.saturating_sub-start.result c.self.invariant.written (c.self.view_is ∙ is) size (c.saturating_sub-start.ensures ∙ ap (λ bs. length bs - c.args.size) here)
