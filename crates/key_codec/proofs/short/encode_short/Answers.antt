use Rattle.std.proofs.Common.{sym, subst}
use Rattle.key_codec.specs.Short.{KeepsShortOrder}
use Rattle.key_codec.specs.laws.Short.{keeps_short_order}
use Rattle.key_codec.proofs.short.encode_short.Goals as goal

pub returns-in-Ok-clause-order : goal.returns-in-Ok-clause-order
returns-in-Ok-clause-order c =
    let key = rw c.in-Ok.is at c.write_short.ensures.key in
    let form = rw c.in-Ok.is at c.write_short.ensures.form in
    subst (KeepsShortOrder c.args.reference.now) (sym key) (keeps_short_order c.args.reference.now form)
