use Rattle.std.proofs.Common.{sym, subst}
use Rattle.key_codec.specs.Bounds.{KeepsOrder, IsPrefixOf}
use Rattle.key_codec.specs.laws.Bounds.{keeps_order, is_prefix}
use Rattle.key_codec.proofs.write.encode.Goals as goal

pub returns-clause-order : goal.returns-clause-order
returns-clause-order c = subst (KeepsOrder c.args.reference.now) (sym c.in_ok-key.ensures.key) (keeps_order c.args.reference.now c.in_ok-key.ensures.form)

pub returns-clause-prefix : goal.returns-clause-prefix
returns-clause-prefix c = subst (IsPrefixOf c.args.reference.now) (sym c.in_ok-key.ensures.key) (is_prefix c.args.reference.now c.in_ok-key.ensures.form)
