use Rattle.std.proofs.Common.{sym, subst}
use Rattle.key_codec.specs.Bounds.{IsPrefixOf}
use Rattle.key_codec.specs.laws.Bounds.{is_prefix}
use Rattle.key_codec.proofs.bounds.subtree_prefix.Goals as goal

pub returns-clause-prefix : goal.returns-clause-prefix
returns-clause-prefix c = subst (IsPrefixOf c.args.reference.now) (sym c.in_ok-prefix.ensures.key) (is_prefix c.args.reference.now c.in_ok-prefix.ensures.form)
