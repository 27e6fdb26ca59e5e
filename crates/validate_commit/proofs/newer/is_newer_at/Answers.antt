use Rattle.std.proofs.Common.{sym, ◌∙◌}
use Rattle.version_store.specs.Versions.{versions_of}
use Rattle.validate_commit.proofs.Ranges.{not_later}
use Rattle.validate_commit.proofs.newer.is_newer_at.Goals as goal

pub returns-else-is_recent : goal.returns-else-is_recent
returns-else-is_recent c = c.if-is_recent.false ∙ sym (not_later c.args.stamp (versions_of c.args.store.now.versions c.args.key.now) (c.is_recent.ensures c.if-is_recent.false))
