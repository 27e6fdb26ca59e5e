use Rattle.version_chain.specs.Links.{line_versions}
use Rattle.version_chain.proofs.Tidiness.{cut_known}
use Rattle.version_chain.proofs.cut.cut_since.Goals as goal

pub returns-clause-left : goal.returns-clause-left
returns-clause-left g c = cut_known c.args.horizon c.args.since (line_versions c.args.line) (c.is_newer.ensures c.if-not-is_newer.false) c.requires.tidy
