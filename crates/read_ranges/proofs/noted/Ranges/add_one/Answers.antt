use Rattle.read_ranges.proofs.Single.{already_in}
use Rattle.read_ranges.proofs.noted.Ranges.add_one.Goals as goal

pub returns-then-is_known-clause-more : goal.returns-then-is_known-clause-more
returns-then-is_known-clause-more c = already_in c.args.self.now c.args.key.now (c.is_known.ensures c.if-is_known.true)
