use Rattle.read_ranges.specs.Ranges.{between}
use Rattle.read_ranges.proofs.Joining.{one_grew}
use Rattle.read_ranges.proofs.noted.Ranges.join.Goals as goal

pub returns-clause-joined : goal.returns-clause-joined
returns-clause-joined c =
    rw c.self.view_is (one_grew c.take_in.result c.args.self.now c.args.i c.index_mut.result.now c.take_in.new.self (between c.args.low c.args.high) c.requires (rw c.self.view_is at c.index_mut.ensures.value) c.take_in.ensures.joined)
