use Rattle.std.proofs.Common.{arith, ◌≤◌, ◌+◌, ◌*◌}
use Rattle.std.specs.Prelude.{vec_len, vec_capacity}
use Rattle.journal.proofs.Logs.{none_in, keeps_none}
use Rattle.journal.proofs.log.Log.clear.Goals as goal

pub invariant_of-self : goal.invariant_of-self
invariant_of-self c =
    let was : vec_len c.self.inside.bytes + c.self.inside.ends * 10 ≤ vec_capacity c.self.inside.bytes = c.self.invariant.1 in
    (keeps_none _, omega (arith, was, c.truncate.ensures.len, c.truncate.ensures.capacity, c.shrink_to.ensures.len, c.shrink_to.ensures.lower_bound))

pub returns-clause-units : goal.returns-clause-units
returns-clause-units c = none_in _
