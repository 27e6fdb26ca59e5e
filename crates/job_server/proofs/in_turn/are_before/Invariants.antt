use Rattle.std.proofs.Common.{drop}
use Rattle.job_server.specs.Steps.{AreBefore}
use Rattle.job_server.proofs.in_turn.are_before.Given as goal

-- if those that are left did, all did
abbrev pub invariant-passes : goal.invariant-passes
invariant-passes g l = AreBefore l.count (drop l.pass-index l.passes) → AreBefore l.count l.passes
