use Rattle.std.proofs.Common.{sym, subst}
use Rattle.journal.specs.History.{initial, after}
use Rattle.validate_commit.specs.Gathering.{AreRightGets}
use Rattle.job_core.specs.Common.{Common}
use Rattle.job_core.proofs.Cores.{core_gets}
use Rattle.job_core.proofs.kernel.Core.add_gets.Goals as goal

pub write_gets-requires-clause-right : goal.write_gets-requires-clause-right
write_gets-requires-clause-right c = subst (λ (x : Common). AreRightGets (after x.units initial).map c.args.gets.now.units) (sym c.self.view_is) c.requires.right

pub invariant_of-self : goal.invariant_of-self
invariant_of-self c =
    let s = c.self.inside in
    let did = c.write_gets.ensures in
    let right = subst (λ (x : Common). AreRightGets (after x.units initial).map c.args.gets.now.units) (sym c.self.view_is) c.requires.right in
    core_gets _ c.write_gets.result s.store c.write_gets.new.store s.journal.units c.write_gets.new.journal.units c.args.gets.now.units s.journal.base c.write_gets.new.journal.base s.locks s.passing c.self.invariant did.units did.refused did.base did.agreed right
