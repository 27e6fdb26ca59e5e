use Rattle.std.proofs.Common.{subst}
use Rattle.job_server.specs.declared.blocks.Tried.{Tried}
use Rattle.job_server.specs.declared.blocks.Tried.TheVariants.{Within, Over, Back}
use Rattle.job_server.specs.Telling.{Running, HasTried}
use Rattle.job_server.proofs.GoingOn.{is_back, reaches_on, within_on}
use Rattle.job_server.proofs.worker.Worker.try_block.Goals as goal

pub lines-preserved : goal.lines-preserved
lines-preserved g c =
    let job = c.args.job in
    let line = c.in-Some.line in
    let behind = c.in-Within.behind in
    let now = c.lines.run in
    let new = c.try_line.new.run in
    let tried : HasTried job line c.in_ok-behind.field-0 now new = subst (λ (x : Running). HasTried job line c.in_ok-behind.field-0 x new) c.read.ensures.same c.in_ok-behind.ensures in
    let on : HasTried job line (Within behind) now new = subst (λ (t : Tried). HasTried job line t now new) c.in-Within.is tried in
    within_on job c.args.begin.lines.now c.lines.place line behind c.args.run.now now new c.lines.invariant c.in-Some.ensures.first c.in-Some.ensures.fewer on

pub returns-in-Over-clause-over : goal.returns-in-Over-clause-over
returns-in-Over-clause-over g c =
    let job = c.args.job in
    let line = c.in-Some.line in
    let behind = c.in-Over.behind in
    let now = c.lines.run in
    let new = c.try_line.new.run in
    let tried : HasTried job line c.in_ok-behind.field-0 now new = subst (λ (x : Running). HasTried job line c.in_ok-behind.field-0 x new) c.read.ensures.same c.in_ok-behind.ensures in
    let on : HasTried job line (Over behind) now new = subst (λ (t : Tried). HasTried job line t now new) c.in-Over.is tried in
    reaches_on job c.args.begin.lines.now c.lines.place line behind c.args.run.now now new c.lines.invariant.0 c.in-Some.ensures.first c.in-Some.ensures.fewer on.0

pub returns-in-Back-clause-again : goal.returns-in-Back-clause-again
returns-in-Back-clause-again g c =
    let job = c.args.job in
    let line = c.in-Some.line in
    let now = c.lines.run in
    let new = c.try_line.new.run in
    let tried : HasTried job line c.in_ok-behind.field-0 now new = subst (λ (x : Running). HasTried job line c.in_ok-behind.field-0 x new) c.read.ensures.same c.in_ok-behind.ensures in
    let back : HasTried job line Back now new = subst (λ (t : Tried). HasTried job line t now new) c.in-Back.is tried in
    is_back job c.args.begin.lines.now c.lines.place line c.args.run.now now new c.lines.invariant c.in-Some.ensures.first back
