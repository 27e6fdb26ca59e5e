use Rattle.std.proofs.Common.{sym, subst, ap}
use Rattle.std.specs.Prelude.{None}
use Rattle.refusal.specs.declared.Refusal.TheVariants.{NoTransaction}
use Rattle.command.specs.declared.request.Command.{Command}
use Rattle.command.specs.declared.request.Reply.TheVariants.{Refused}
use Rattle.serial.specs.Machine.{early_of, takes_none}
use Rattle.job_core.specs.Joined.{IsStep}
use Rattle.job_core.proofs.AtWork.{refused_unkept, wanting_unkept}
use Rattle.job_core.proofs.Cases.{no_commit, no_rollback, no_restart}
use Rattle.job_core.proofs.at_work.reply_without.Goals as goal

pub returns-in-Access : goal.returns-in-Access
returns-in-Access c =
    subst (λ (k : Command). IsStep c.args.job k (Refused c.refusal_of.result) c.args.engine.now c.args.engine.now) (sym c.in-Access.is)
    (refused_unkept c.args.job c.args.engine.now c.requires.whole c.requires.none c.in-Access.command c.refusal_of.result c.refusal_of.ensures.early c.refusal_of.ensures.cause)

pub returns-in-Lock : goal.returns-in-Lock
returns-in-Lock c = wanting_unkept c.args.job c.args.engine.now c.requires.whole c.requires.none c.args.command.now (ap (λ (k : Command). early_of k None) c.in-Lock.is) (ap (λ (k : Command). takes_none k None) c.in-Lock.is)

pub returns-in-Start : goal.returns-in-Start
returns-in-Start c = wanting_unkept c.args.job c.args.engine.now c.requires.whole c.requires.none c.args.command.now (ap (λ (k : Command). early_of k None) c.in-Start.is) (ap (λ (k : Command). takes_none k None) c.in-Start.is)

pub returns-in-Commit : goal.returns-in-Commit
returns-in-Commit c = subst (λ (k : Command). IsStep c.args.job k (Refused NoTransaction) c.args.engine.now c.args.engine.now) (sym c.in-Commit.is) (no_commit c.args.job c.args.engine.now c.requires.whole c.requires.none)

pub returns-in-Rollback : goal.returns-in-Rollback
returns-in-Rollback c = subst (λ (k : Command). IsStep c.args.job k (Refused NoTransaction) c.args.engine.now c.args.engine.now) (sym c.in-Rollback.is) (no_rollback c.args.job c.args.engine.now c.requires.whole c.requires.none)

pub returns-in-Restart : goal.returns-in-Restart
returns-in-Restart c = subst (λ (k : Command). IsStep c.args.job k (Refused NoTransaction) c.args.engine.now c.args.engine.now) (sym c.in-Restart.is) (no_restart c.args.job c.args.engine.now c.requires.whole c.requires.none)

pub returns-in-Halt : goal.returns-in-Halt
returns-in-Halt c = wanting_unkept c.args.job c.args.engine.now c.requires.whole c.requires.none c.args.command.now (ap (λ (k : Command). early_of k None) c.in-Halt.is) (ap (λ (k : Command). takes_none k None) c.in-Halt.is)
