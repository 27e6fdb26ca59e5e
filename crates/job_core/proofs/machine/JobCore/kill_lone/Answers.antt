use Rattle.std.proofs.Common.{◌≡◌, refl, sym, subst, ◌∙◌}
use Rattle.std.specs.Prelude.{None}
use Rattle.command.specs.declared.access.DataCommand.TheVariants.{Kill}
use Rattle.command.specs.declared.access.Extent.TheVariants.{All}
use Rattle.command.specs.declared.request.Command.TheVariants.{Access}
use Rattle.journal.specs.Story.{transaction_of}
use Rattle.job_core.specs.Cores.{Cored}
use Rattle.job_core.proofs.ByReference.{none_inside}
use Rattle.job_core.specs.Lent.{done_reply}
use Rattle.job_core.specs.Joined.{machine_shown}
use Rattle.job_core.proofs.Bases.{behind_after, behind_same}
use Rattle.job_core.proofs.AtWork.{kept_same, kept_step, rests_outside, roomier, roomier_whole, roomier_shown, roomier_base, roomier_step, wants}
use Rattle.job_core.proofs.machine.JobCore.kill_lone.Goals as goal

pub kill_lone-requires-clause-whole : goal.kill_lone-requires-clause-whole
kill_lone-requires-clause-whole c = roomier_whole c.self.inside.engine c.begin.new.core c.begin.new.core.ends c.begin.ensures.core c.self.invariant.0

pub kill_lone-requires-clause-none : goal.kill_lone-requires-clause-none
kill_lone-requires-clause-none c = none_inside c.self.inside.engine.core.units c.self.inside.engine.sessions c.args.job (subst (λ (k : Cored). transaction_of c.args.job k.machine ≡ None) (sym c.self.view_is) c.requires)

pub invariant_of-self : goal.invariant_of-self
invariant_of-self c =
    let e = c.self.inside.engine in
    let core = c.begin.new.core in
    let is = c.begin.ensures.core in
    let s = machine_shown e in
    let command = Access (Kill c.args.key.now All) in
    let reply = done_reply c.kill_lone.result in
    let step = roomier_step e core core.ends is c.args.job command reply c.kill_lone.new.self c.kill_lone.ensures.step in (
      step.whole,
      (
        behind_after e.core.base c.kill_lone.new.self.core.base s (machine_shown c.kill_lone.new.self) c.args.job command reply (c.kill_lone.ensures.base ∙ roomier_base e core core.ends is) step.machine c.self.invariant.1.0,
        kept_step c.begin.new.ends.items core.ends c.kill_lone.new.self.core.ends c.args.job command reply s (machine_shown c.kill_lone.new.self) (c.begin.ensures.room s c.self.invariant.1.1) c.in-Ok.ensures.kept c.kill_lone.ensures.ends step.machine,
      ),
    )

pub invariant_of-self-in-Err : goal.invariant_of-self-in-Err
invariant_of-self-in-Err c =
    let e = c.self.inside.engine in
    let core = c.begin.new.core in
    let is = c.begin.ensures.core in
    let s = machine_shown e in
    let mid = machine_shown (roomier e core core.ends is) in
    let same = roomier_shown e core core.ends is in (
      roomier_whole e core core.ends is c.self.invariant.0,
      (
        behind_same e.core.base core.base s mid (roomier_base e core core.ends is) same c.self.invariant.1.0,
        kept_same c.begin.new.ends.items core.ends core.ends s mid (c.begin.ensures.room s c.self.invariant.1.1) refl same,
      ),
    )

pub returns-in-Err-clause-exact : goal.returns-in-Err-clause-exact
returns-in-Err-clause-exact c =
    let s = machine_shown c.self.inside.engine in
    let outside = rests_outside c.begin.new.ends.items c.begin.new.core.ends c.args.job s (c.begin.ensures.room s c.self.invariant.1.1) c.begin.ensures.low c.in-Err.ensures.none in
    rw (← c.self.view_is) (wants (Kill c.args.key.now All) c.in-Err.refusal c.args.job s c.in-Err.ensures.cause outside refl)
