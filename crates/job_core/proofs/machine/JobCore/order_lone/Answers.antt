use Rattle.std.proofs.Common.{◌≡◌, List, refl, sym, ap, subst, ◌∙◌, OnOk}
use Rattle.std.specs.Prelude.{None}
use Rattle.command.specs.declared.access.DataCommand.TheVariants.{Look}
use Rattle.command.specs.declared.access.Look.TheVariants.{Order}
use Rattle.command.specs.declared.request.Command.TheVariants.{Access}
use Rattle.journal.specs.Story.{transaction_of}
use Rattle.job_core.specs.Cores.{Cored}
use Rattle.job_core.proofs.ByReference.{none_inside}
use Rattle.collation.specs.Answers.{is_forward, order_of}
use Rattle.journal.specs.declared.unit.Unit.{Unit as JournalUnit}
use Rattle.journal.specs.History.{initial, after}
use Rattle.job_core.specs.Common.{Common}
use Rattle.job_core.specs.Lent.{got_reply, HasGot}
use Rattle.job_core.specs.Joined.{machine_shown}
use Rattle.job_core.proofs.Bases.{behind_after, behind_same}
use Rattle.job_core.proofs.AtWork.{kept_same, kept_step, roomier, roomier_whole, roomier_shown, roomier_base, roomier_step}
use Rattle.job_core.proofs.machine.JobCore.order_lone.Goals as goal

pub order_lone-requires-clause-whole : goal.order_lone-requires-clause-whole
order_lone-requires-clause-whole c = roomier_whole c.self.inside.engine c.begin.new.core c.begin.new.core.ends c.begin.ensures.core c.self.invariant.0

pub order_lone-requires-clause-none : goal.order_lone-requires-clause-none
order_lone-requires-clause-none c = none_inside c.self.inside.engine.core.units c.self.inside.engine.sessions c.args.job (subst (λ (k : Cored). transaction_of c.args.job k.machine ≡ None) (sym c.self.view_is) c.requires)

pub invariant_of-self : goal.invariant_of-self
invariant_of-self c =
    let e = c.self.inside.engine in
    let core = c.begin.new.core in
    let is = c.begin.ensures.core in
    let s = machine_shown e in
    let command = Access (Look (Order c.args.place.now c.args.direction)) in
    let reply = got_reply (order_of (is_forward c.args.direction) c.args.place.now (after core.units initial).map) c.order_lone.result in
    let step = roomier_step e core core.ends is c.args.job command reply c.order_lone.new.self c.order_lone.ensures.step in (
      step.whole,
      (
        behind_after e.core.base c.order_lone.new.self.core.base s (machine_shown c.order_lone.new.self) c.args.job command reply (c.order_lone.ensures.base ∙ roomier_base e core core.ends is) step.machine c.self.invariant.1.0,
        kept_step c.begin.new.ends.items core.ends c.order_lone.new.self.core.ends c.args.job command reply s (machine_shown c.order_lone.new.self) (c.begin.ensures.room s c.self.invariant.1.1) c.in-Ok.ensures.kept c.order_lone.ensures.ends step.machine,
      ),
    )

pub invariant_of-self-in-Err : goal.invariant_of-self-in-Err
invariant_of-self-in-Err c =
    let e = c.self.inside.engine in
    let core = c.begin.new.core in
    let is = c.begin.ensures.core in
    let s = machine_shown e in
    let mid = machine_shown (roomier e core core.ends is) in
    let same = roomier_shown e core core.ends is in (
      roomier_whole e core core.ends is c.self.invariant.0,
      (
        behind_same e.core.base core.base s mid (roomier_base e core core.ends is) same c.self.invariant.1.0,
        kept_same c.begin.new.ends.items core.ends core.ends s mid (c.begin.ensures.room s c.self.invariant.1.1) refl same,
      ),
    )

pub returns-in-Ok-clause-got : goal.returns-in-Ok-clause-got
returns-in-Ok-clause-got c =
    let new = c.order_lone.new.self in
    rw (← c.self.view_is)
    (subst (λ (us : List JournalUnit). OnOk c.order_lone.result (HasGot c.args.job (order_of (is_forward c.args.direction) c.args.place.now (after us initial).map) new.core.base (machine_shown new))) (ap (λ (k : Common). k.units) c.begin.ensures.core) c.order_lone.ensures.got)
