use Rattle.std.proofs.Common.{◌≤◌, ◌+◌, ◌∙◌, ap, sym, subst, arith}
use Rattle.std.specs.Prelude.{IfSome, IsSome}
use Rattle.std.specs.FinMap as finmap
use Rattle.collation.specs.Limits.{most_jobs}
use Rattle.command.specs.declared.access.DataCommand.TheVariants.{Set}
use Rattle.job_core.specs.Lent.{done_answer}
use Rattle.job_core.specs.Sessions.{IsOpenOn}
use Rattle.job_core.proofs.Slots.{got_at, is_within, answered_at_job, as_many_answered, set_length}
use Rattle.job_core.proofs.table.SessionTable.set.Goals as goal

pub index_mut-requires : goal.index_mut-requires
index_mut-requires c = let within = is_within c.self.inside.slots.items c.number-number.result c.args.job c.args.self.now c.number-number.ensures.value c.self.view_is c.requires.some in omega (arith, within, c.self.inside.slots.ok.0)

pub set_in-requires-clause-some : goal.set_in-requires-clause-some
set_in-requires-clause-some c = subst IsSome (got_at c.self.inside.slots.items c.number-number.result c.args.job c.args.self.now c.number-number.ensures.value c.self.view_is c.index_mut.result.now (is_within c.self.inside.slots.items c.number-number.result c.args.job c.args.self.now c.number-number.ensures.value c.self.view_is c.requires.some) c.index_mut.ensures.value) c.requires.some

pub set_in-requires-clause-begun : goal.set_in-requires-clause-begun
set_in-requires-clause-begun c = subst (λ o. IfSome o (IsOpenOn c.args.core.now)) (got_at c.self.inside.slots.items c.number-number.result c.args.job c.args.self.now c.number-number.ensures.value c.self.view_is c.index_mut.result.now (is_within c.self.inside.slots.items c.number-number.result c.args.job c.args.self.now c.number-number.ensures.value c.self.view_is c.requires.some) c.index_mut.ensures.value) c.requires.begun

pub invariant_of-self : goal.invariant_of-self
invariant_of-self c = record {
  count =
      as_many_answered (Set c.args.key.now c.args.value.now) (done_answer c.set_in.result) c.args.core.now.units c.args.job c.args.self.now _
      (answered_at_job (Set c.args.key.now c.args.value.now) (done_answer c.set_in.result) c.args.core.now.units c.self.inside.slots.items c.number-number.result c.args.job c.args.self.now c.index_mut.result.now c.set_in.new.slot c.number-number.ensures.value c.self.view_is (is_within c.self.inside.slots.items c.number-number.result c.args.job c.args.self.now c.number-number.ensures.value c.self.view_is c.requires.some) c.index_mut.ensures.value c.set_in.ensures.answered)
      ∙ ap finmap.len (sym c.self.view_is) ∙ c.self.invariant.count;
  few = subst (λ k. k ≤ most_jobs + 1) (sym (set_length c.self.inside.slots.items c.number-number.result c.set_in.new.slot)) c.self.invariant.few;
}

pub returns-clause-answered : goal.returns-clause-answered
returns-clause-answered c =
    answered_at_job (Set c.args.key.now c.args.value.now) (done_answer c.set_in.result) c.args.core.now.units c.self.inside.slots.items c.number-number.result c.args.job c.args.self.now c.index_mut.result.now c.set_in.new.slot c.number-number.ensures.value c.self.view_is (is_within c.self.inside.slots.items c.number-number.result c.args.job c.args.self.now c.number-number.ensures.value c.self.view_is c.requires.some) c.index_mut.ensures.value c.set_in.ensures.answered
