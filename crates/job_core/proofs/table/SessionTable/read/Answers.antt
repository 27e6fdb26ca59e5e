use Rattle.std.proofs.Common.{◌≡◌, ◌≤◌, ◌+◌, ◌∙◌, ap, sym, subst, length, arith, slice_set}
use Rattle.std.specs.Prelude.{IfOk, IfSome, IsSome, None, Option}
use Rattle.std.specs.FinMap as finmap
use Rattle.collation.specs.Limits.{most_jobs}
use Rattle.command.specs.declared.access.DataCommand.TheVariants.{Look}
use Rattle.command.specs.declared.access.Look.TheVariants.{Get}
use Rattle.job_core.specs.Lent.{got_answer, value_in}
use Rattle.job_core.specs.Sessions.{Session, HasAnsweredAt, IsOpenOn}
use Rattle.job_core.specs.Slots.{table_of}
use Rattle.job_core.proofs.Slots.{got_at, is_within, answered_at_job, as_many_answered, set_length}
use Rattle.job_core.proofs.table.SessionTable.read.Goals as goal

pub index_mut-requires : goal.index_mut-requires
index_mut-requires c = let within = is_within c.self.inside.slots.items c.number-number.result c.args.job c.args.self.now c.number-number.ensures.value c.self.view_is c.requires.some in omega (arith, within, c.self.inside.slots.ok.0)

pub get_in-requires-clause-some : goal.get_in-requires-clause-some
get_in-requires-clause-some c = subst IsSome (got_at c.self.inside.slots.items c.number-number.result c.args.job c.args.self.now c.number-number.ensures.value c.self.view_is c.index_mut.result.now (is_within c.self.inside.slots.items c.number-number.result c.args.job c.args.self.now c.number-number.ensures.value c.self.view_is c.requires.some) c.index_mut.ensures.value) c.requires.some

pub get_in-requires-clause-begun : goal.get_in-requires-clause-begun
get_in-requires-clause-begun c = subst (λ o. IfSome o (IsOpenOn c.args.core.now)) (got_at c.self.inside.slots.items c.number-number.result c.args.job c.args.self.now c.number-number.ensures.value c.self.view_is c.index_mut.result.now (is_within c.self.inside.slots.items c.number-number.result c.args.job c.args.self.now c.number-number.ensures.value c.self.view_is c.requires.some) c.index_mut.ensures.value) c.requires.begun

pub invariant_of-self : goal.invariant_of-self
invariant_of-self c = record {
  count =
      as_many_answered (Look (Get c.args.key.now None)) (got_answer (value_in c.args.key.now c.args.core.now.units c.index_mut.result.now) c.get_in.result) c.args.core.now.units c.args.job c.args.self.now _
      (answered_at_job (Look (Get c.args.key.now None)) (got_answer (value_in c.args.key.now c.args.core.now.units c.index_mut.result.now) c.get_in.result) c.args.core.now.units c.self.inside.slots.items c.number-number.result c.args.job c.args.self.now c.index_mut.result.now c.get_in.new.slot c.number-number.ensures.value c.self.view_is (is_within c.self.inside.slots.items c.number-number.result c.args.job c.args.self.now c.number-number.ensures.value c.self.view_is c.requires.some) c.index_mut.ensures.value c.get_in.ensures.answered)
      ∙ ap finmap.len (sym c.self.view_is) ∙ c.self.invariant.count;
  few = subst (λ k. k ≤ most_jobs + 1) (sym (set_length c.self.inside.slots.items c.number-number.result c.get_in.new.slot)) c.self.invariant.few;
}

pub returns-clause-answered : goal.returns-clause-answered
returns-clause-answered c =
    let within = is_within c.self.inside.slots.items c.number-number.result c.args.job c.args.self.now c.number-number.ensures.value c.self.view_is c.requires.some in
    let units = c.args.core.now.units in
    subst (λ (o : Option Session). HasAnsweredAt (Look (Get c.args.key.now None)) (got_answer (value_in c.args.key.now units o) c.get_in.result) units c.args.job c.args.self.now (table_of (slice_set c.self.inside.slots.items c.number-number.result c.get_in.new.slot)) (finmap.get c.args.self.now c.args.job))
    (sym (got_at c.self.inside.slots.items c.number-number.result c.args.job c.args.self.now c.number-number.ensures.value c.self.view_is c.index_mut.result.now within c.index_mut.ensures.value))
    (answered_at_job (Look (Get c.args.key.now None)) (got_answer (value_in c.args.key.now units c.index_mut.result.now) c.get_in.result) units c.self.inside.slots.items c.number-number.result c.args.job c.args.self.now c.index_mut.result.now c.get_in.new.slot c.number-number.ensures.value c.self.view_is within c.index_mut.ensures.value c.get_in.ensures.answered)

pub returns-clause-size : goal.returns-clause-size
returns-clause-size c =
    subst (λ (o : Option Session). IfOk c.get_in.result (λ size. size ≡ length (value_in c.args.key.now c.args.core.now.units o)))
    (sym (got_at c.self.inside.slots.items c.number-number.result c.args.job c.args.self.now c.number-number.ensures.value c.self.view_is c.index_mut.result.now (is_within c.self.inside.slots.items c.number-number.result c.args.job c.args.self.now c.number-number.ensures.value c.self.view_is c.requires.some) c.index_mut.ensures.value))
    c.get_in.ensures.size
