use Rattle.std.proofs.Common.{◌≡◌, false, ap, sym, ◌∙◌, arith}
use Rattle.script_run.specs.OpenJobs.{is_open}
use Rattle.script_run.proofs.Flags.{flagged_more, room_left}
use Rattle.script_run.proofs.open_jobs.OpenJobs.join.Goals as goal

pub push_reserved-requires : goal.push_reserved-requires
push_reserved-requires c =
    let closed : is_open c.args.job c.self.inside.order.items ≡ false = ap (is_open c.args.job) c.self.view_is ∙ sym c.is_open.ensures ∙ c.if-not-is_open.true in
    let room = room_left _ _ _ c.args.job c.self.invariant (omega (arith, c.number.ensures.value, c.number.ensures.high)) closed in
    omega (arith, room)

pub invariant_of-self : goal.invariant_of-self
invariant_of-self c =
    let closed : is_open c.args.job c.self.inside.order.items ≡ false = ap (is_open c.args.job) c.self.view_is ∙ sym c.is_open.ensures ∙ c.if-not-is_open.true in
    let pushed = c.push_reserved.ensures in
    rw (pushed.items, pushed.capacity, c.number.ensures.value) (flagged_more _ _ _ c.args.job c.self.invariant (omega (arith, c.number.ensures.value, c.number.ensures.high)) closed)
