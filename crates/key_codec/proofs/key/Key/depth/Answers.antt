use Rattle.std.proofs.Common.{subst, sym, ◌≤◌}
use Rattle.key_codec.proofs.Moved.{depth_is, few_subscripts}
use Rattle.key_codec.proofs.key.Key.depth.Goals as goal

pub returns-clause-depth : goal.returns-clause-depth
returns-clause-depth c =
    let parted = c.in-Some.ensures.some in
    depth_is c.as_slice.result.now c.in-Some.field-0-0.now c.in-Some.rest.now c.args.self.now c.count_subscripts.result c.as_slice.ensures.form parted.1 parted.0 c.as_slice.ensures.value c.count_subscripts.ensures.count

pub returns-clause-few : goal.returns-clause-few
returns-clause-few c =
    let parted = c.in-Some.ensures.some in
    let depth = depth_is c.as_slice.result.now c.in-Some.field-0-0.now c.in-Some.rest.now c.args.self.now c.count_subscripts.result c.as_slice.ensures.form parted.1 parted.0 c.as_slice.ensures.value c.count_subscripts.ensures.count in
    subst (λ n. n ≤ 31) (sym depth) (few_subscripts c.args.self.now c.as_slice.ensures.form)
