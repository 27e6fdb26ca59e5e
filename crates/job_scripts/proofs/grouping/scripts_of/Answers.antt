use Rattle.std.proofs.Common.{rules}
use Rattle.job_scripts.specs.Groups.{lines_in}
use Rattle.job_scripts.proofs.Placing.{none_so_far, so_far_on}
use Rattle.job_scripts.proofs.grouping.scripts_of.Goals as goal

pub lines-init : goal.lines-init
lines-init c = record {
  places = c.in_ok-groups.ensures.places;
  so_far = none_so_far c.args.text.now c.into_iter-line-iterator.result c.in_ok-groups.groups.scripts.items c.in_ok-groups.ensures.none (search rules);
}

pub lines-preserved : goal.lines-preserved
lines-preserved c = record {
  places = c.in_ok-take_line.ensures.places;
  so_far = so_far_on (lines_in c.args.text.now) c.lines.line-iterator c.next.new.self c.in-Some.line.now c.lines.groups.scripts.items c.take_line.new.groups.scripts.items c.in-Some.ensures.steps c.in_ok-take_line.ensures.scripts c.lines.invariant.so_far;
}
