use Rattle.std.proofs.Common.{◌≡◌, drop}
use Rattle.std.specs.Vec.Iter.{into_iter_items}
use Rattle.job_scripts.specs.Blocks.{in_place}
use Rattle.job_scripts.specs.Reports.{and_replies}
use Rattle.job_scripts.proofs.block.push_in_place.Given as goal

-- with what is left it will be the whole
abbrev pub invariant-loop-place : goal.invariant-loop-place
invariant-loop-place l = and_replies l.replies (in_place (drop l.place-index l.places) (into_iter_items l.served)) ≡ and_replies l.fn.replies (in_place l.places l.fn.served.items)
