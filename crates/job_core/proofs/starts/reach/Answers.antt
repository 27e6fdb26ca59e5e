use Rattle.std.proofs.Common.{[], ◌∷◌, ◌∙◌, ap, arith, length, length-append, slice_index_or}
use Rattle.job_core.proofs.Begun.{place_more}
use Rattle.job_core.proofs.starts.reach.Goals as goal

pub loop-places-preserved : goal.loop-places-preserved
loop-places-preserved c = (
  λ job. ap (λ xs. slice_index_or xs job 0) c.in_ok-push.ensures.items ∙ place_more c.loop-places.places.items job ∙ c.loop-places.invariant.0 job,
  omega (arith, ap length c.in_ok-push.ensures.items, length-append c.loop-places.places.items (0 ∷ []), c.loop-places.invariant.1),
)
