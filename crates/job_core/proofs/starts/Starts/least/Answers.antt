use Rattle.std.proofs.Common.{ℕ, Some, refl, ap, inl, inr, ◌∙◌, subst, arith}
use Rattle.slab.specs.Slab.{get, entries}
use Rattle.slab.proofs.SlabLemmas.{Contains-cons, Contains-cons_cases, Contains-entries}
use Rattle.job_core.specs.Starts.{Starts, lesser_of}
use Rattle.job_core.proofs.Begun.{IsAtMost, none_left, lesser_own, lesser_others, lesser_there, least_found}
use Rattle.job_core.proofs.starts.Starts.least.Goals as goal

pub stamps-init : goal.stamps-init
stamps-init c =
    let left = c.into_iter-stamp-iterator.ensures.into_iter_gives ∙ c.iter-stamp-items.ensures.rest ∙ ap (λ (s : Starts). entries s.stamps) c.self.view_is in (
      tt,
      tt,
      λ place stamp there. inr (rw left ((Contains-entries c.args.self.now.stamps place stamp).1 there)),
      λ place stamp listed. (Contains-entries c.args.self.now.stamps place stamp).0 (rw left at listed),
      λ stamp never. absurd (cc),
    )

pub stamps-preserved : goal.stamps-preserved
stamps-preserved c =
    let at = c.in-Some.ensures.steps in
    let least = c.lesser.ensures in (
      tt,
      tt,
      λ place stamp there. elim (c.stamps.invariant.2 place stamp there) [
        | inl most ↦ inl (rw least (lesser_others c.stamps.least c.in-Some.stamp.now stamp most))
        | inr left ↦ elim (Contains-cons_cases _ _ _ (rw at at left)) [
          | inl same ↦ inl (rw least (subst (λ (n : ℕ). IsAtMost (Some (lesser_of c.stamps.least c.in-Some.stamp.now)) n) (ap (λ (e : ℕ × ℕ). e.1) same) (lesser_own c.stamps.least c.in-Some.stamp.now)))
          | inr rest ↦ inr rest
        ]
      ],
      λ place stamp listed. c.stamps.invariant.3 place stamp (rw at (Contains-cons _ _ _ listed)),
      λ stamp is. lesser_there (get c.args.self.now.stamps) c.stamps.least c.in-Some.stamp.now c.in-Some.field-0-0 c.lesser.result stamp least c.stamps.invariant.4 (c.stamps.invariant.3 c.in-Some.field-0-0 c.in-Some.stamp.now (rw at (0, omega arith, refl))) is,
    )

pub returns : goal.returns
returns c = least_found c.args.self.now c.stamps.least (λ place stamp there. elim (c.stamps.invariant.2 place stamp there) [
  | inl most ↦ most
  | inr left ↦ absurd (none_left _ (place, stamp) c.in-None.ensures.steps.0 left)
]) c.stamps.invariant.4
