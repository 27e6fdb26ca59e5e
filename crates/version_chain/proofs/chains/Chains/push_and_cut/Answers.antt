use Rattle.std.proofs.Common.{ℕ, ◌∷◌, Some, None, sym, ap, ◌∙◌, subst, arith}
use Rattle.std.specs.Prelude.{max}
use Rattle.version_chain.specs.Versions.{IsAbove, IsFalling, cells_of}
use Rattle.version_chain.specs.Cut.{left_after}
use Rattle.version_chain.specs.Links.{line_versions}
use Rattle.version_chain.specs.Chains.{versions_at, listed}
use Rattle.version_chain.specs.Tidy.{IsTidy}
use Rattle.version_chain.specs.laws.Cut.{left_after-cut_of, IsFalling-cut_of, cells_of-left_after}
use Rattle.version_chain.proofs.Tidiness.{state_of, tidy_line, tidy_there, tidy_wider, tidy_at, tidy_left}
use Rattle.version_chain.proofs.ChainsLemmas.{line_at, line_changed, put_back, versions_there, Updates-line}
use Rattle.version_chain.proofs.chains.Chains.push_and_cut.Goals as goal

pub push_and_cut-line-requires-clause-theirs : goal.push_and_cut-line-requires-clause-theirs
push_and_cut-line-requires-clause-theirs g c = (line_at c.self.inside.pool.pages c.self.inside.pool.out c.self.inside.lines c.id.inside.number c.replace-line.result c.replace-line.ensures.value c.self.invariant.0).0

pub invariant_of-self : goal.invariant_of-self
invariant_of-self g c =
    let line = line_at c.self.inside.pool.pages c.self.inside.pool.out c.self.inside.lines c.id.inside.number c.replace-line.result c.replace-line.ensures.value c.self.invariant.0 in
    let there = versions_there c.self.inside.lines c.id.inside.number c.replace-line.result c.replace-line.ensures.value c.args.self.now c.self.inside.pool.spare c.self.view_is in
    let above = subst (IsAbove c.args.stamp) (ap (versions_at c.args.self.now) (sym c.id.view_is) ∙ there) c.requires.newest in
    let made = put_back c.self.inside.lines c.replace-line.new.self c.put.new.lines c.id.inside.number (Some None) (Some c.push_and_cut-line.result) c.replace-line.ensures.slots c.put.ensures in
    let since = c.since_at-since.result in
    let latest = max c.self.inside.latest c.args.stamp in
    let was = tidy_there c.self.inside.horizon c.self.inside.since c.self.inside.latest c.self.inside.lines c.id.inside.number c.replace-line.result c.replace-line.ensures.value c.self.inside.pool.spare c.self.invariant.1 in (
      line_changed c.self.inside.lines c.put.new.lines c.id.inside.number (Some c.push_and_cut-line.result) c.replace-line.result c.replace-line.ensures.value made
          c.self.inside.pool.pages c.push_and_cut-line.new.pool.pages c.self.inside.pool.out c.push_and_cut-line.new.pool.out c.self.invariant.0 c.push_and_cut-line.ensures.counts.0 (
            c.push_and_cut-line.ensures.theirs,
            subst IsFalling (sym c.push_and_cut-line.ensures.left) (IsFalling-cut_of c.args.horizon ((c.args.stamp, c.args.value) ∷ line_versions c.replace-line.result) (above, line.1)),
          )
          c.push_and_cut-line.ensures.counts.1,
      subst (λ n. (i : ℕ) → IsTidy c.args.horizon since n (versions_at (state_of c.put.new.lines c.push_and_cut-line.new.pool.spare) i)) (sym c.max-self-inside.ensures)
          (tidy_line c.args.horizon since latest c.self.inside.lines c.put.new.lines c.id.inside.number (Some c.push_and_cut-line.result) c.replace-line.result c.replace-line.ensures.value made c.self.inside.pool.spare c.push_and_cut-line.new.pool.spare
          (λ i. tidy_wider c.args.horizon since c.self.inside.latest since latest (versions_at (state_of c.self.inside.lines c.self.inside.pool.spare) i) (omega arith) (omega arith)
          (subst (λ n. IsTidy c.args.horizon n c.self.inside.latest (versions_at (state_of c.self.inside.lines c.self.inside.pool.spare) i)) (sym c.since_at-since.ensures.value)
          (tidy_at c.args.horizon c.self.inside.horizon c.self.inside.since c.self.inside.latest (versions_at (state_of c.self.inside.lines c.self.inside.pool.spare) i) (c.self.invariant.1 i))))
          (subst (IsTidy c.args.horizon since latest) (left_after-cut_of c.args.horizon ((c.args.stamp, c.args.value) ∷ line_versions c.replace-line.result) ∙ sym c.push_and_cut-line.ensures.left)
          (tidy_left c.args.horizon since latest ((c.args.stamp, c.args.value) ∷ line_versions c.replace-line.result) (omega arith)))),
      c.since_at-since.ensures.low c.self.invariant.2,
    )

pub returns-clause-chains : goal.returns-clause-chains
returns-clause-chains g c =
    let there = versions_there c.self.inside.lines c.id.inside.number c.replace-line.result c.replace-line.ensures.value c.args.self.now c.self.inside.pool.spare c.self.view_is in
    rw (← c.id.view_is) (Updates-line c.self.inside.lines c.put.new.lines c.id.inside.number (Some c.push_and_cut-line.result) c.replace-line.result c.replace-line.ensures.value
    (put_back c.self.inside.lines c.replace-line.new.self c.put.new.lines c.id.inside.number (Some None) (Some c.push_and_cut-line.result) c.replace-line.ensures.slots c.put.ensures)
    c.args.self.now c.self.inside.pool.spare c.push_and_cut-line.new.pool.spare c.self.view_is (Some (left_after c.args.horizon ((c.args.stamp, c.args.value) ∷ versions_at c.args.self.now c.id.inside.number)))
    (ap Some (c.push_and_cut-line.ensures.left ∙ sym (left_after-cut_of c.args.horizon ((c.args.stamp, c.args.value) ∷ line_versions c.replace-line.result))
    ∙ ap (λ vs. left_after c.args.horizon ((c.args.stamp, c.args.value) ∷ vs)) (sym there))))

pub returns-clause-spare : goal.returns-clause-spare
returns-clause-spare g c =
    let there = ap (versions_at c.args.self.now) (sym c.id.view_is) ∙ versions_there c.self.inside.lines c.id.inside.number c.replace-line.result c.replace-line.ensures.value c.args.self.now c.self.inside.pool.spare c.self.view_is in
    let now = ap listed (returns-clause-chains g c).changed ∙ ap (λ vs. left_after c.args.horizon ((c.args.stamp, c.args.value) ∷ vs)) there
    ∙ left_after-cut_of c.args.horizon ((c.args.stamp, c.args.value) ∷ line_versions c.replace-line.result) ∙ sym c.push_and_cut-line.ensures.left in
    let new = ap cells_of now in let was = ap cells_of there in
    let spare = ap (λ s. s.spare) c.self.view_is in
    omega (arith, new, was, spare, c.push_and_cut-line.ensures.counts.1, c.push_and_cut-line.ensures.counts.2)

pub returns-clause-least : goal.returns-clause-least
returns-clause-least g c =
    let now = ap (λ chain. cells_of (listed chain)) (returns-clause-chains g c).changed in
    let fewer = cells_of-left_after c.args.horizon c.args.stamp c.args.value (versions_at c.args.self.now c.args.id) in
    omega (arith, now, fewer, returns-clause-spare g c)
