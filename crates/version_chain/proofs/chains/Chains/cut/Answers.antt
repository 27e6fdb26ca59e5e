use Rattle.std.proofs.Common.{Some, None, sym, ap, ◌∙◌, subst, arith, length}
use Rattle.version_chain.specs.Versions.{at_of, IsFalling, cells_of}
use Rattle.version_chain.specs.Cut.{left_after}
use Rattle.version_chain.specs.Links.{line_versions}
use Rattle.version_chain.specs.Chains.{versions_at, listed}
use Rattle.version_chain.specs.Tidy.{IsTidy}
use Rattle.version_chain.proofs.Tidiness.{tidy_line, tidy_there, tidy_cut}
use Rattle.version_chain.specs.laws.Cut.{left_after-cut_of, at_of-left_after, IsFalling-cut_of, cells_of-fewer}
use Rattle.version_chain.proofs.ChainsLemmas.{line_at, line_changed, put_back, versions_there, Updates-line}
use Rattle.version_chain.proofs.chains.Chains.cut.Goals as goal

pub cut_since-line-requires-clause-theirs : goal.cut_since-line-requires-clause-theirs
cut_since-line-requires-clause-theirs g c = (line_at c.self.inside.pool.pages c.self.inside.pool.out c.self.inside.lines c.id.inside.number c.replace-line.result c.replace-line.ensures.value c.self.invariant.0).0

pub invariant_of-self : goal.invariant_of-self
invariant_of-self g c =
    let falls = (line_at c.self.inside.pool.pages c.self.inside.pool.out c.self.inside.lines c.id.inside.number c.replace-line.result c.replace-line.ensures.value c.self.invariant.0).1 in
    let made = put_back c.self.inside.lines c.replace-line.new.self c.put.new.lines c.id.inside.number (Some None) (Some c.cut_since-line.result.0) c.replace-line.ensures.slots c.put.ensures in
    let was = tidy_there c.self.inside.horizon c.self.inside.since c.self.inside.latest c.self.inside.lines c.id.inside.number c.replace-line.result c.replace-line.ensures.value c.self.inside.pool.spare c.self.invariant.1 in (
      line_changed c.self.inside.lines c.put.new.lines c.id.inside.number (Some c.cut_since-line.result.0) c.replace-line.result c.replace-line.ensures.value
          (put_back c.self.inside.lines c.replace-line.new.self c.put.new.lines c.id.inside.number (Some None) (Some c.cut_since-line.result.0) c.replace-line.ensures.slots c.put.ensures)
          c.self.inside.pool.pages c.cut_since-line.new.pool.pages c.self.inside.pool.out c.cut_since-line.new.pool.out c.self.invariant.0 c.cut_since-line.ensures.counts.0
          (c.cut_since-line.ensures.theirs, subst IsFalling (sym c.cut_since-line.ensures.left) (IsFalling-cut_of c.args.horizon (line_versions c.replace-line.result) falls))
          c.cut_since-line.ensures.counts.1,
      tidy_line c.self.inside.horizon c.self.inside.since c.self.inside.latest c.self.inside.lines c.put.new.lines c.id.inside.number (Some c.cut_since-line.result.0) c.replace-line.result c.replace-line.ensures.value made c.self.inside.pool.spare c.cut_since-line.new.pool.spare c.self.invariant.1
          (subst (IsTidy c.self.inside.horizon c.self.inside.since c.self.inside.latest) (left_after-cut_of c.args.horizon (line_versions c.replace-line.result) ∙ sym c.cut_since-line.ensures.left) (tidy_cut c.args.horizon c.self.inside.horizon c.self.inside.since c.self.inside.latest (line_versions c.replace-line.result) was)),
      c.self.invariant.2,
    )

pub returns-clause-chains : goal.returns-clause-chains
returns-clause-chains g c =
    let there = versions_there c.self.inside.lines c.id.inside.number c.replace-line.result c.replace-line.ensures.value c.args.self.now c.self.inside.pool.spare c.self.view_is in
    rw (← c.id.view_is) (Updates-line c.self.inside.lines c.put.new.lines c.id.inside.number (Some c.cut_since-line.result.0) c.replace-line.result c.replace-line.ensures.value
    (put_back c.self.inside.lines c.replace-line.new.self c.put.new.lines c.id.inside.number (Some None) (Some c.cut_since-line.result.0) c.replace-line.ensures.slots c.put.ensures)
    c.args.self.now c.self.inside.pool.spare c.cut_since-line.new.pool.spare c.self.view_is (Some (left_after c.args.horizon (versions_at c.args.self.now c.id.inside.number)))
    (ap Some (c.cut_since-line.ensures.left ∙ sym (left_after-cut_of c.args.horizon (line_versions c.replace-line.result)) ∙ ap (left_after c.args.horizon) (sym there))))

pub returns-clause-count : goal.returns-clause-count
returns-clause-count g c =
    let there = ap (versions_at c.args.self.now) (sym c.id.view_is) ∙ versions_there c.self.inside.lines c.id.inside.number c.replace-line.result c.replace-line.ensures.value c.args.self.now c.self.inside.pool.spare c.self.view_is in
    let now = ap listed (returns-clause-chains g c).changed ∙ ap (left_after c.args.horizon) there ∙ left_after-cut_of c.args.horizon (line_versions c.replace-line.result) ∙ sym c.cut_since-line.ensures.left in
    let a = ap length now in let b = ap length there in omega (arith, a, b, c.cut_since-line.ensures.count)

pub returns-clause-content : goal.returns-clause-content
returns-clause-content g c =
    λ stamp from. ap (λ chain. at_of stamp (listed chain)) (returns-clause-chains g c).changed
    ∙ at_of-left_after c.args.horizon stamp (versions_at c.args.self.now c.args.id) from

pub returns-clause-spare : goal.returns-clause-spare
returns-clause-spare g c =
    let there = ap (versions_at c.args.self.now) (sym c.id.view_is) ∙ versions_there c.self.inside.lines c.id.inside.number c.replace-line.result c.replace-line.ensures.value c.args.self.now c.self.inside.pool.spare c.self.view_is in
    let now = ap listed (returns-clause-chains g c).changed ∙ ap (left_after c.args.horizon) there ∙ left_after-cut_of c.args.horizon (line_versions c.replace-line.result) ∙ sym c.cut_since-line.ensures.left in
    let new = ap cells_of now in let was = ap cells_of there in
    let spare = ap (λ s. s.spare) c.self.view_is in
    omega (arith, new, was, spare, c.cut_since-line.ensures.counts.1, c.cut_since-line.ensures.counts.2)

pub returns-clause-least : goal.returns-clause-least
returns-clause-least g c =
    let fewer = cells_of-fewer (versions_at c.args.self.now c.args.id) _ c.cut_since-line.result.1 (returns-clause-count g c) in
    omega (arith, fewer, returns-clause-spare g c)
