use Rattle.std.proofs.Common.{◌∷◌, Some, None, sym, ap, ◌∙◌, subst, arith, length}
use Rattle.version_chain.specs.Versions.{at_of, IsAbove, IsFalling, cells_of}
use Rattle.version_chain.specs.Links.{line_versions}
use Rattle.version_chain.specs.Chains.{versions_at, listed}
use Rattle.version_chain.specs.Tidy.{IsTidy}
use Rattle.version_chain.proofs.Tidiness.{state_of, tidy_line, tidy_wider, tidy_new}
use Rattle.version_chain.specs.laws.Versions.{at_of-before}
use Rattle.version_chain.proofs.ChainsLemmas.{line_at, line_changed, put_back, versions_there, Updates-line}
use Rattle.version_chain.proofs.chains.Chains.push_reserved.Goals as goal

pub invariant_of-self : goal.invariant_of-self
invariant_of-self g c =
    let line = line_at c.self.inside.pool.pages c.self.inside.pool.out c.self.inside.lines c.id.inside.number c.replace-line.result c.replace-line.ensures.value c.self.invariant.0 in
    let there = versions_there c.self.inside.lines c.id.inside.number c.replace-line.result c.replace-line.ensures.value c.args.self.now c.self.inside.pool.spare c.self.view_is in
    let made = put_back c.self.inside.lines c.replace-line.new.self c.put.new.lines c.id.inside.number (Some None) (Some c.push-line.result) c.replace-line.ensures.slots c.put.ensures in
    let since = c.max-self-inside.result in
    let latest = c.max-self-inside-2.result in (
      line_changed c.self.inside.lines c.put.new.lines c.id.inside.number (Some c.push-line.result) c.replace-line.result c.replace-line.ensures.value
          (put_back c.self.inside.lines c.replace-line.new.self c.put.new.lines c.id.inside.number (Some None) (Some c.push-line.result) c.replace-line.ensures.slots c.put.ensures)
          c.self.inside.pool.pages c.push-line.new.pool.pages c.self.inside.pool.out c.push-line.new.pool.out c.self.invariant.0 c.push-line.ensures.counts.0
          (c.push-line.ensures.theirs line.0, subst IsFalling (sym c.push-line.ensures.entry) (subst (IsAbove c.args.stamp) (ap (versions_at c.args.self.now) (sym c.id.view_is) ∙ there) c.requires.newest, line.1))
          c.push-line.ensures.counts.1,
      tidy_line c.self.inside.horizon since latest c.self.inside.lines c.put.new.lines c.id.inside.number (Some c.push-line.result) c.replace-line.result c.replace-line.ensures.value made c.self.inside.pool.spare c.push-line.new.pool.spare
          (λ i. tidy_wider c.self.inside.horizon c.self.inside.since c.self.inside.latest since latest (versions_at (state_of c.self.inside.lines c.self.inside.pool.spare) i) (omega (arith, c.max-self-inside.ensures)) (omega (arith, c.max-self-inside-2.ensures)) (c.self.invariant.1 i))
          (subst (IsTidy c.self.inside.horizon since latest) (sym c.push-line.ensures.entry)
          (tidy_new c.self.inside.horizon since latest c.args.stamp c.args.value (line_versions c.replace-line.result) (omega (arith, c.max-self-inside.ensures)) (omega (arith, c.max-self-inside-2.ensures)))),
      omega (arith, c.self.invariant.2, c.max-self-inside.ensures),
    )

pub returns-clause-chains : goal.returns-clause-chains
returns-clause-chains g c =
    let there = versions_there c.self.inside.lines c.id.inside.number c.replace-line.result c.replace-line.ensures.value c.args.self.now c.self.inside.pool.spare c.self.view_is in
    rw (← c.id.view_is) (Updates-line c.self.inside.lines c.put.new.lines c.id.inside.number (Some c.push-line.result) c.replace-line.result c.replace-line.ensures.value
    (put_back c.self.inside.lines c.replace-line.new.self c.put.new.lines c.id.inside.number (Some None) (Some c.push-line.result) c.replace-line.ensures.slots c.put.ensures)
    c.args.self.now c.self.inside.pool.spare c.push-line.new.pool.spare c.self.view_is (Some ((c.args.stamp, c.args.value) ∷ versions_at c.args.self.now c.id.inside.number))
    (ap Some (c.push-line.ensures.entry ∙ ap (λ vs. (c.args.stamp, c.args.value) ∷ vs) (sym there))))

pub returns-clause-content : goal.returns-clause-content
returns-clause-content g c =
    λ before early. ap (λ chain. at_of before (listed chain)) (returns-clause-chains g c).changed
    ∙ at_of-before before c.args.stamp c.args.value (versions_at c.args.self.now c.args.id) early

pub returns-clause-spare : goal.returns-clause-spare
returns-clause-spare g c =
    let there = ap (versions_at c.args.self.now) (sym c.id.view_is) ∙ versions_there c.self.inside.lines c.id.inside.number c.replace-line.result c.replace-line.ensures.value c.args.self.now c.self.inside.pool.spare c.self.view_is in
    let now = ap (λ chain. cells_of (listed chain)) (returns-clause-chains g c).changed in
    let was = ap cells_of there in let more = ap cells_of c.push-line.ensures.entry in let all = ap length there in
    let spare = ap (λ s. s.spare) c.self.view_is in
    omega (arith, now, was, more, all, spare, c.push-line.ensures.counts.1, c.push-line.ensures.counts.2)
