use Rattle.std.proofs.Common.{◌<◌, ◌∙◌, sym, subst}
use Rattle.version_chain.proofs.ChainLemmas.{moved_off, after_off, theirs_moved, from_here, same_front}
use Rattle.version_chain.proofs.cut.split.Goals as goal

pub returns-then-as_parts-horizon-clause-theirs : goal.returns-then-as_parts-horizon-clause-theirs
returns-then-as_parts-horizon-clause-theirs g c = λ qs h. let both = c.loop-here.invariant.2 qs h in (both.0, from_here c.loop-here.here c.in-Some.cell qs c.in-Some.is both.1)

pub loop-here-preserved : goal.loop-here-preserved
loop-here-preserved g c =
    let front = same_front c.get.result.now c.take-version.result.0 _ _ _ _ (c.get.ensures ∙ sym c.take-version.ensures.0) c.as_parts.ensures c.parts-stamp.ensures.versions in (
      moved_off c.loop-here.here c.in-Some.cell c.take-version.result.0 c.new.result c.loop-here.kept c.parts-stamp.result.2 c.fill.result (c.parts-stamp.result.0, c.parts-stamp.result.1) c.in-Some.is c.take-version.ensures.0 c.fill.ensures.2 c.parts-stamp.ensures.versions c.new.ensures.versions _ c.loop-here.invariant.0,
      after_off c.loop-here.here c.in-Some.cell c.take-version.result.0 c.new.result c.loop-here.kept c.parts-stamp.result.2 c.fill.result (c.parts-stamp.result.0, c.parts-stamp.result.1) c.in-Some.is c.take-version.ensures.0 c.fill.ensures.2 c.parts-stamp.ensures.versions c.new.ensures.versions c.args.horizon (subst (λ k. c.args.horizon < k.0) front c.if-as_parts-horizon.false) c.loop-here.invariant.1,
      λ qs h. let both = c.loop-here.invariant.2 qs h in let r = theirs_moved c.loop-here.here c.in-Some.cell c.take-version.result.0 c.new.result c.loop-here.kept c.parts-stamp.result.2 c.fill.result (c.parts-stamp.result.0, c.parts-stamp.result.1) c.in-Some.is c.take-version.ensures.0 c.fill.ensures.2 c.parts-stamp.ensures.versions c.new.ensures.versions c.take-version.result.1.page c.fill.ensures.1 c.take-version.ensures.2 c.parts-stamp.ensures.pages c.new.ensures.pages qs both.1 both.0 in (r.1, r.0),
    )

pub returns-clause-theirs : goal.returns-clause-theirs
returns-clause-theirs g c = λ qs h. ((c.loop-here.invariant.2 qs h).0, tt)
