use Rattle.version_chain.proofs.ChainLemmas.{moved_back, theirs_moved}
use Rattle.version_chain.proofs.cut.put_back.Goals as goal

pub loop-kept-preserved : goal.loop-kept-preserved
loop-kept-preserved g c = (
  moved_back c.loop-kept.kept c.in-Some.cell c.take-version.result.0 c.new.result c.loop-kept.here c.parts-stamp.result.2 c.fill.result (c.parts-stamp.result.0, c.parts-stamp.result.1) c.in-Some.is c.take-version.ensures.0 c.fill.ensures.2 c.parts-stamp.ensures.versions c.new.ensures.versions _ c.loop-kept.invariant.0,
  λ qs h k. theirs_moved c.loop-kept.kept c.in-Some.cell c.take-version.result.0 c.new.result c.loop-kept.here c.parts-stamp.result.2 c.fill.result (c.parts-stamp.result.0, c.parts-stamp.result.1) c.in-Some.is c.take-version.ensures.0 c.fill.ensures.2 c.parts-stamp.ensures.versions c.new.ensures.versions c.take-version.result.1.page c.fill.ensures.1 c.take-version.ensures.2 c.parts-stamp.ensures.pages c.new.ensures.pages qs (c.loop-kept.invariant.1 qs h k).0 (c.loop-kept.invariant.1 qs h k).1,
)

pub returns-clause-theirs : goal.returns-clause-theirs
returns-clause-theirs g c = λ qs h k. (c.loop-kept.invariant.1 qs h k).1
