use Rattle.std.proofs.Common.{◌∙◌, sym}
use Rattle.m_text.specs.Written.{ends_run}
use Rattle.m_text.proofs.Ends.{ends_at, ends_nowhere}
use Rattle.m_text.proofs.Runs.{cut_run}
use Rattle.m_text.proofs.write.split_run.Goals as goal

pub returns-in-Some-clause-runs : goal.returns-in-Some-clause-runs
returns-in-Some-clause-runs c =
    let n = ends_at (ends_run c.is_plain-plain.result) c.args.text.now c.in-Some.n (sym c.run_end.ensures ∙ c.in-Some.is) in
    cut_run c.args.text.now c.split_at.result.0.now c.split_at.result.1.now c.in-Some.n c.is_plain-plain.result c.requires c.is_plain-plain.ensures n.0 c.split_at.ensures.front c.split_at.ensures.back

pub returns-in-None-clause-runs : goal.returns-in-None-clause-runs
returns-in-None-clause-runs c =
    let n = ends_nowhere (ends_run c.is_plain-plain.result) c.args.text.now (sym c.run_end.ensures ∙ c.in-None.is) in
    cut_run c.args.text.now c.split_at-in-None.result.0.now c.split_at-in-None.result.1.now _ c.is_plain-plain.result c.requires c.is_plain-plain.ensures (sym n) c.split_at-in-None.ensures.front c.split_at-in-None.ensures.back
