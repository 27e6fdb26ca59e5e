use Rattle.std.proofs.lemmas.Result.{err_from_is_err_and}
use Rattle.m_text.specs.Place.{ref_fault}
use Rattle.script.proofs.Due.{due_first, due_second}
use Rattle.script.proofs.finish.merge.Goals as goal

pub returns-in_err-target : goal.returns-in_err-target
returns-in_err-target c = λ r s is other.
    let p = err_from_is_err_and c.from_residual.result c.from_residual.ensures.1 in
    rw (p.1, p.2) (due_first c.in_err-target.field-0.0 (ref_fault r) (ref_fault s) r _ (c.in_err-target.ensures r is))

pub returns-in_err-source : goal.returns-in_err-source
returns-in_err-source c = λ r s is other.
    let p = err_from_is_err_and c.from_residual-in_err-source.result c.from_residual-in_err-source.ensures.1 in
    rw (p.1, p.2) (due_second c.in_err-source.field-0.0 (ref_fault r) (ref_fault s) r _ s _ (c.in_ok-target.ensures r is) (c.in_err-source.ensures s other))
