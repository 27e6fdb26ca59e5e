use Rattle.std.proofs.Common.{refl, inl, inr}
use Rattle.listing.specs.laws.Bytes.{on_err}
use Rattle.job_server.proofs.Faulting.{on_fault, writing_is, writing_unread}
use Rattle.job_server.proofs.Outputs.{made, begun}
use Rattle.job_server.proofs.Reading.{passed_on}
use Rattle.job_server.proofs.run.run_text.Goals as goal

pub returns-in_err-write_served-clause-begun : goal.returns-in_err-write_served-clause-begun
returns-in_err-write_served-clause-begun g c = on_err _ _ (begun c.args.listing.now c.args.listed c.args.text.items _ _ _ _ (made c.args.listing.now c.args.listed _ _ c.args.text.items _ c.in_ok-served.ensures.served refl) c.in_err-write_served.ensures.err)

pub returns-in_err-served-clause-counted : goal.returns-in_err-served-clause-counted
returns-in_err-served-clause-counted g c = λ w. absurd (c.in_err-served.ensures.unwritten (passed_on _ _ _ c.from_residual.ensures.1 w))

pub returns-clause-output : goal.returns-clause-output
returns-clause-output g c = record {
  output = _;
  is_output = made c.args.listing.now c.args.listed _ _ c.args.text.items _ c.in_ok-served.ensures.served c.refused.ensures;
  written = c.in_ok-write_served.ensures.ok;
}

pub returns-in_err-served-clause-unloaded : goal.returns-in_err-served-clause-unloaded
returns-in_err-served-clause-unloaded g c = on_fault _ _ _ c.from_residual.ensures.1 c.in_err-served.ensures.unloaded

pub returns-in_err-served-clause-nothing : goal.returns-in_err-served-clause-nothing
returns-in_err-served-clause-nothing g c = on_fault _ _ _ c.from_residual.ensures.1 (inr refl)

pub returns-in_err-write_served-clause-unloaded : goal.returns-in_err-write_served-clause-unloaded
returns-in_err-write_served-clause-unloaded g c = on_fault _ _ _ c.from_residual-in_err-write_served.ensures.1 (writing_is c.args.listing.now c.in_err-write_served.field-0.0 c.in_err-write_served.ensures.kind)

pub returns-in_err-write_served-clause-nothing : goal.returns-in_err-write_served-clause-nothing
returns-in_err-write_served-clause-nothing g c = on_fault _ _ _ c.from_residual-in_err-write_served.ensures.1 (inl c.in_err-write_served.ensures.kind)

pub returns-in_err-served-clause-unread : goal.returns-in_err-served-clause-unread
returns-in_err-served-clause-unread g c = λ w. absurd (c.in_err-served.ensures.unread (passed_on _ _ _ c.from_residual.ensures.1 w))

pub returns-in_err-write_served-clause-unread : goal.returns-in_err-write_served-clause-unread
returns-in_err-write_served-clause-unread g c = writing_unread _ c.in_err-write_served.field-0.0 c.from_residual-in_err-write_served.ensures.1 c.in_err-write_served.ensures.kind

pub returns-in_err-served-clause-replies : goal.returns-in_err-served-clause-replies
returns-in_err-served-clause-replies g c = λ w. inl refl

pub returns-in_err-write_served-clause-replies : goal.returns-in_err-write_served-clause-replies
returns-in_err-write_served-clause-replies g c = λ w. inr (_, _, c.in_ok-served.ensures.served, c.in_err-write_served.ensures.replies (passed_on _ _ _ c.from_residual-in_err-write_served.ensures.1 w))
