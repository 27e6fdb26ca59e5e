use Rattle.std.proofs.Common.{◌≡◌, List, ℕ, ap, subst, sym, ◌∙◌}
use Rattle.job_core.specs.Common.{Common, common_of}
use Rattle.job_core.specs.Lent.{HasJustGot}
use Rattle.job_core.proofs.ByReference.{bytes_end}
use Rattle.job_core.proofs.kernel.Core.value_got.Goals as goal

pub returns : goal.returns
returns c = λ value got size.
    let here : HasJustGot value c.self.inside.journal.base c.self.inside.journal.units = subst (λ (k : Common). HasJustGot value k.base k.units) (sym c.self.view_is) got in
    let parts = bytes_end value c.self.inside.journal.base c.self.inside.journal.units here in
    c.last_of.ensures parts.0 value (c.as_slice.ensures.bytes ∙ parts.1) size
