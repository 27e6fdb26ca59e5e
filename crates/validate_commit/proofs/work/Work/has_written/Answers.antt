use Rattle.std.proofs.Common.{◌≡◌, sym, ap, ◌∙◌}
use Rattle.std.specs.FinMap as finmap
use Rattle.validate_commit.specs.Working.{Working}
use Rattle.validate_commit.proofs.Writes.{none_from_start}
use Rattle.validate_commit.proofs.work.Work.has_written.Goals as goal

pub returns-in-None : goal.returns-in-None
returns-in-None c =
    let written : c.args.self.now.layer.written ≡ finmap.empty =
    ap (λ (w : Working). w.layer.written) (sym c.self.view_is) ∙ sym c.written.ensures ∙ none_from_start c.written.result.now c.in-None.ensures in
    record { none = λ no i. record { written = written i; killed = c.has_killed.ensures.none no i } }
