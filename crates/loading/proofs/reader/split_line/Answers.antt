use Rattle.std.proofs.Common.{List, ℕ, ap, ◌∙◌, ◌+◌}
use Rattle.std.specs.Io.BufRead.{strip_last}
use Rattle.listing.specs.laws.Bytes.{rest_of}
use Rattle.loading.proofs.Cut.{first_ended, first_unended, none_left}
use Rattle.loading.proofs.reader.split_line.Goals as goal

pub returns-in-Some-clause-first : goal.returns-in-Some-clause-first
returns-in-Some-clause-first c =
    let line-is = c.strip_return.ensures ∙ ap (λ (t : List ℕ). strip_last 13 t) c.split_at.ensures.front in
    rw (rest_of c.args.text.now (c.in-Some.end + 1)) (first_ended c.args.text.now c.strip_return.result.now c.in-Some.end c.in-Some.ensures line-is)

pub returns-in-None-clause-first : goal.returns-in-None-clause-first
returns-in-None-clause-first c = rw (none_left c.args.text.now) (first_unended c.args.text.now c.in-None.ensures)
