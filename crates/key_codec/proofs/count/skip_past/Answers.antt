use Rattle.std.proofs.Common.{sym, ◌∙◌}
use Rattle.key_codec.proofs.Reading.{AreSame, one_split}
use Rattle.key_codec.proofs.count.skip_past.Goals as goal

pub returns-clause-behind : goal.returns-clause-behind
returns-clause-behind c = λ xs u free e.
    let parted = c.in_ok-rest.ensures.some in
    let same : AreSame c.in_ok-rest.field-0-0.now xs c.in_ok-rest.rest.now u = one_split c.args.end c.in_ok-rest.field-0-0.now xs c.in_ok-rest.rest.now u parted.0 free (sym parted.1 ∙ e) in
    same.rest
