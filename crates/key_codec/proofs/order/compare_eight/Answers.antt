use Rattle.std.proofs.Common.{◌∙◌}
use Rattle.std.specs.Ordering.{nat_cmp}
use Rattle.key_codec.proofs.Spelled.{eight, are_bytes}
use Rattle.key_codec.proofs.order.compare_eight.Goals as goal

pub returns : goal.returns
returns c =
    c.cmp.ensures ∙ (λ i. nat_cmp (c.from_be_bytes.ensures i) (c.from_be_bytes-2.ensures i))
    ∙ eight c.args.first.now c.args.second.now c.told-first c.told-second (are_bytes c.args.first.now c.fits-first) (are_bytes c.args.second.now c.fits-second)
