use Rattle.key_codec.proofs.Reading.{IsParted, split_some, split_none}
use Rattle.key_codec.proofs.read.split_at_end.Goals as goal

pub returns-in-Some-clause-some : goal.returns-in-Some-clause-some
returns-in-Some-clause-some c =
    let parted : IsParted c.args.end c.in-Some.index c.args.bytes.now = split_some c.args.end c.in-Some.index c.args.bytes.now c.in-Some.ensures in
    (parted.free, parted.parts)

pub returns-in-None-clause-none : goal.returns-in-None-clause-none
returns-in-None-clause-none c = λ xs u e. split_none c.args.end c.args.bytes.now xs u c.in-None.ensures e
