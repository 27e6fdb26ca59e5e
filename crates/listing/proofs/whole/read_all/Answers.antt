use Rattle.listing.proofs.Reading.{ended}
use Rattle.listing.proofs.whole.read_all.Goals as goal

pub returns-then-n-eq0-clause-all : goal.returns-then-n-eq0-clause-all
returns-then-n-eq0-clause-all g c = ended _ _ _ c.pieces.text.items c.read_some.new.piece c.in_ok-n.n c.pieces.invariant.read c.in_ok-n.ensures.bytes c.if-n-eq0.true (c.in_ok-n.ensures.end c.if-n-eq0.true)
