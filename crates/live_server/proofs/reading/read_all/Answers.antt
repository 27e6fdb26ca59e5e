use Rattle.std.proofs.Common.{ℕ, List, sym, subst}
use Rattle.std.proofs.KnownBytes.{Consumes-trans}
use Rattle.std.specs.Io.KnownBytes.{Consumes}
use Rattle.live_server.proofs.Relays.{ring_then}
use Rattle.live_server.proofs.reading.read_all.Goals as goal

pub pieces-preserved : goal.pieces-preserved
pieces-preserved g c = (
  ring_then c.args.ring.now c.pieces.ring c.push_all.new.ring c.pieces.invariant.0 c.push_all.ensures.ring,
  subst (λ (l : List ℕ). Consumes (g.I.Read.remaining c.args.reader.now) (g.I.Read.remaining c.read.new.self) l) (sym c.in_ok-push_all.ensures.all) (Consumes-trans _ _ _ _ _ c.pieces.invariant.1 c.in-Ok.ensures.bytes.0),
)
