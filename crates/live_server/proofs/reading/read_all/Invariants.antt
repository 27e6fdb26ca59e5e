use Rattle.std.specs.Io.KnownBytes.{Consumes}
use Rattle.rtrb.specs.Ring.{sent, SameProducer}
use Rattle.live_server.proofs.reading.read_all.Given as goal

-- what was read so far was put in
abbrev pub invariant-pieces : goal.invariant-pieces
invariant-pieces g l = SameProducer l.fn.ring l.ring × Consumes (g.I.Read.remaining l.fn.reader) (g.I.Read.remaining l.reader) (sent l.ring)
