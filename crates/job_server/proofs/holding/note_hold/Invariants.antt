use Rattle.std.proofs.Common.{◌≡◌, ◌++◌, drop}
use Rattle.job_scripts.specs.Blocks.{in_place}
use Rattle.job_server.proofs.holding.note_hold.Given as goal

-- with what is left it will be the whole
abbrev pub invariant-places : goal.invariant-places
invariant-places l = l.replies.replies ++ in_place (drop l.place-index l.hold.places) l.served ≡ l.fn.replies.replies ++ in_place l.hold.places l.hold.served
