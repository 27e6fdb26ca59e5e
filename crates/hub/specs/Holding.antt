-- What a session that holds what all share for reading knows of it.
use Rattle.std.specs.Prelude.{◌≡◌, ◌≤◌}
use Rattle.job_core.specs.Common.{Common}
use Rattle.job_core.specs.Sessions.{IsOpenOn}
use Rattle.shared_engine.specs.Sessions.{Held, IsJournalOf}

-- the session has seen the whole journal, which goes on from its own units; and where a transaction is open the content of its start is there
pub record IsHeldBy (common : Common) (s : Held) : Type 0 where
  pub seen : s.seen ≡ common.units
  pub journal : IsJournalOf common.units s
  pub kept : 1 ≤ s.state.level → IsOpenOn common s.state
