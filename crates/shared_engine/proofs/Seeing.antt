-- What a session has seen after a step.
use Rattle.std.proofs.Common.{◌≡◌, Bool, true, false, List, [], ◌∷◌, ◌++◌, refl, sym, subst}
use Rattle.std.specs.Prelude.{if◌then◌else◌}
use Rattle.journal.specs.declared.unit.Unit.{Unit as JournalUnit}
use Rattle.journal.specs.declared.unit.Unit.TheVariants.{Back}
use Rattle.job_core.specs.Sessions.{Session as JobSession}
use Rattle.pin_board.specs.Slips.{IsBeginning}
use Rattle.shared_engine.specs.Sessions.{Held, went_back}
use Rattle.shared_engine.specs.Engines.{gone_back}
use Rattle.shared_engine.specs.laws.Prefixes.{begins_longer}

-- a transaction goes back on a journal that goes on from what the session had seen
pub anew_goes_on : (s : Held) (units more : List JournalUnit) → more ≡ gone_back s.state units → (s.state.took_lock ≡ true → IsBeginning units s.seen) → IsBeginning more (went_back more s).seen → IsBeginning more s.seen
anew_goes_on s units more is took now = by_took s.state.took_lock refl is now
  where
    by_took : (b : Bool) → s.state.took_lock ≡ b → more ≡ (if b then units ++ Back s.state.work.job ∷ [] else units) → IsBeginning more (if b then more else s.seen) → IsBeginning more s.seen
    by_took true e there here = subst (λ (us : List JournalUnit). IsBeginning us s.seen) (sym there) (begins_longer units (Back s.state.work.job ∷ []) s.seen (took e))
    by_took false e there here = here

pub back_goes_on : (s : JobSession) (units more seen : List JournalUnit) → more ≡ gone_back s units → (s.took_lock ≡ true → IsBeginning units seen) → IsBeginning more seen → IsBeginning units seen
back_goes_on s units more seen is took now = by_took s.took_lock refl is
  where
    by_took : (b : Bool) → s.took_lock ≡ b → more ≡ (if b then units ++ Back s.work.job ∷ [] else units) → IsBeginning units seen
    by_took true e there = took e
    by_took false e there = subst (λ (us : List JournalUnit). IsBeginning us seen) there now
