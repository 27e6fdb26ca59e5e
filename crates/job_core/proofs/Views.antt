-- The content at the start of a job's transaction is the view that the machine has of it.
use Rattle.std.proofs.Common.{◌≡◌, ◌≤◌, ℕ, length, sym, ap, ◌∙◌, arith}
use Rattle.std.specs.Prelude.{Option, Some, None, IfSome, IsSome, option_map}
use Rattle.std.specs.FinMap as finmap
use Rattle.collation.specs.Database.{Database}
use Rattle.journal.specs.Story.{Transaction}
use Rattle.serial.specs.Machine.{state_at}
use Rattle.job_core.specs.declared.engine.Engine.{Engine}
use Rattle.job_core.specs.Sessions.{Session, shown}
use Rattle.job_core.specs.Joined.{IsWhole, machine_shown}
use Rattle.job_core.specs.Views.{view_of}
use Rattle.job_core.proofs.Cases.{shows}

-- what the view is, by the job's session
view_shown : (e : Engine) (job : ℕ) (o : Option Session) → finmap.get e.sessions job ≡ o → view_of job (machine_shown e) ≡ option_map (λ (t : Transaction). (state_at t.start e.core.units).map) (option_map shown o)
view_shown e job o is = ap (option_map (λ (t : Transaction). (state_at t.start e.core.units).map)) (shows e job o is)

pub begun_there : (e : Engine) (job : ℕ) (s : Session) → IsWhole e → finmap.get e.sessions job ≡ Some s → s.work.start ≤ length e.core.units
begun_there e job s whole there = let o = whole.opened job s there in o.begun

-- the database that is lent
lent : (cut stamp : ℕ) (m : Database) (o : Option Database) → cut ≤ stamp → IfSome o (λ v. v ≡ m) → (cut ≤ stamp → IsSome o) → o ≡ Some m
lent cut stamp m None kept is there = let never = there kept in absurd (cc)
lent cut stamp m (Some v) kept is there = ap Some is

pub view_found : (e : Engine) (job stamp : ℕ) (s : Session) (o : Option Database) → IsWhole e → finmap.get e.sessions job ≡ Some s → stamp ≡ s.work.start → IfSome o (λ v. v ≡ (state_at stamp e.core.units).map) → (e.core.store.cut ≤ stamp → IsSome o) → o ≡ view_of job (machine_shown e)
view_found e job stamp s o whole there start is kept =
    let opened = whole.opened job s there in
    lent e.core.store.cut stamp (state_at stamp e.core.units).map o (omega (arith, opened.kept, start)) is kept
    ∙ ap (λ (n : ℕ). Some (state_at n e.core.units).map) start ∙ sym (view_shown e job (Some s) there)

pub view_nowhere : (e : Engine) (job : ℕ) → finmap.get e.sessions job ≡ None → None ≡ view_of job (machine_shown e)
view_nowhere e job none = sym (view_shown e job None none)
