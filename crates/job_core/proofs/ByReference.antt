-- Data commands outside a transaction, of which key or place and value are lent.
use Rattle.std.proofs.Common.{◌≡◌, ◌≤◌, ◌+◌, ◌-◌, ◌*◌, ℕ, List, [], ◌∷◌, ◌++◌, length, drop, refl, sym, ap, subst, ◌∙◌, arith, length-append, append-nil, append_assoc, inl, inr}
use Rattle.std.specs.Prelude.{false, max, unwrap_or, is_some, Option, Some, None, IfSome, IfOk, IfErr, OnOk, OnErr, IsErrOf, Result, Ok, Err}
use Rattle.std.specs.List.{flat_map}
use Rattle.std.specs.Option.{option_map}
use Rattle.std.specs.FinMap as finmap
use Rattle.std.proofs.Math.Seq.{drop-append_seam}
use Rattle.std.proofs.lemmas.List.{drop-append-le}
use Rattle.std.proofs.lemmas.Grind.{flat_map-append}
use Rattle.refusal.specs.declared.Refusal.{Refusal}
use Rattle.collation.specs.Reference.{Reference}
use Rattle.collation.specs.Database.{Database}
use Rattle.lock_name.specs.Locks.{LockState}
use Rattle.command.specs.declared.access.DataCommand.{DataCommand}
use Rattle.command.specs.declared.access.DataCommand.TheVariants.{Set, Kill, Look}
use Rattle.command.specs.declared.access.Extent.TheVariants.{All}
use Rattle.command.specs.declared.access.Look.{Look as LookCommand}
use Rattle.command.specs.declared.access.Look.TheVariants.{Get, Order}
use Rattle.command.specs.declared.access.Answer.{Answer}
use Rattle.command.specs.declared.access.Answer.TheVariants.{Value}
use Rattle.command.specs.Data.{data_after, data_refusal}
use Rattle.globals.specs.Answering.{early_refusal}
use Rattle.journal.specs.declared.unit.Unit.{Unit as JournalUnit}
use Rattle.journal.specs.declared.unit.Unit.TheVariants.{Lone}
use Rattle.journal.specs.Format.{number_bytes, look_bytes, look_kind, unit_bytes}
use Rattle.journal.specs.Kept.{Claim, HasNoRoom, job_of}
use Rattle.journal.specs.History.{initial, after}
use Rattle.journal.specs.Story.{transaction_of}
use Rattle.read_ranges.specs.declared.range.ReadRange.{ReadRange}
use Rattle.stretches.specs.Empty.{AreEmpty}
use Rattle.version_store.specs.Versions.{Stored, content_now, versions_of, AddsNoneBare}
use Rattle.validate_commit.specs.Agreement.{Agreement}
use Rattle.validate_commit.specs.laws.Agreement.{agreed_now}
use Rattle.job_core.specs.Causes.{IsCauseOf}
use Rattle.job_core.specs.Common.{Common, IsCore, HasAdded, IsUnchanged}
use Rattle.job_core.specs.Lent.{HasJustGot}
use Rattle.job_core.specs.Sessions.{Session, Sessions, shown, machine_of}
use Rattle.job_core.proofs.Cores.{of_unit, core_unit, core_same}
use Rattle.job_core.proofs.KillCommands.{kill_cause}
use Rattle.job_core.proofs.Machines.{transaction_is}

-- ---- one unit, or a refusal

pub added_one : (result : Result Claim Refusal) (u : JournalUnit) (o : Option ℕ) (old new : Common) → OnOk result (new.units ≡ old.units ++ u ∷ []) → new.base ≡ old.base → new.ends ≡ old.ends → IfOk result (λ r. r ≡ record { job = job_of u; number = length new.units; unit = u })
    → OnOk result (new.store.cut ≡ max old.store.cut (unwrap_or o (length new.units))) → Agreement new.store new.units → AddsNoneBare old.store.versions new.store.versions → new.store.mark ≡ old.store.mark → IfOk result (λ r. HasAdded u r o old new)
added_one (Ok r) u o old new more base ends receipt cut agreed bare mark = record { units = more; base = base; ends = ends; receipt = receipt; cut = cut; agreed = agreed; bare = bare; mark = mark }
added_one (Err e) u o old new more base ends receipt cut agreed bare mark = tt

pub core_one : {A : Type 0} (result : Result A Refusal) (job : ℕ) (command : DataCommand) (answer : Answer) (store new : Stored) (units more : List JournalUnit) (base kept : ℕ) (table : LockState) (rs ss : List ReadRange) → IsCore store units base table rs → OnOk result (more ≡ units ++ Lone job command answer ∷ [])
    → OnErr result (more ≡ units) → kept ≡ base → Agreement new more → AreEmpty ss (after units initial).map → AreEmpty ss (data_after command (after units initial).map) → IsCore new more kept table ss
core_one (Ok r) job command answer store new units more base kept table rs ss is longer same base_same agreed before behind = core_unit store new units more base kept table table rs ss (Lone job command answer) is longer base_same agreed is.locks behind
core_one (Err e) job command answer store new units more base kept table rs ss is longer same base_same agreed before behind = core_same store new units more base kept table table rs ss is same base_same refl agreed before

-- a command that its own rule lets pass is refused for want of room alone
pub cause_one : {A : Type 0} (result : Result A Refusal) (command : DataCommand) (m : Database) (units : ℕ) → data_refusal command m ≡ None → IfErr result (λ refusal. HasNoRoom refusal 1 units) → IfErr result (λ refusal. IsCauseOf refusal command m units)
cause_one (Ok r) command m units accepted cause = tt
cause_one (Err e) command m units accepted cause = kill_cause e command m units accepted cause

pub unchanged_one : {A : Type 0} (result : Result A Refusal) (old new : Common) → OnErr result (new.units ≡ old.units) → new.base ≡ old.base → new.ends ≡ old.ends → OnErr result (new.store.cut ≡ old.store.cut) → new.store.mark ≡ old.store.mark
    → OnErr result ((x : Reference) → versions_of new.store.versions x ≡ versions_of old.store.versions x) → AddsNoneBare old.store.versions new.store.versions → OnErr result (IsUnchanged old new)
unchanged_one (Ok r) old new units base ends cut mark rows bare = tt
unchanged_one (Err e) old new units base ends cut mark rows bare = record { units = units; base = base; ends = ends; cut = cut; mark = mark; rows = rows; bare = bare }

-- a store that a refusal leaves as it was
pub unchanged_kept : {A : Type 0} (result : Result A Refusal) (old new : Common) → OnErr result (new.units ≡ old.units) → new.base ≡ old.base → new.ends ≡ old.ends → OnErr result (new.store ≡ old.store) → OnErr result (IsUnchanged old new)
unchanged_kept (Ok r) old new units base ends store = tt
unchanged_kept (Err e) old new units base ends store = record {
  units = units;
  base = base;
  ends = ends;
  cut = ap (λ (s : Stored). s.cut) store;
  mark = ap (λ (s : Stored). s.mark) store;
  rows = λ x. ap (λ (s : Stored). versions_of s.versions x) store;
  bare = subst (λ (s : Stored). AddsNoneBare old.store.versions s.versions) (sym store) (λ x bare. bare);
}

pub unchanged_same : (old new : Common) → new ≡ old → IsUnchanged old new
unchanged_same old new same = record {
  units = ap (λ (c : Common). c.units) same;
  base = ap (λ (c : Common). c.base) same;
  ends = ap (λ (c : Common). c.ends) same;
  cut = ap (λ (c : Common). c.store.cut) same;
  mark = ap (λ (c : Common). c.store.mark) same;
  rows = λ x. ap (λ (c : Common). versions_of c.store.versions x) same;
  bare = subst (λ (c : Common). AddsNoneBare old.store.versions c.store.versions) (sym same) (λ x bare. bare);
}

-- a unit that changes no reference was prepared, and pushed
pub added_quiet : (p : Option JournalUnit) (u : JournalUnit) (told : Claim) (o : Option ℕ) (old new : Common) (mid : List JournalUnit) → p ≡ Some u → mid ≡ old.units → IfSome p (λ v. new.units ≡ mid ++ v ∷ []) → new.base ≡ old.base → new.ends ≡ old.ends
    → IfSome p (λ v. told ≡ record { job = job_of v; number = length new.units; unit = v }) → new.store.cut ≡ max old.store.cut (unwrap_or o (length new.units)) → Agreement new.store new.units → new.store.versions ≡ old.store.versions → new.store.mark ≡ old.store.mark → HasAdded u told o old new
added_quiet p u told o old new mid is same more base ends receipt cut agreed versions mark = record {
  units = of_unit (λ v. new.units ≡ mid ++ v ∷ []) p u is more ∙ ap (λ us. us ++ u ∷ []) same;
  base = base;
  ends = ends;
  receipt = of_unit (λ v. told ≡ record { job = job_of v; number = length new.units; unit = v }) p u is receipt;
  cut = cut;
  agreed = agreed;
  bare = subst (AddsNoneBare old.store.versions) (sym versions) (λ x bare. bare);
  mark = mark;
}

-- none of these has a rule of its own
pub set_never_early : {A : Type 0} (key : Reference) (value : List ℕ) (told rule : Refusal) → early_refusal (Set key value) ≡ Some rule → IsErrOf {T = A} (Err told) rule
set_never_early key value told rule is = absurd (cc)

pub kill_never_early : {A : Type 0} (key : Reference) (told rule : Refusal) → early_refusal (Kill key All) ≡ Some rule → IsErrOf {T = A} (Err told) rule
kill_never_early key told rule is = absurd (cc)

pub get_never_early : {A : Type 0} (key : Reference) (told rule : Refusal) → early_refusal (Look (Get key None)) ≡ Some rule → IsErrOf {T = A} (Err told) rule
get_never_early key told rule is = absurd (cc)

-- ---- the newest unit

-- the unit of a command that looks ends with the value that it was answered
abbrev got_front : ℕ → LookCommand → List ℕ → List ℕ
got_front job look value = number_bytes job ++ ((4 * look_kind look + 1) ∷ (look_bytes look ++ number_bytes (length value)))

got_ends : (job : ℕ) (look : LookCommand) (value : List ℕ) → unit_bytes (Lone job (Look look) (Value value)) ≡ got_front job look value ++ value
got_ends job look value =
    ap (λ bs. number_bytes job ++ ((4 * look_kind look + 1) ∷ bs)) (sym (append_assoc (look_bytes look) (number_bytes (length value)) value))
    ∙ sym (append_assoc (number_bytes job) ((4 * look_kind look + 1) ∷ (look_bytes look ++ number_bytes (length value))) value)

pub just_got : (value : List ℕ) (told : Claim) (o : Option ℕ) (job : ℕ) (look : LookCommand) (old new : Common) → HasAdded (Lone job (Look look) (Value value)) told o old new → old.base ≤ length old.units → HasJustGot value new.base new.units
just_got value told o job look old new added within = record { before = old.units; job = job; look = look; newest = added.units; kept = omega (arith, added.base, within) }

-- so the bytes after the base end with it
pub bytes_end : (value : List ℕ) (base : ℕ) (units : List JournalUnit) → HasJustGot value base units → (front : List ℕ) × (flat_map unit_bytes (drop base units) ≡ front ++ value)
bytes_end value base units is =
    let u = Lone is.job (Look is.look) (Value value) in
    let first = flat_map unit_bytes (drop base is.before) in (
      first ++ got_front is.job is.look value,
      ap (λ us. flat_map unit_bytes (drop base us)) is.newest
          ∙ ap (flat_map unit_bytes) (drop-append-le base is.before (u ∷ []) is.kept)
          ∙ flat_map-append unit_bytes (drop base is.before) (u ∷ [])
          ∙ ap (λ bs. first ++ bs) (append-nil (unit_bytes u) ∙ got_ends is.job is.look value)
          ∙ sym (append_assoc first (got_front is.job is.look value) value),
    )

pub last_is : (bytes front last : List ℕ) (size start : ℕ) → bytes ≡ front ++ last → size ≡ length last → start ≡ length bytes - size → drop start bytes ≡ last
last_is bytes front last size start is all from =
    let at : start ≡ length front = omega (arith, from, all, ap length is, length-append front last) in
    ap (λ n. drop n bytes) at ∙ ap (drop (length front)) is ∙ drop-append_seam front last

-- ---- whether the job is in a transaction

shown_some : (o : Option Session) → is_some (option_map shown o) ≡ is_some o
shown_some None = refl
shown_some (Some s) = refl

pub inside_is : (us : List JournalUnit) (ss : Sessions) (job : ℕ) → is_some (transaction_of job (machine_of us ss)) ≡ is_some (finmap.get ss job)
inside_is us ss job = ap is_some (transaction_is us ss job (finmap.get ss job) refl) ∙ shown_some (finmap.get ss job)

pub none_inside : (us : List JournalUnit) (ss : Sessions) (job : ℕ) → transaction_of job (machine_of us ss) ≡ None → finmap.get ss job ≡ None
none_inside us ss job none = by_found (finmap.get ss job) (sym (inside_is us ss job) ∙ ap is_some none)
  where
    by_found : (o : Option Session) → is_some o ≡ false → o ≡ None
    by_found None is = refl
    by_found (Some s) is = absurd (cc)
