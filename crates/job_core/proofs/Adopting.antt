-- A core that takes a store over.
use Rattle.std.proofs.Common.{◌≡◌, ◌≤◌, ◌<◌, ℕ, ◌-◌, ◌^◌, max, List, [], ◌∷◌, length, take, drop, refl, sym, ap, subst, ◌∙◌, arith}
use Rattle.std.specs.Prelude.{None, Some}
use Rattle.std.specs.Ordering.{nat_cmp}
use Rattle.std.specs.FinMap as finmap
use Rattle.std.proofs.lemmas.List.{length-drop, take_all}
use Rattle.collation.specs.Reference.{Reference}
use Rattle.collation.specs.Database.{Database}
use Rattle.lock_name.specs.Locks.{LockState}
use Rattle.journal.specs.declared.unit.Unit.{Unit as JournalUnit}
use Rattle.journal.specs.Adopted.{adopted_units}
use Rattle.journal.specs.Checkpoints.{IsBehind}
use Rattle.journal.specs.History.{State, initial, after, IsLegal}
use Rattle.journal.specs.Story.{Machine}
use Rattle.journal.specs.laws.Adopted.{adopted_legal, adopted_number, adopted_state, of_entries, no_entries}
use Rattle.read_ranges.specs.declared.range.ReadRange.{ReadRange}
use Rattle.stretches.specs.Empty.{AreEmpty}
use Rattle.stretches.specs.laws.Entering.{none_are_empty}
use Rattle.version_store.specs.Versions.{Stored, content_at, content_now}
use Rattle.validate_commit.specs.Agreement.{Agreement}
use Rattle.job_core.specs.Common.{Common, IsCore}
use Rattle.job_core.specs.Adopting.{units_for, state_for, HasAdopted, IsTakenOver}

-- where now is 0 there is no node
pub none_at_zero : (store : Stored) (nodes : List (Reference × List ℕ)) → (store.present ≡ 0 → content_at store.versions 0 ≡ finmap.empty) → nodes ≡ finmap.entries (content_now store) → store.present ≡ 0 → nodes ≡ []
none_at_zero store nodes nothing is z = is ∙ ap (λ n. finmap.entries (content_at store.versions n)) z ∙ no_entries (content_at store.versions 0) (nothing z)

module _ (store : Stored) (nothing : store.present ≡ 0 → content_at store.versions 0 ≡ finmap.empty) (counted : store.present < 2 ^ 64) where
  pub adopted_there : after (units_for store) initial ≡ state_for store
  adopted_there =
      adopted_state store.present (finmap.entries (content_now store)) (none_at_zero store (finmap.entries (content_now store)) nothing refl)
      ∙ ap (λ (m : Database). record { map = m; locks = finmap.empty }) (of_entries (content_now store))

  -- cut at now it agrees with these units
  pub agreed_adopted : (cut : ℕ) → cut ≡ store.present → Agreement (record store { cut = cut }) (units_for store)
  agreed_adopted cut at =
      let l : length (units_for store) ≡ store.present = adopted_number store.present (finmap.entries (content_now store)) in
      record {
        legal = adopted_legal store.present (finmap.entries (content_now store));
        counted = omega (arith, l, counted);
        present = sym l;
        cut = omega (arith, l, at);
        content = λ n from within.
            let same : n ≡ store.present = omega (arith, from, within, l, at) in
            let all : take n (units_for store) ≡ units_for store = take_all n (units_for store) (omega (arith, from, l, at)) in
            ap (content_at store.versions) same ∙ sym (ap (λ (s : State). s.map) (ap (λ us. after us initial) all ∙ adopted_there));
        stamps = λ n u later from next x.
            let left : length (drop n (units_for store)) ≡ length (units_for store) - n = length-drop n (units_for store) in
            let more : length (drop n (units_for store)) ≡ length (u ∷ later) = ap length next in
            absurd (omega (arith, left, more, from, l, at));
      }

-- ---- the core

module _ (store new : Stored) (nodes : List (Reference × List ℕ)) (units : List JournalUnit) (base n : ℕ) (nothing : store.present ≡ 0 → content_at store.versions 0 ≡ finmap.empty) (counted : n < 2 ^ 64) (now : n ≡ store.present)
    (cut : store.cut ≤ store.present) (raised : new ≡ record store { cut = max store.cut n }) (is : nodes ≡ finmap.entries (content_now store)) (us : units ≡ adopted_units n nodes) (at_base : base ≡ n) where
  made : units ≡ units_for store
  made = us ∙ ap (λ k. adopted_units k nodes) now ∙ ap (adopted_units store.present) is

  at_now : max store.cut n ≡ store.present
  at_now = omega (arith, now, cut)

  few : store.present < 2 ^ 64
  few = omega (arith, counted, now)

  agreed : Agreement new units
  agreed = subst (Agreement new) (sym made) (subst (λ s. Agreement s (units_for store)) (sym raised) (agreed_adopted store nothing few (max store.cut n) at_now))

  number : length units ≡ store.present
  number = ap length made ∙ adopted_number store.present (finmap.entries (content_now store))

  there : after units initial ≡ state_for store
  there = ap (λ xs. after xs initial) made ∙ adopted_there store nothing few

  pub core_adopted : (table : LockState) (rs : List ReadRange) → table ≡ finmap.empty → rs ≡ [] → IsCore new units base table rs
  core_adopted table rs none no_stretch = record {
    agreed = agreed;
    locks = none ∙ sym (ap (λ (s : State). s.locks) there);
    within = omega (arith, at_base, now, number);
    empty = subst (λ (ss : List ReadRange). AreEmpty ss (after units initial).map) (sym no_stretch) (none_are_empty (after units initial).map);
  }

  pub has_adopted : (ends : ℕ) → ends ≡ 0 → HasAdopted store (record { store = new; units = units; base = base; ends = ends })
  has_adopted ends no_end = record {
    units = made;
    base = at_base ∙ now;
    ends = no_end;
    cut = raised ∙ ap (λ (k : ℕ). record store { cut = k }) at_now;
    state = there;
    agreed = agreed;
  }

-- ---- with no transaction open

pub behind_idle : (b : ℕ) (us : List JournalUnit) (m : Machine) → m ≡ record { units = us; transactions = finmap.empty } → b ≤ length us → IsBehind b m
behind_idle b us m is le = subst (IsBehind b) (sym is) (record { units = le; starts = λ job t open_there. let none : None ≡ Some t = sym (finmap.get-empty nat_cmp job) ∙ open_there in absurd (cc) })

module _ (store : Stored) (core : Common) (m : Machine) (adopted : HasAdopted store core) (is : m ≡ record { units = core.units; transactions = finmap.empty }) where
  pub behind_adopted : IsBehind core.base m
  behind_adopted =
      let l = ap length adopted.units ∙ adopted_number store.present (finmap.entries (content_now store)) in
      behind_idle core.base core.units m is (omega (arith, adopted.base, l))

  same_units : m.units ≡ core.units
  same_units = ap (λ (s : Machine). s.units) is

  pub taken_over : IsTakenOver store (record { machine = m; base = core.base })
  taken_over = record {
    machine = is ∙ ap (λ us. record { units = us; transactions = finmap.empty }) adopted.units;
    base = adopted.base;
    state = ap (λ us. after us initial) same_units ∙ adopted.state;
    legal = subst (λ us. IsLegal us initial) (sym same_units) adopted.agreed.legal;
  }
