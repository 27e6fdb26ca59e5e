-- A log and what stands behind its units, step by step.
use Rattle.std.proofs.Common.{take, drop, length-append, ◌≡◌, ℕ, ◌+◌, ◌≤◌, ◌<◌, List, [], ◌∷◌, ◌++◌, length, refl, ap, sym, ◌∙◌, subst, arith, suc, true≢false, Option, Some, None, Result, Ok, Err, OnOk, OnErr}
use Rattle.std.specs.Prelude.{IfSome, IsOk}
use Rattle.std.specs.List.{flat_map}
use Rattle.std.proofs.lemmas.List.{drop_at, take_at, take_all, drop_all, take-append-drop, length-drop, length-take-le}
use Rattle.std.proofs.lemmas.Option.{some_pair_parts}
use Rattle.key_codec.specs.Grown.{GoesOnFrom}
use Rattle.journal.specs.declared.unit.Unit.{Unit as JournalUnit}
use Rattle.journal.specs.Format.{unit_bytes}
use Rattle.journal.specs.Kept.{job_of}
use Rattle.journal.specs.Log.{units_in, unit_in, Stands, KeepsUnits, KeepsRoom, IsUnitOf}
use Rattle.journal.specs.Reading.{unit_at}
use Rattle.journal.specs.Stored.{FitsUnit}
use Rattle.journal.specs.laws.Log.{units_again, unit_again, stands_none, stands_more, stands_joined}
use Rattle.journal.specs.laws.Reading.{unit_back}

-- a log of no units
pub none_in : (bytes : List ℕ) → units_in 0 bytes ≡ []
unfolding units_in
none_in bytes = refl

pub stands_empty : (bytes : List ℕ) → bytes ≡ [] → Stands bytes 0 (units_in 0 bytes)
stands_empty bytes e = subst (Stands bytes 0) (sym (none_in bytes)) (subst (λ t. Stands t 0 []) (sym e) stands_none)

pub keeps_none : (bytes : List ℕ) → KeepsUnits bytes 0 0
keeps_none bytes = record { within = omega arith; stands = stands_empty (take 0 bytes) refl }

-- ---- behind the units

-- a log whose units are as they were
pub record Stays (bytes new : List ℕ) (end count : ℕ) : Type 0 where
  pub keeps : KeepsUnits new end count
  pub units : units_in count (take end new) ≡ units_in count (take end bytes)

stays : (bytes new : List ℕ) (end count : ℕ) → KeepsUnits bytes end count → end ≤ length new → take end new ≡ take end bytes → Stays bytes new end count
stays bytes new end count h within e = record {
  keeps = record {
    within = within;
    stands = subst (λ t. Stands t count (units_in count t)) (sym e) h.stands;
  };
  units = ap (units_in count) e;
}

-- a log with nothing behind its units any more
pub record Cut (bytes new : List ℕ) (end count : ℕ) : Type 0 where
  pub stays : Stays bytes new end count
  pub behind : drop end new ≡ []

pub cut : (bytes new : List ℕ) (end count : ℕ) → KeepsUnits bytes end count → new ≡ take end bytes → Cut bytes new end count
cut bytes new end count h e =
    let long : length new ≡ end = ap length e ∙ length-take-le end bytes h.within in
    record { stays = stays bytes new end count h (omega arith) (take_all end new (omega arith) ∙ e); behind = drop_all end new (omega arith) }

-- where nothing stands behind the units, they end with the bytes
ends_there : (bytes : List ℕ) (end : ℕ) → end ≤ length bytes → drop end bytes ≡ [] → length bytes ≡ end
ends_there bytes end within none = omega (arith, within, length-drop end bytes, ap length none)

-- a unit was written behind them, or nothing
pub record Settled {T E : Type 0} (r : Result T E) (bytes new : List ℕ) (end count job : ℕ) (u : JournalUnit) : Type 0 where
  pub stays : Stays bytes new end count
  pub ok : OnOk r (IsUnitOf (drop end new) job u)
  pub err : OnErr r (drop end new ≡ [])

written_is : (bytes : List ℕ) (job : ℕ) (u : JournalUnit) → bytes ≡ unit_bytes u → FitsUnit u → job ≡ job_of u → IsUnitOf bytes job u
written_is bytes job u written fits owner = record { is = ap unit_in written ∙ unit_again u fits; written = written; fits = fits; owner = owner }

pub settled : {T E : Type 0} (r written : Result T E) (bytes mid new : List ℕ) (end count job : ℕ) (u : JournalUnit) → KeepsUnits bytes end count → drop end bytes ≡ [] → OnOk written (mid ≡ bytes ++ unit_bytes u) → OnOk written (FitsUnit u) → GoesOnFrom bytes mid →
    OnOk r (IsOk written × (new ≡ mid)) → OnErr r (new ≡ take end mid) → job ≡ job_of u → Settled r bytes new end count job u
settled (Ok x) (Ok y) bytes mid new end count job u h none w fits on same back owner =
    let long = ends_there bytes end h.within none in
    let e : new ≡ bytes ++ unit_bytes u = same.1 ∙ w in
    let l : length new ≡ length bytes + length (unit_bytes u) = ap length e ∙ length-append bytes (unit_bytes u) in
    let front : take end new ≡ take end bytes = ap (take end) e ∙ take_at bytes (unit_bytes u) end long ∙ sym (take_all end bytes (omega arith)) in
    let behind : drop end new ≡ unit_bytes u = ap (drop end) e ∙ drop_at bytes (unit_bytes u) end long in
    record { stays = stays bytes new end count h (omega arith) front; ok = written_is (drop end new) job u behind fits owner; err = tt }
settled (Ok x) (Err y) bytes mid new end count job u h none w fits on same back owner = absurd (true≢false (sym same.0))
settled (Err x) written bytes mid new end count job u h none w fits on same back owner =
    let long = ends_there bytes end h.within none in
    let e : new ≡ bytes = back ∙ ap (take end) on.split ∙ take_at bytes on.more end long in
    let l : length new ≡ length bytes = ap length e in
    record { stays = stays bytes new end count h (omega arith) (ap (take end) e); ok = tt; err = ap (drop end) e ∙ none }

-- there is as much room behind the units as behind all that stands there, and what was written left it
pub room_left : (end ends len long capacity more : ℕ) → KeepsRoom len ends capacity → end ≤ long → len ≡ long → capacity ≤ more → KeepsRoom end ends more
room_left end ends len long capacity more room within same on = omega (arith, room, within, same, on)

-- a unit was written behind them, and that can't be refused
pub record Written (bytes new : List ℕ) (end count job : ℕ) (u : JournalUnit) : Type 0 where
  pub stays : Stays bytes new end count
  pub is : IsUnitOf (drop end new) job u

pub written_there : (bytes new : List ℕ) (end count job : ℕ) (u : JournalUnit) → KeepsUnits bytes end count → drop end bytes ≡ [] → new ≡ bytes ++ unit_bytes u → FitsUnit u → job ≡ job_of u → Written bytes new end count job u
written_there bytes new end count job u h none w fits owner =
    let r : Result ℕ ℕ = Ok 0 in
    let done = settled r r bytes new new end count job u h none w fits (record { more = unit_bytes u; split = w }) (refl, refl) tt owner in
    record { stays = done.stays; is = done.ok }

-- ---- a unit more

-- a log whose units now go to the end of its bytes
pub record Pushed (bytes : List ℕ) (end all count : ℕ) : Type 0 where
  pub keeps : KeepsUnits bytes all (count + 1)
  pub units : IfSome (unit_in (drop end bytes)) (λ u. units_in (count + 1) (take all bytes) ≡ units_in count (take end bytes) ++ u ∷ [])
  pub behind : drop all bytes ≡ []

pub pushed : (bytes : List ℕ) (end all count job : ℕ) (u : JournalUnit) → KeepsUnits bytes end count → IsUnitOf (drop end bytes) job u → all ≡ length bytes → Pushed bytes end all count
pushed bytes end all count job u h unit at =
    let front = take end bytes in
    let us = units_in count front in
    let whole : take all bytes ≡ bytes = take_all all bytes (omega arith) in
    let joined : take all bytes ≡ front ++ unit_bytes u = whole ∙ sym (take-append-drop end bytes) ∙ ap (λ t. front ++ t) unit.written in
    let moved : Stands (take all bytes) (count + 1) (us ++ u ∷ []) = subst (λ t. Stands t (count + 1) (us ++ u ∷ [])) (sym joined) (stands_more front count us u h.stands unit.fits) in
    let again : units_in (count + 1) (take all bytes) ≡ us ++ u ∷ [] = units_again (take all bytes) (count + 1) (us ++ u ∷ []) moved in
    let within = h.within in
    let long : length (take all bytes) ≡ length bytes = ap length whole in
    record {
      keeps = record {
        within = omega arith;
        stands = subst (Stands (take all bytes) (count + 1)) (sym again) moved;
      };
      units = subst (λ o. IfSome o (λ v. units_in (count + 1) (take all bytes) ≡ us ++ v ∷ [])) (sym unit.is) again;
      behind = drop_all all bytes (omega arith);
    }

-- ---- many units more

-- a log to whose units those of other bytes were added
pub record Appended (bytes new : List ℕ) (end all count more : ℕ) (us : List JournalUnit) : Type 0 where
  pub keeps : KeepsUnits new all (count + more)
  pub units : units_in (count + more) (take all new) ≡ units_in count (take end bytes) ++ us
  pub behind : drop all new ≡ []

pub appended : (bytes more_bytes new : List ℕ) (end all count more : ℕ) (us : List JournalUnit) → KeepsUnits bytes end count → drop end bytes ≡ [] → Stands more_bytes more us → new ≡ bytes ++ more_bytes → all ≡ length new → Appended bytes new end all count more us
appended bytes more_bytes new end all count more us h none stands is at =
    let long = ends_there bytes end h.within none in
    let front : take end bytes ≡ bytes = take_all end bytes (omega (arith, long)) in
    let vs = units_in count (take end bytes) in
    let whole : take all new ≡ new = take_all all new (omega (arith, at)) in
    let split : take all new ≡ take end bytes ++ more_bytes = whole ∙ (is ∙ ap (λ t. t ++ more_bytes) (sym front)) in
    let moved : Stands (take all new) (count + more) (vs ++ us) = subst (λ t. Stands t (count + more) (vs ++ us)) (sym split) (stands_joined (take end bytes) more_bytes count more vs us h.stands stands) in
    let again : units_in (count + more) (take all new) ≡ vs ++ us = units_again (take all new) (count + more) (vs ++ us) moved in
    record { keeps = record { within = omega (arith, at); stands = subst (Stands (take all new) (count + more)) (sym again) moved }; units = again; behind = drop_all all new (omega (arith, at)) }

-- ---- reading

pub record Read (bytes rest : List ℕ) (left fewer : ℕ) (u : JournalUnit) : Type 0 where
  pub stands : Stands rest fewer (units_in fewer rest)
  pub units : units_in left bytes ≡ u ∷ units_in fewer rest

read_by : (us : List JournalUnit) (bytes rest : List ℕ) (left fewer : ℕ) (u : JournalUnit) → units_in left bytes ≡ us → Stands bytes left us → left ≡ suc fewer → unit_at bytes ≡ Some (u, rest) → Read bytes rest left fewer u
read_by [] bytes rest left fewer u e h n found = let z : left ≡ 0 = h.number in absurd (omega arith)
read_by (v ∷ us) bytes rest left fewer u e h n found =
    let back : unit_at bytes ≡ Some (v, flat_map unit_bytes us) = ap unit_at h.written ∙ unit_back v (flat_map unit_bytes us) h.fit.0 in
    let both : ◌≡◌ {A = Option (JournalUnit × List ℕ)} (Some (u, rest)) (Some (v, flat_map unit_bytes us)) = sym found ∙ back in
    let parts = some_pair_parts u v rest (flat_map unit_bytes us) both in
    let z : left ≡ length (v ∷ us) = h.number in
    let more : Stands rest fewer us = record { written = parts.1; number = omega arith; fit = h.fit.1 } in
    let again : units_in fewer rest ≡ us = units_again rest fewer us more in
    record { stands = subst (Stands rest fewer) (sym again) more; units = e ∙ ap (λ w. w ∷ us) (sym parts.0) ∙ ap (λ t. u ∷ t) (sym again) }

pub reads : (bytes rest : List ℕ) (left fewer : ℕ) (u : JournalUnit) → Stands bytes left (units_in left bytes) → left ≡ suc fewer → unit_at bytes ≡ Some (u, rest) → Read bytes rest left fewer u
reads bytes rest left fewer u h n found = read_by (units_in left bytes) bytes rest left fewer u refl h n found

unread_by : (us : List JournalUnit) (bytes : List ℕ) (left fewer : ℕ) → Stands bytes left us → left ≡ suc fewer → unit_at bytes ≡ None → ⊥
unread_by [] bytes left fewer h n none = let z : left ≡ 0 = h.number in omega arith
unread_by (v ∷ us) bytes left fewer h n none =
    let back : unit_at bytes ≡ Some (v, flat_map unit_bytes us) = ap unit_at h.written ∙ unit_back v (flat_map unit_bytes us) h.fit.0 in
    cc

-- bytes that stand for a unit read as one
pub never_unread : (bytes : List ℕ) (left fewer : ℕ) → Stands bytes left (units_in left bytes) → left ≡ suc fewer → unit_at bytes ≡ None → ⊥
never_unread bytes left fewer h n none = unread_by (units_in left bytes) bytes left fewer h n none

pub shorter : (us vs : List JournalUnit) (u : JournalUnit) → us ≡ u ∷ vs → length vs < length us
shorter us vs u e = let l : length us ≡ suc (length vs) = ap length e in omega arith

pub some_left : (bytes : List ℕ) (left fewer : ℕ) → Stands bytes left (units_in left bytes) → left ≡ suc fewer → 0 < length (units_in left bytes)
some_left bytes left fewer h n = let z : left ≡ length (units_in left bytes) = h.number in omega arith

pub fewer_left : (us : List JournalUnit) (bytes : List ℕ) → 0 < length us → length (units_in 0 bytes) < length us
fewer_left us bytes h = let l : length (units_in 0 bytes) ≡ 0 = ap length (none_in bytes) in omega arith
