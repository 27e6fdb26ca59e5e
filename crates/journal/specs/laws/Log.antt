-- A log reads back as the units that were written, and no two lists of units have one log.
use Rattle.std.specs.Prelude.{◌≡◌, ℕ, ◌+◌, List, [], ◌∷◌, ◌++◌, length, Option, Some}
use Rattle.std.specs.List.{flat_map}
use Rattle.std.proofs.Common.{ap, sym, ◌∙◌, append-nil, refl, arith, length-append}
use Rattle.std.proofs.lemmas.Grind.{flat_map-append}
use Rattle.std.proofs.lemmas.List.{flat_map_more}
use Rattle.std.proofs.lemmas.Option.{some_pair_parts}
use Rattle.journal.specs.declared.unit.Unit.{Unit as JournalUnit}
use Rattle.journal.specs.Format.{unit_bytes}
use Rattle.journal.specs.Log.{units_in, unit_in, Stands}
use Rattle.journal.specs.Reading.{list_at, number_at, unit_at}
use Rattle.journal.specs.Stored.{Each, FitsUnit}
use Rattle.journal.specs.laws.Reading.{list_back, unit_back}

pub units_again : (bytes : List ℕ) (count : ℕ) (us : List JournalUnit) → Stands bytes count us → units_in count bytes ≡ us
unfolding units_in
units_again bytes count us h =
    let back : list_at unit_at (length us) (flat_map unit_bytes us ++ []) ≡ Some (us, []) = list_back unit_at unit_bytes FitsUnit unit_back us [] h.fit in
    let all : list_at unit_at count bytes ≡ Some (us, []) = ap (λ n. list_at unit_at n bytes) h.number ∙ ap (list_at unit_at (length us)) (h.written ∙ sym (append-nil (flat_map unit_bytes us))) ∙ back in
    rw all refl

pub unit_again : (u : JournalUnit) → FitsUnit u → unit_in (unit_bytes u) ≡ Some u
unfolding unit_in
unit_again u h =
    let all : unit_at (unit_bytes u) ≡ Some (u, []) = ap unit_at (sym (append-nil (unit_bytes u))) ∙ unit_back u [] h in
    rw all refl

Each-more : (us : List JournalUnit) (u : JournalUnit) → Each FitsUnit us → FitsUnit u → Each FitsUnit (us ++ u ∷ [])
Each-more [] u h k = (k, tt)
Each-more (v ∷ us) u h k = (h.0, Each-more us u h.1 k)

pub stands_none : Stands [] 0 []
stands_none = record { written = refl; number = refl; fit = tt }

pub stands_more : (bytes : List ℕ) (count : ℕ) (us : List JournalUnit) (u : JournalUnit) → Stands bytes count us → FitsUnit u → Stands (bytes ++ unit_bytes u) (count + 1) (us ++ u ∷ [])
stands_more bytes count us u h k = record {
  written = ap (λ t. t ++ unit_bytes u) h.written ∙ flat_map_more unit_bytes [] us u;
  number = omega (arith, h.number, length-append us (u ∷ []));
  fit = Each-more us u h.fit k;
}

-- the bytes of units behind those of others
Each-joined : (us vs : List JournalUnit) → Each FitsUnit us → Each FitsUnit vs → Each FitsUnit (us ++ vs)
Each-joined [] vs h k = k
Each-joined (u ∷ us) vs h k = (h.0, Each-joined us vs h.1 k)

pub stands_joined : (bytes more : List ℕ) (count others : ℕ) (us vs : List JournalUnit) → Stands bytes count us → Stands more others vs → Stands (bytes ++ more) (count + others) (us ++ vs)
stands_joined bytes more count others us vs h k = record {
  written = (λ i. h.written i ++ k.written i) ∙ sym (flat_map-append unit_bytes us vs);
  number = omega (arith, h.number, k.number, length-append us vs);
  fit = Each-joined us vs h.fit k.fit;
}

-- ---- no two lists of units have one log

-- no unit's bytes begin another's, whatever follows
pub units_apart : (u v : JournalUnit) (s t : List ℕ) → FitsUnit u → FitsUnit v → unit_bytes u ++ s ≡ unit_bytes v ++ t → (u ≡ v) × (s ≡ t)
units_apart u v s t h k e =
    let both : ◌≡◌ {A = Option (JournalUnit × List ℕ)} (Some (u, s)) (Some (v, t)) = sym (unit_back u s h) ∙ ap unit_at e ∙ unit_back v t k in
    some_pair_parts u v s t both

-- each unit has bytes
some_bytes : (u : JournalUnit) (t : List ℕ) → FitsUnit u → unit_bytes u ++ t ≡ [] → ⊥
unfolding unit_at number_at
some_bytes u t h e =
    let back : unit_at [] ≡ Some (u, t) = ap unit_at (sym e) ∙ unit_back u t h in
    cc

pub logs_apart : (us vs : List JournalUnit) → Each FitsUnit us → Each FitsUnit vs → flat_map unit_bytes us ≡ flat_map unit_bytes vs → us ≡ vs
logs_apart [] [] h k e = refl
logs_apart [] (v ∷ vs) h k e = absurd (some_bytes v (flat_map unit_bytes vs) k.0 (sym e))
logs_apart (u ∷ us) [] h k e = absurd (some_bytes u (flat_map unit_bytes us) h.0 e)
logs_apart (u ∷ us) (v ∷ vs) h k e =
    let parts = units_apart u v (flat_map unit_bytes us) (flat_map unit_bytes vs) h.0 k.0 e in
    ap (λ w. w ∷ us) parts.0 ∙ ap (λ ws. v ∷ ws) (logs_apart us vs h.1 k.1 parts.1)
