-- What a store is seen as: for each placed reference its versions, newest first.
-- Read Versions, content_at, written and changed (of `collation`); specs/laws/Content.antt has their laws.
use Rattle.std.specs.Prelude.{◌≡◌, ◌+◌, ◌≤◌, ℕ, Bool, true, false, not, ◌&&◌, cond, max, List, [], ◌∷◌, ◌++◌, length, Option, Some, None, filter, map, take, refl}
use Rattle.std.specs.Coded.{Coded, code_by, coded×, coded_ℕ, coded_list, coded_option}
use Rattle.std.specs.FinMap as finmap
use Rattle.std.specs.FinMap.{FinMap, code}
use Rattle.collation.specs.Reference.{Reference}
use Rattle.collation.specs.Order.{ref_cmp}
use Rattle.collation.specs.Database.{Database, reference_code}
use Rattle.collation.specs.Changes.{Change}
pub use Rattle.collation.specs.Changes.{changed}
use Rattle.std.specs.Ordering.{is_lt}
use Rattle.version_chain.specs.Versions.{Entry, newest_of, at_of, is_one_value, IsAbove, cells_of}
use Rattle.version_chain.specs.Chains.{listed}
use Rattle.version_chain.specs.Cut.{left_after}
use Rattle.globals.specs.declared.cut.Cut.{Cut}
use Rattle.globals.specs.Cuts.{stands_before}

-- a version is a stamp and a value or its absence
abbrev pub Row : Type 0
Row = List (Entry (List ℕ))

-- the placed references, each with its versions, newest first
abbrev pub Versions : Type 0
Versions = FinMap ref_cmp Row

-- the newest stamp, the oldest stamp at which content is kept, for how many versions cells are reserved, and the reference
-- that a collector visited last
pub record Stored : Type 0 where
  pub versions : Versions
  pub present : ℕ
  pub cut : ℕ
  pub spare : ℕ
  pub mark : Option Reference

abbrev pub stored_code : Coded Stored
stored_code =
    code_by (Versions × (ℕ × (ℕ × (ℕ × Option Reference))))
    (coded× (code reference_code (coded_list (coded× coded_ℕ (coded_option (coded_list coded_ℕ))))) (coded× coded_ℕ (coded× coded_ℕ (coded× coded_ℕ (coded_option reference_code)))))
    (λ s. (s.versions, (s.present, (s.cut, (s.spare, s.mark))))) (λ p. record { versions = p.0; present = p.1.0; cut = p.1.1.0; spare = p.1.1.1.0; mark = p.1.1.1.1 }) (λ _. refl)

module _ {K V : Type 0} where
  -- the entry in front, where there is a value
  abbrev pub with_value : K → Option V → List (K × V) → List (K × V)
  with_value k None es = es
  with_value k (Some v) es = (k, v) ∷ es

  -- each key with the value of its newest version not after the stamp, where that is a value
  abbrev pub seen_at : ℕ → List (K × List (Entry V)) → List (K × V)
  seen_at s [] = []
  seen_at s (e ∷ es) = with_value e.0 (at_of s e.1) (seen_at s es)

-- the content at a stamp: for each reference the newest version not after it, where that is a value
abbrev pub content_at : Versions → ℕ → Database
content_at m s = finmap.from_sorted (seen_at s (finmap.entries m))

-- the content at the newest stamp
abbrev pub content_now : Stored → Database
content_now s = content_at s.versions s.present

-- the versions of a reference; none where it isn't placed
abbrev pub versions_of : Versions → Reference → Row
versions_of m r = listed (finmap.get m r)

-- how many cells the versions of a reference take
abbrev pub cells_under : Versions → Reference → ℕ
cells_under m r = cells_of (versions_of m r)

-- the cells that its versions no longer take are spare, and no others
abbrev pub KeepsCells : Reference → Stored → Stored → Type 0
KeepsCells r old new = new.spare + cells_under new.versions r ≡ old.spare + cells_under old.versions r

-- how many versions these references have
abbrev pub count_in : List (Reference × Row) → ℕ
count_in [] = 0
count_in (e ∷ es) = length e.1 + count_in es

-- how many cells the versions of these references take
abbrev pub cells_in : List (Reference × Row) → ℕ
cells_in [] = 0
cells_in (e ∷ es) = cells_of e.1 + cells_in es

-- how many versions there are
abbrev pub version_count : Versions → ℕ
version_count m = count_in (finmap.entries m)

-- the first of a list
abbrev pub first_of : {A : Type 0} → List A → Option A
first_of [] = None
first_of (x ∷ xs) = Some x

-- x stands after r, or there is no r
abbrev pub is_behind : Option Reference → Reference → Bool
is_behind None x = true
is_behind (Some r) x = is_lt (ref_cmp r x)

-- the reference has an empty row, unless it has one already
abbrev pub placed : Reference → Versions → Versions
placed r m = cond (finmap.contains_key m r) m (finmap.insert m r [])

abbrev pub all_placed : List Reference → Versions → Versions
all_placed [] m = m
all_placed (r ∷ rs) m = all_placed rs (placed r m)

-- ---- changes

-- one more version, at the stamp
abbrev pub with_version : ℕ → Change → Versions → Versions
with_version stamp c m = finmap.insert m c.0 ((stamp, c.1) ∷ versions_of m c.0)

-- one more version for each change
abbrev pub written : ℕ → List Change → Versions → Versions
written stamp [] m = m
written stamp (c ∷ cs) m = written stamp cs (with_version stamp c m)

-- the versions of a reference once a change is written, if there is one
abbrev pub row_after : ℕ → Option (Option (List ℕ)) → Row → Row
row_after stamp None vs = vs
row_after stamp (Some x) vs = (stamp, x) ∷ vs

-- each change is of a placed reference
abbrev pub ArePlaced : Versions → List Change → Type 0
ArePlaced m [] = Unit {0}
ArePlaced m (c ∷ cs) = (finmap.contains_key m c.0 ≡ true) × ArePlaced m cs

-- the stamp is above all versions of the references that the changes are of
abbrev pub AreBelow : ℕ → Versions → List Change → Type 0
AreBelow stamp m [] = Unit {0}
AreBelow stamp m (c ∷ cs) = IsAbove stamp (versions_of m c.0) × AreBelow stamp m cs

-- how many cells the versions of the changes' references take
abbrev pub cells_over : List Change → Versions → ℕ
cells_over [] m = 0
cells_over (c ∷ cs) m = cells_under m c.0 + cells_over cs m

-- the cells that versions of these references no longer take are spare, and no others
abbrev pub AllKeepCells : List Change → Stored → Stored → Type 0
AllKeepCells cs old new = new.spare + cells_over cs new.versions ≡ old.spare + cells_over cs old.versions

-- ---- the newest stamp in a range

abbrev pub later : Option ℕ → Option ℕ → Option ℕ
later None b = b
later (Some a) None = Some a
later (Some a) (Some b) = Some (max a b)

abbrev pub newest_among : List (Reference × Row) → Option ℕ
newest_among [] = None
newest_among (e ∷ es) = later (newest_of e.1) (newest_among es)

-- the newest stamp of any version of a reference between two cuts
abbrev pub newest_between : Cut → Cut → Versions → Option ℕ
newest_between low high m = newest_among (filter (λ e. not (stands_before low e.0) && stands_before high e.0) (finmap.entries m))

-- the number is at most that, if there is one
abbrev pub AtMost : ℕ → Option ℕ → Type 0
AtMost n None = ⊥
AtMost n (Some t) = n ≤ t

-- a reference that passes whose newest version has this stamp
pub record IsNewestOf (test : Reference → Bool) (m : Versions) (t : ℕ) : Type 0 where
  pub reference : Reference
  pub passes : test reference ≡ true
  pub newest : newest_of (versions_of m reference) ≡ Some t

-- the reference stands between two cuts
abbrev pub stands_between : Cut → Cut → Reference → Bool
stands_between low high x = not (stands_before low x) && stands_before high x

-- no reference between the cuts has a newer version, and one has a version of this stamp
pub record IsNewestIn (low high : Cut) (m : Versions) (newest : Option ℕ) : Type 0 where
  pub most : (r : Reference) (n : ℕ) → stands_between low high r ≡ true → newest_of (versions_of m r) ≡ Some n → AtMost n newest
  pub there : (t : ℕ) → newest ≡ Some t → IsNewestOf (stands_between low high) m t

-- ---- for the collector

-- the reference is placed and has no versions
abbrev pub is_bare : Option Row → Bool
is_bare None = false
is_bare (Some []) = true
is_bare (Some (v ∷ vs)) = false

-- each reference that is bare was so before
abbrev pub AddsNoneBare : Versions → Versions → Type 0
AddsNoneBare old new = (x : Reference) → is_bare (finmap.get new x) ≡ true → is_bare (finmap.get old x) ≡ true

abbrev pub keys_of : {X : Type 0} → List (Reference × X) → List Reference
keys_of = map (λ e. e.0)

-- the placed references as a collector visits them: those after the mark, then the others
abbrev pub in_turn : Option Reference → Versions → List Reference
in_turn mark m = filter (is_behind mark) (keys_of (finmap.entries m)) ++ filter (λ r. not (is_behind mark r)) (keys_of (finmap.entries m))

-- those that are next in turn, at most so many
abbrev pub next_in_turn : ℕ → Stored → List Reference
next_in_turn limit s = take limit (in_turn s.mark s.versions)

-- without the reference, where it has no versions
abbrev pub unless_bare : Reference → Versions → Versions
unless_bare r m = cond (is_bare (finmap.get m r)) (finmap.remove m r) m

-- the last of these, or else the old one
abbrev pub last_or : Option Reference → List Reference → Option Reference
last_or mark [] = mark
last_or mark (r ∷ rs) = last_or (Some r) rs

-- the reference has more than one version, or one that isn't a value, or none
abbrev pub is_worth_a_cut : Versions → Reference → Bool
is_worth_a_cut m r = not (is_one_value (versions_of m r))

-- what a collector visits next: those of which something may go, how many there are in all, and the last of all
pub record AreNextVisits (limit : ℕ) (s : Stored) (keys : List Reference) (visited : ℕ) (last : Option Reference) : Type 0 where
  pub keys_are : keys ≡ filter (is_worth_a_cut s.versions) (next_in_turn limit s)
  pub visited_is : visited ≡ length (next_in_turn limit s)
  pub last_is : last ≡ last_or None (next_in_turn limit s)

-- the reference without what nobody at or after the horizon sees, and not placed where nothing is left
abbrev pub tidied : ℕ → Reference → Versions → Versions
tidied horizon r m = unless_bare r (finmap.insert m r (left_after horizon (versions_of m r)))

-- one more version for each change, and its reference tidied
abbrev pub written_and_cut : ℕ → ℕ → List Change → Versions → Versions
written_and_cut stamp horizon [] m = m
written_and_cut stamp horizon (c ∷ cs) m = written_and_cut stamp horizon cs (tidied horizon c.0 (with_version stamp c m))

-- the change is written at the stamp, which is now, and its reference is cut
pub record IsSetAt (stamp cut : ℕ) (c : Change) (old new : Stored) : Type 0 where
  pub versions : new.versions ≡ tidied cut c.0 (with_version stamp c old.versions)
  pub present : new.present ≡ stamp
  pub cut_is : new.cut ≡ cut
  pub mark : new.mark ≡ old.mark

-- the versions of a reference once a change is written, if there is one, and what nobody at or after the horizon sees is dropped
abbrev pub row_cut : ℕ → ℕ → Option (Option (List ℕ)) → Row → Row
row_cut stamp horizon None vs = vs
row_cut stamp horizon (Some x) vs = left_after horizon ((stamp, x) ∷ vs)
