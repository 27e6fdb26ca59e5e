-- The groups of the lines so far. Read ArePlaces, IsPlaceOf, HaveGroup and AreSoFar; the contracts of grouping.rt cite them.
use Rattle.std.specs.Prelude.{◌≡◌, ℕ, zero, suc, ◌+◌, ◌<◌, List, [], ◌∷◌, ◌++◌, ◌==◌, true, map, length, if◌then◌else◌, get_or, unwrap_or}
use Rattle.job_scripts.specs.declared.lines.Script.{Script}
use Rattle.std.specs.List.{list_any, position_or_len}
use Rattle.job_scripts.specs.Groups.{Group, firsts, group, group_of, shown, groups_of}

-- one more than the place of a number among numbers, 0 where it isn't among them
abbrev pub place_of : ℕ → List ℕ → ℕ
place_of n ns = if list_any (λ m. n == m) ns then position_or_len (λ m. n == m) ns + 1 else 0

-- the places of the numbers that a job may have, and of 0
pub record ArePlaces (places : List ℕ) (ns : List ℕ) : Type 0 where
  pub many : length places ≡ 4097
  pub each : (n : ℕ) → n < 4097 → get_or places n 0 ≡ place_of n ns

-- the place of a number among numbers that have it
abbrev pub IsPlaceOf : ℕ → List ℕ → ℕ → Type 0
IsPlaceOf n ns place = (list_any (λ m. n == m) ns ≡ true) × (place ≡ position_or_len (λ m. n == m) ns)

-- a group with lines more
abbrev pub more : List (List ℕ) → Group → Group
more lines g = record { job = g.job; lines = g.lines ++ lines }

-- the groups, of which that at this index has lines more
abbrev pub extended : ℕ → List (List ℕ) → List Group → List Group
extended i lines [] = []
extended zero lines (g ∷ gs) = more lines g ∷ gs
extended (suc i) lines (g ∷ gs) = g ∷ extended i lines gs

-- the groups, with a group's lines behind those under its number, or with the group behind all
abbrev pub with_group : Group → List Group → List Group
with_group g [] = g ∷ []
with_group g (k ∷ ks) = if unwrap_or g.job 0 == unwrap_or k.job 0 then more g.lines k ∷ ks else k ∷ with_group g ks

-- the same of groups, one after the other
abbrev pub with_groups : List Group → List Group → List Group
with_groups [] ks = ks
with_groups (g ∷ gs) ks = with_groups gs (with_group g ks)

-- the groups of lines have one under this number too, of no line where it is new
abbrev pub HaveGroup : ℕ → List Group → List Group → Type 0
HaveGroup n old new = (lines : List (List ℕ)) → old ≡ groups_of lines → new ≡ map (group lines) (firsts (map group_of lines ++ n ∷ []))

-- the scripts are of lines that are all, but for those that are left
abbrev pub AreSoFar : List (List ℕ) → List (List ℕ) → List Script → Type 0
AreSoFar all left scripts = (done : List (List ℕ)) × (map shown scripts ≡ groups_of done) × (done ++ left ≡ all)
