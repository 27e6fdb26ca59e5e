-- A seat that is lent, and one that comes back.
use Rattle.std.proofs.Common.{◌≡◌, ◌≢◌, ℕ, zero, suc, ◌+◌, ◌-◌, ◌<◌, ◌≤◌, true, false, List, [], ◌∷◌, ◌++◌, length, get_or, slice_set, Some, None, refl, sym, ap, ◌∙◌, arith, true≢false, ◌⊎◌, inl, inr}
use Rattle.std.specs.Prelude.{Option, slice_get}
use native.Mathlib.Decide.{ℕ_discrete}
use Rattle.atomic_table.specs.Seated.{TableId}
use Rattle.pin_board.specs.Named.{FreeAt, free_at}
use Rattle.std.proofs.lemmas.Option.{slice_get_within, slice_get_read}
use Rattle.shared_engine.specs.Engines.{is_lent, has_session, SessionIs, SameSessions, AreInPlace, sessions_in}

-- there is a seat where one is lent
pub lent_within : (seats : List (Option FreeAt)) (place job : ℕ) → has_session seats job ≡ true → place + 1 ≡ job → place < length seats
lent_within seats place job is here = by_seat (slice_get seats (job - 1)) refl is
  where
    by_seat : (o : Option (Option FreeAt)) → slice_get seats (job - 1) ≡ o → is_lent o ≡ true → place < length seats
    by_seat None e lent = absurd (true≢false (sym lent))
    by_seat (Some x) e lent = omega (arith, slice_get_within seats (job - 1) x e)

-- lent and taken back, the seats are as they were
pub lent_back : (old lent back : List (Option FreeAt)) (place job : ℕ) → SessionIs true job old lent → SessionIs false (place + 1) lent back → has_session old job ≡ false → place + 1 ≡ job → SameSessions old back
lent_back old lent back place job a b free here = λ other from. by_job other from (ℕ_discrete other job)
  where
    by_job : (other : ℕ) → 1 ≤ other → Dec (other ≡ job) → has_session back other ≡ has_session old other
    by_job other from (yes same) = ap (has_session back) (same ∙ sym here) ∙ (b.this ∙ (sym free ∙ ap (has_session old) (sym same)))
    by_job other from (no apart) = b.others other from (λ same. apart (same ∙ here)) ∙ a.others other from apart

set_here : (seats : List (Option FreeAt)) (i : ℕ) (x : Option FreeAt) → i < length seats → slice_get (slice_set seats i x) i ≡ Some x
set_here [] i x l = absurd (omega arith)
set_here (s ∷ seats) zero x l = refl
set_here (s ∷ seats) (suc i) x l = set_here seats i x (omega arith)

set_apart : (seats : List (Option FreeAt)) (i j : ℕ) (x : Option FreeAt) → j ≢ i → slice_get (slice_set seats i x) j ≡ slice_get seats j
set_apart [] i j x ne = refl
set_apart (s ∷ seats) zero zero x ne = absurd (ne refl)
set_apart (s ∷ seats) zero (suc j) x ne = refl
set_apart (s ∷ seats) (suc i) zero x ne = refl
set_apart (s ∷ seats) (suc i) (suc j) x ne = set_apart seats i j x (λ e. ne (ap suc e))

-- ---- how many are lent

-- one that nobody has comes behind them
pub more_free : (seats : List (Option FreeAt)) (place : FreeAt) → sessions_in (seats ++ Some place ∷ []) ≡ sessions_in seats
more_free [] place = refl
more_free (None ∷ seats) place = ap (λ n. n + 1) (more_free seats place)
more_free (Some x ∷ seats) place = more_free seats place

lent_more : (seats : List (Option FreeAt)) (i : ℕ) (place : FreeAt) → is_lent (slice_get (seats ++ Some place ∷ []) i) ≡ is_lent (slice_get seats i)
lent_more [] zero place = refl
lent_more [] (suc i) place = refl
lent_more (s ∷ seats) zero place = refl
lent_more (s ∷ seats) (suc i) place = lent_more seats i place

pub same_more : (old seats new : List (Option FreeAt)) (place : FreeAt) → SameSessions old seats → new ≡ seats ++ Some place ∷ [] → SameSessions old new
same_more old seats new place same is = λ job from. ap (λ ss. has_session ss job) is ∙ (lent_more seats (job - 1) place ∙ same job from)

-- the seat that is there
abbrev seat_or : FreeAt → Option (Option FreeAt) → FreeAt
seat_or x None = x
seat_or x (Some None) = x
seat_or x (Some (Some seat)) = seat

at_more : (seats : List (Option FreeAt)) (i : ℕ) (place seat : FreeAt) → slice_get (seats ++ Some place ∷ []) i ≡ Some (Some seat) → (slice_get seats i ≡ Some (Some seat)) ⊎ ((i ≡ length seats) × (place ≡ seat))
at_more [] zero place seat is = inr (refl, ap (seat_or place) is)
at_more [] (suc i) place seat is = absurd (cc)
at_more (s ∷ seats) zero place seat is = inl is
at_more (s ∷ seats) (suc i) place seat is = one_on (at_more seats i place seat is)
  where
    one_on : (slice_get seats i ≡ Some (Some seat)) ⊎ ((i ≡ length seats) × (place ≡ seat)) → (slice_get seats i ≡ Some (Some seat)) ⊎ ((suc i ≡ length (s ∷ seats)) × (place ≡ seat))
    one_on (inl there) = inl there
    one_on (inr last) = inr (ap suc last.0, last.1)

pub placed_more : (table : TableId) (seats new : List (Option FreeAt)) (one : FreeAt) → AreInPlace table seats → one ≡ free_at table (length seats) → new ≡ seats ++ Some one ∷ [] → AreInPlace table new
placed_more table seats new one placed last is = λ i seat there. by_case i seat (at_more seats i one seat (ap (λ ss. slice_get ss i) (sym is) ∙ there))
  where
    by_case : (i : ℕ) (seat : FreeAt) → (slice_get seats i ≡ Some (Some seat)) ⊎ ((i ≡ length seats) × (one ≡ seat)) → seat ≡ free_at table i
    by_case i seat (inl there) = placed i seat there
    by_case i seat (inr here) = sym here.1 ∙ (last ∙ ap (free_at table) (sym here.0))

-- what is kept at a place, where something is
abbrev slot_or : Option FreeAt → Option (Option FreeAt) → Option FreeAt
slot_or x None = x
slot_or x (Some y) = y

-- one is taken out or put back
pub placed_set : (table : TableId) (seats : List (Option FreeAt)) (place : ℕ) (x : Option FreeAt) → AreInPlace table seats → place < length seats → ((seat : FreeAt) → x ≡ Some seat → seat ≡ free_at table place) → AreInPlace table (slice_set seats place x)
placed_set table seats place x placed within own = λ i seat there. by_case i seat there (ℕ_discrete i place)
  where
    by_case : (i : ℕ) (seat : FreeAt) → slice_get (slice_set seats place x) i ≡ Some (Some seat) → Dec (i ≡ place) → seat ≡ free_at table i
    by_case i seat there (yes same) =
        own seat (ap (slot_or x) (sym (set_here seats place x within) ∙ (ap (slice_get (slice_set seats place x)) (sym same) ∙ there))) ∙ ap (free_at table) (sym same)
    by_case i seat there (no apart) = placed i seat (sym (set_apart seats place i x apart) ∙ there)

abbrev seat_in : FreeAt → Option FreeAt → FreeAt
seat_in x None = x
seat_in x (Some seat) = seat

none_there : (table : TableId) (place : ℕ) (seat : FreeAt) → None ≡ Some seat → seat ≡ free_at table place
none_there table place seat is = absurd (cc)

pub placed_out : (table : TableId) (seats : List (Option FreeAt)) (place : ℕ) → AreInPlace table seats → place < length seats → AreInPlace table (slice_set seats place None)
placed_out table seats place placed within = placed_set table seats place None placed within (none_there table place)

pub placed_back : (table : TableId) (seats : List (Option FreeAt)) (place : ℕ) (one : FreeAt) → AreInPlace table seats → place < length seats → one ≡ free_at table place → AreInPlace table (slice_set seats place (Some one))
placed_back table seats place one placed within is = placed_set table seats place (Some one) placed within (λ seat same. sym (ap (seat_in one) same) ∙ is)

-- one that was free is lent
one_lent : (seats : List (Option FreeAt)) (i : ℕ) (x : FreeAt) → slice_get seats i ≡ Some (Some x) → sessions_in (slice_set seats i None) ≡ sessions_in seats + 1
one_lent [] i x is = absurd (cc)
one_lent (None ∷ seats) zero x is = absurd (cc)
one_lent (Some y ∷ seats) zero x is = refl
one_lent (None ∷ seats) (suc i) x is = ap (λ n. n + 1) (one_lent seats i x is)
one_lent (Some y ∷ seats) (suc i) x is = one_lent seats i x is

-- one that was lent is so still
pub still_lent : (seats : List (Option FreeAt)) (i : ℕ) → slice_get seats i ≡ Some None → slice_set seats i None ≡ seats
still_lent [] i is = refl
still_lent (None ∷ seats) zero is = refl
still_lent (Some y ∷ seats) zero is = absurd (cc)
still_lent (s ∷ seats) (suc i) is = ap (λ ss. s ∷ ss) (still_lent seats i is)

-- one that was lent comes back
one_back : (seats : List (Option FreeAt)) (i : ℕ) (x : FreeAt) → slice_get seats i ≡ Some None → sessions_in (slice_set seats i (Some x)) + 1 ≡ sessions_in seats
one_back [] i x is = absurd (cc)
one_back (None ∷ seats) zero x is = refl
one_back (Some y ∷ seats) zero x is = absurd (cc)
one_back (None ∷ seats) (suc i) x is = ap (λ n. n + 1) (one_back seats i x is)
one_back (Some y ∷ seats) (suc i) x is = one_back seats i x is

-- who has a session has a seat that is lent
lent_there : (o : Option (Option FreeAt)) → is_lent o ≡ true → o ≡ Some None
lent_there None is = absurd (cc)
lent_there (Some None) is = refl
lent_there (Some (Some x)) is = absurd (cc)

pub seat_back : (seats : List (Option FreeAt)) (place : ℕ) (x : FreeAt) → has_session seats (place + 1) ≡ true → sessions_in (slice_set seats place (Some x)) + 1 ≡ sessions_in seats
seat_back seats place x lent =
    let index : place + 1 - 1 ≡ place = omega arith in
    one_back seats place x (lent_there (slice_get seats place) (ap (λ i. is_lent (slice_get seats i)) (sym index) ∙ lent))

some_in : (seats : List (Option FreeAt)) (i : ℕ) → slice_get seats i ≡ Some None → 1 ≤ sessions_in seats
some_in [] i is = absurd (cc)
some_in (None ∷ seats) i is = omega arith
some_in (Some y ∷ seats) zero is = absurd (cc)
some_in (Some y ∷ seats) (suc i) is = some_in seats i is

pub some_session : (seats : List (Option FreeAt)) (job : ℕ) → has_session seats job ≡ true → 1 ≤ sessions_in seats
some_session seats job lent = some_in seats (job - 1) (lent_there (slice_get seats (job - 1)) lent)

-- the seat at a job's place is taken out
pub record IsLentOut (table : TableId) (old seats : List (Option FreeAt)) (place job : ℕ) (seat : FreeAt) : Type 0 where
  pub here : seat.place + 1 ≡ job
  pub table_is : seat.table ≡ table
  pub free : has_session old job ≡ false
  pub lent : SessionIs true job old (slice_set seats place None)
  pub one_more : sessions_in (slice_set seats place None) ≡ sessions_in seats + 1

pub lent_out : (table : TableId) (old seats : List (Option FreeAt)) (place job : ℕ) (seat : FreeAt) (slot : Option FreeAt) → SameSessions old seats → AreInPlace table seats → place + 1 ≡ job → place < length seats → slot ≡ get_or seats place slot → slot ≡ Some seat → IsLentOut table old seats place job seat
lent_out table old seats place job seat slot same in_place here within read is =
    let there : slice_get seats place ≡ Some (Some seat) = slice_get_read seats (length seats) place slot refl within read ∙ ap Some is in
    let at_seat : seat ≡ free_at table place = in_place place seat there in
    let at_place : seat.place ≡ place = ap (λ (f : FreeAt). f.place) at_seat in
    let index : job - 1 ≡ place = omega arith in
    let now_free : has_session seats job ≡ false = ap (λ i. is_lent (slice_get seats i)) index ∙ ap is_lent there in
    let from : 1 ≤ job = omega arith in record {
      here = omega arith;
      table_is = ap (λ (f : FreeAt). f.table) at_seat;
      free = sym (same job from) ∙ now_free;
      lent = record {
        this = ap (λ i. is_lent (slice_get (slice_set seats place None) i)) index ∙ ap is_lent (set_here seats place None within);
        others = λ other one apart. let ne : other - 1 ≢ place = (λ e. apart (omega arith)) in ap is_lent (set_apart seats place (other - 1) None ne) ∙ same other one;
      };
      one_more = one_lent seats place seat there;
    }
