-- Tallies in a list: one more at a number, and room for it.
use Rattle.std.proofs.Common.{◌≡◌, ℕ, zero, suc, ◌+◌, ◌-◌, ◌^◌, ◌≤◌, ◌<◌, min, List, [], ◌∷◌, ◌++◌, length, refl, sym, ap, ◌∙◌, arith, get_or, slice_set}
use Rattle.std.specs.Prelude.{slice_index}
use Rattle.journal.specs.Counting.{Tallies, tally_in, one_more}

pub one_here : (job : ℕ) (ts : Tallies) → tally_in (one_more job ts) job ≡ min (tally_in ts job + 1) (2 ^ 64 - 1)
one_here zero [] = refl
one_here zero (n ∷ ns) = refl
one_here (suc job) [] = one_here job []
one_here (suc job) (n ∷ ns) = one_here job ns

pub one_apart : (job q : ℕ) (ts : Tallies) → (job ≡ q → ⊥) → tally_in (one_more job ts) q ≡ tally_in ts q
one_apart zero zero ts apart = absurd (apart refl)
one_apart zero (suc q) [] apart = refl
one_apart zero (suc q) (n ∷ ns) apart = refl
one_apart (suc job) zero [] apart = refl
one_apart (suc job) zero (n ∷ ns) apart = refl
one_apart (suc job) (suc q) [] apart = one_apart job q [] (λ e. apart (ap suc e))
one_apart (suc job) (suc q) (n ∷ ns) apart = one_apart job q ns (λ e. apart (ap suc e))

-- a place more, which has 0
pub room_same : (ts : Tallies) (q : ℕ) → tally_in (ts ++ 0 ∷ []) q ≡ tally_in ts q
room_same [] zero = refl
room_same [] (suc q) = refl
room_same (n ∷ ns) zero = refl
room_same (n ∷ ns) (suc q) = room_same ns q

pub room_one : (ts : Tallies) (job : ℕ) → length ts ≤ job → one_more job (ts ++ 0 ∷ []) ≡ one_more job ts
room_one [] zero past = refl
room_one [] (suc job) past = refl
room_one (n ∷ ns) zero past = absurd (omega (arith, past))
room_one (n ∷ ns) (suc job) past = ap (λ ts. n ∷ ts) (room_one ns job (omega (arith, past)))

-- where the number has room, one more is written there
pub one_set : (ts : Tallies) (job x : ℕ) → job < length ts → x ≡ min (tally_in ts job + 1) (2 ^ 64 - 1) → slice_set ts job x ≡ one_more job ts
one_set [] job x less is = absurd (omega (arith, less))
one_set (n ∷ ns) zero x less is = ap (λ y. y ∷ ns) is
one_set (n ∷ ns) (suc job) x less is = ap (λ ts. n ∷ ts) (one_set ns job x (omega (arith, less)) is)

-- what is read at a number
pub read_at : (ts : Tallies) (job d : ℕ) → job < length ts → d ≡ get_or ts job d → d ≡ tally_in ts job
read_at [] job d less is = absurd (omega (arith, less))
read_at (n ∷ ns) zero d less is = is
read_at (n ∷ ns) (suc job) d less is = read_at ns job d (omega (arith, less)) is
