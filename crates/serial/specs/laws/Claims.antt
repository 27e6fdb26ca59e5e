-- Where the slips are all units, each place has its unit on one of them.
use Rattle.std.proofs.Common.{◌≡◌, ℕ, ◌+◌, ◌<◌, ◌≤◌, ◌==◌, Bool, true, false, List, [], ◌∷◌, length, refl, ap, ◌⊎◌, inl, inr, arith, eq-eqb}
use Rattle.std.specs.Prelude.{cond}
use Rattle.std.specs.List.{sum_by}
use Rattle.std.proofs.lemmas.Bool.{eqb-true}
use Rattle.std.proofs.lemmas.List.Sums.{sum_by-cons}
use Rattle.journal.specs.declared.unit.Unit.{Unit as JournalUnit}
use Rattle.journal.specs.Kept.{Claim, claims_of, job_of}
use Rattle.serial.specs.Interleaving.{IsClaimed, EachIsClaimed}

abbrev has_number : ℕ → Claim → ℕ
has_number n c = cond (c.number == n) 1 0

found : (n : ℕ) (mine : List Claim) → 0 < sum_by (has_number n) mine → IsClaimed n mine
found n [] some = absurd (omega (arith, some))
found n (c ∷ cs) some = by_test (found n cs) (c.number == n) refl
  where
    by_test : (0 < sum_by (has_number n) cs → IsClaimed n cs) → (b : Bool) → (c.number == n) ≡ b → IsClaimed n (c ∷ cs)
    by_test later true e = inl (eqb-true c.number n e)
    by_test later false e = let none : has_number n c ≡ 0 = ap (λ b. cond b 1 0) e in let s = sum_by-cons (has_number n) c cs in inr (later (omega (arith, some, none, s)))

there : (n m : ℕ) (log : List JournalUnit) → n ≤ m → m < n + length log → 0 < sum_by (has_number m) (claims_of n log)
there n m [] low high = absurd (omega (arith, low, high))
there n m (u ∷ us) low high = by_order (there (n + 1) m us) (is_or_above n m low)
  where
    is_or_above : (a b : ℕ) → a ≤ b → (a ≡ b) ⊎ (a + 1 ≤ b)
    is_or_above a b le = grind arith

    first : Claim
    first = record { job = job_of u; number = n; unit = u }

    by_order : (n + 1 ≤ m → m < (n + 1) + length us → 0 < sum_by (has_number m) (claims_of (n + 1) us)) → (n ≡ m) ⊎ (n + 1 ≤ m) → 0 < sum_by (has_number m) (claims_of n (u ∷ us))
    by_order again (inl is) = let one : has_number m first ≡ 1 = ap (λ b. cond b 1 0) (eq-eqb n m is) in let s = sum_by-cons (has_number m) first (claims_of (n + 1) us) in omega (arith, one, s)
    by_order again (inr above) = let r = again above (omega (arith, high)) in let s = sum_by-cons (has_number m) first (claims_of (n + 1) us) in omega (arith, r, s)

pub each_is_claimed : EachIsClaimed
each_is_claimed log mine all k less = let t = there 1 (k + 1) log (omega arith) (omega (arith, less)) in let e = all (has_number (k + 1)) in found (k + 1) mine (omega (arith, t, e))
