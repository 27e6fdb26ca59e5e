-- $GETs that are gathered, and their claims.
use Rattle.std.proofs.Common.{◌≡◌, ℕ, ◌+◌, ◌-◌, ◌^◌, ◌<◌, ◌≤◌, zero, suc, min, List, [], ◌∷◌, ◌++◌, length, drop, get_or, refl, sym, ap, ◌∙◌, subst, arith, length-append, Bool, true, false, ◌⊎◌, inl, inr}
use Rattle.std.specs.Prelude.{cond, filter, ◌==◌}
use Rattle.std.specs.List.{All}
use Rattle.std.proofs.lemmas.List.{drop_all, drop_more}
use Rattle.std.proofs.lemmas.List.Elements.{All-nil, All-push, All-head, All-tail, All-get_or, filter-append}
use Rattle.std.proofs.lemmas.Bool.Decides.{eqb_tells}
use Rattle.collation.specs.Reference.{Reference}
use Rattle.journal.specs.declared.unit.Unit.{Unit as JournalUnit}
use Rattle.journal.specs.declared.unit.Unit.TheVariants.{Lone, End}
use Rattle.journal.specs.Counting.{Tallies, tally_in, tally_of, is_counted, AreTallies}
use Rattle.journal.specs.Gathered.{Gathered, got, IsGetOf, AreGets}
use Rattle.journal.specs.Claims.{first_unit}
use Rattle.journal.specs.Kept.{Claim, claims_of, job_of}
use Rattle.journal.specs.Log.{Stands, units_in}
use Rattle.journal.specs.Format.{unit_bytes}
use Rattle.journal.specs.Stored.{FitsUnit}
use Rattle.journal.specs.laws.Log.{units_again, stands_more}
use Rattle.journal.proofs.Logs.{none_in}
use Rattle.journal.proofs.Moves.{no_more}

pub none_gathered : (job : ℕ) (bytes : List ℕ) → AreGets (record { job = job; units = units_in 0 bytes })
none_gathered job bytes = subst (All (IsGetOf job)) (sym (none_in bytes)) (All-nil (IsGetOf job))

-- one more
pub record IsOneMore (job : ℕ) (units : List JournalUnit) (unit : JournalUnit) (bytes : List ℕ) (count : ℕ) : Type 0 where
  pub stands : Stands bytes count (units_in count bytes)
  pub gets : AreGets (record { job = job; units = units_in count bytes })
  pub units_are : units_in count bytes ≡ units ++ unit ∷ []

pub one_gathered : (job : ℕ) (bytes all : List ℕ) (count : ℕ) (key : Reference) (value : List ℕ) → Stands bytes count (units_in count bytes) → AreGets (record { job = job; units = units_in count bytes }) → FitsUnit (got job key value) → all ≡ bytes ++ unit_bytes (got job key value)
    → IsOneMore job (units_in count bytes) (got job key value) all (count + 1)
one_gathered job bytes all count key value stands gets fits is =
    let us = units_in count bytes in
    let unit = got job key value in
    let more : Stands all (count + 1) (us ++ unit ∷ []) = subst (λ bs. Stands bs (count + 1) (us ++ unit ∷ [])) (sym is) (stands_more bytes count us unit stands fits) in
    let again : units_in (count + 1) all ≡ us ++ unit ∷ [] = units_again all (count + 1) (us ++ unit ∷ []) more in
    record {
      stands = subst (Stands all (count + 1)) (sym again) more;
      gets = subst (All (IsGetOf job)) (sym again) (All-push (IsGetOf job) us unit gets (key, value, refl));
      units_are = again;
    }

-- the first claim left
job_is : (job : ℕ) (unit : JournalUnit) → IsGetOf job unit → job_of unit ≡ job
job_is job unit is = ap job_of is.2

pub claims_next : (job number left : ℕ) (units : List JournalUnit) → 1 ≤ left → left ≤ length units → All (IsGetOf job) units
    → claims_of (number + 1) (drop (length units - left) units) ≡ (record { job = job; number = number + 1; unit = first_unit (claims_of (number + 1) (drop (length units - left) units)) job }) ∷ claims_of (number + 1 + 1) (drop (length units - (left - 1)) units)
claims_next job number left units some within gets =
    let i = length units - left in
    let u = get_or units i (End job) in
    let cs = claims_of (number + 1) (drop i units) in
    let inside : i < length units = omega (arith, some, within) in
    let owner : job_of u ≡ job = job_is job u (All-get_or (IsGetOf job) units i (End job) inside gets) in
    let front : drop i units ≡ u ∷ drop (i + 1) units = drop_more units i (End job) inside in
    let next : i + 1 ≡ length units - (left - 1) = omega (arith, some, within) in
    let split : cs ≡ (record { job = job; number = number + 1; unit = u }) ∷ claims_of (number + 1 + 1) (drop (length units - (left - 1)) units) =
    ap (claims_of (number + 1)) front ∙ (λ k. (record { job = owner k; number = number + 1; unit = u }) ∷ claims_of (number + 1 + 1) (drop (next k) units)) in
    let first : u ≡ first_unit cs job = ap (λ (xs : List Claim). first_unit xs job) (sym split) in
    split ∙ ap (λ (x : JournalUnit). (record { job = job; number = number + 1; unit = x }) ∷ claims_of (number + 1 + 1) (drop (length units - (left - 1)) units)) first

pub claims_none : (number left : ℕ) (units : List JournalUnit) → left ≡ 0 → claims_of (number + 1) (drop (length units - left) units) ≡ []
claims_none number left units none = ap (claims_of (number + 1)) (drop_all (length units - left) units (omega (arith, none)))

pub claims_all : (number left : ℕ) (units all : List JournalUnit) → left ≡ length units → all ≡ units → claims_of (number + 1) (drop (length all - left) all) ≡ claims_of (number + 1) units
claims_all number left units all is same = subst (λ us. claims_of (number + 1) (drop (length us - left) us) ≡ claims_of (number + 1) units) (sym same) (ap (λ n. claims_of (number + 1) (drop n units)) (the_first (length units - left) (omega (arith, is))))
  where
    the_first : (n : ℕ) → n ≡ 0 → n ≡ 0
    the_first n is = is

-- ---- tallies

self_equal : (n : ℕ) → (n == n) ≡ true
self_equal n = by_case (eqb_tells n n)
  where
    by_case : (((n == n) ≡ true) × (n ≡ n)) ⊎ (((n == n) ≡ false) × (n ≡ n → ⊥)) → (n == n) ≡ true
    by_case (inl same) = same.0
    by_case (inr other) = absurd (other.1 refl)

-- a job's $GETs count in its tally, and in no other
gets_count : (job : ℕ) (units : List JournalUnit) → All (IsGetOf job) units → tally_of job units ≡ length units
gets_count job [] h = refl
gets_count job (u ∷ us) h =
    let first = All-head (IsGetOf job) u us h in
    let counted : is_counted job u ≡ true = ap (is_counted job) first.2 ∙ self_equal job in
    ap (λ b. length (cond b (u ∷ filter (is_counted job) us) (filter (is_counted job) us))) counted ∙ ap suc (gets_count job us (All-tail (IsGetOf job) u us h))

gets_apart : (job q : ℕ) (units : List JournalUnit) → (job == q) ≡ false → All (IsGetOf job) units → tally_of q units ≡ 0
gets_apart job q [] apart h = refl
gets_apart job q (u ∷ us) apart h =
    let first = All-head (IsGetOf job) u us h in
    let counted : is_counted q u ≡ false = ap (is_counted q) first.2 ∙ apart in
    ap (λ b. length (cond b (u ∷ filter (is_counted q) us) (filter (is_counted q) us))) counted ∙ gets_apart job q us apart (All-tail (IsGetOf job) u us h)

tally_joined : (q : ℕ) (us vs : List JournalUnit) → tally_of q (us ++ vs) ≡ tally_of q us + tally_of q vs
tally_joined q us vs = ap length (filter-append (is_counted q) us vs) ∙ length-append (filter (is_counted q) us) (filter (is_counted q) vs)

pub gets_tallied : (ts now : Tallies) (job : ℕ) (us vs all : List JournalUnit) → AreTallies ts us → All (IsGetOf job) vs → length us + length vs < 2 ^ 64 → all ≡ us ++ vs → tally_in now job ≡ min (tally_in ts job + length vs) (2 ^ 64 - 1)
    → ((q : ℕ) → (job ≡ q → ⊥) → tally_in now q ≡ tally_in ts q) → AreTallies now all
gets_tallied ts now job us vs all h gets less is this others q some = subst (λ xs. tally_in now q ≡ tally_of q xs) (sym is) (by_case (eqb_tells job q))
  where
    by_case : (((job == q) ≡ true) × (job ≡ q)) ⊎ (((job == q) ≡ false) × (job ≡ q → ⊥)) → tally_in now q ≡ tally_of q (us ++ vs)
    by_case (inl same) =
        let few : tally_of q us ≤ length us = no_more (is_counted q) us in
        let was : tally_in ts job ≡ tally_of q us = ap (tally_in ts) same.1 ∙ h q some in
        let more : tally_of q vs ≡ length vs = ap (λ j. tally_of j vs) (sym same.1) ∙ gets_count job vs gets in
        let joined = tally_joined q us vs in
        ap (tally_in now) (sym same.1) ∙ (this ∙ omega (arith, few, was, more, joined, less))
    by_case (inr other) =
        let more : tally_of q vs ≡ 0 = gets_apart job q vs other.0 gets in
        let joined = tally_joined q us vs in
        others q other.1 ∙ (h q some ∙ omega (arith, more, joined))
