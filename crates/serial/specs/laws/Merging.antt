-- Histories of jobs, sorted by their places, are one run of the machine.
use Rattle.std.proofs.Common.{◌≡◌, ℕ, ◌+◌, ◌≤◌, ◌<◌, ◌==◌, Bool, true, false, List, [], ◌∷◌, length, take, refl, sym, ap, subst, ◌∙◌, ◌⊎◌, inl, inr, ⊎_elim, arith, le_refl, eq-eqb, eqb-true}
use Rattle.std.proofs.lemmas.Bool.{ltb-true, ltb-false}
use Rattle.std.specs.Prelude.{⊤, cond, ltb, Some}
use Rattle.std.proofs.lemmas.List.{take_all}
use Rattle.journal.specs.declared.unit.Unit.{Unit as JournalUnit}
use Rattle.journal.specs.Kept.{job_of}
use Rattle.journal.specs.Story.{Machine, nothing_done, transaction_of, told}
use Rattle.serial.specs.Machine.{IsReply}
use Rattle.serial.specs.laws.Traces.{alike_told}
use Rattle.serial.specs.laws.ByJob.{same_or_not}
use Rattle.serial.specs.Interleaving.{Told, of_job, standing, after_told, IsUnitOf, IsToldAt, IsHistory, IsWritten, AreWritten, IsOneRun, OneInterleaving}
use Rattle.serial.specs.laws.Alone.{SameView, same_told, same_reply}

-- in this order a step that writes a unit comes behind all that stand before it
abbrev pub place : Told → ℕ
place x = x.at + x.upto

-- none of these stands before this place
abbrev pub AreFrom : ℕ → List Told → Type 0
AreFrom k [] = ⊤
AreFrom k (x ∷ xs) = (k ≤ place x) × AreFrom k xs

-- they are in that order
abbrev pub AreSorted : List Told → Type 0
AreSorted [] = ⊤
AreSorted (x ∷ xs) = AreFrom (place x) xs × AreSorted xs

-- what a job was told depends on its own transaction alone
same_standing : (log : List JournalUnit) (job n : ℕ) (s t : Machine) → transaction_of job s ≡ transaction_of job t → SameView job (standing n log s) (standing n log t)
same_standing log job n s t e = record { units = refl; mine = e }

same_after : (log : List JournalUnit) (job : ℕ) (s t : Machine) (x : Told) → x.job ≡ job → transaction_of job s ≡ transaction_of job t → SameView x.job (after_told log s x) (after_told log t x)
same_after log job s t x is e = same_told x.job x.command x.reply (standing x.at log s) (standing x.at log t) (same_standing log x.job x.at s t (subst (λ q. transaction_of q s ≡ transaction_of q t) (sym is) e))

same_at : (log : List JournalUnit) (job n : ℕ) (s t : Machine) (x : Told) → x.job ≡ job → transaction_of job s ≡ transaction_of job t → IsToldAt log n s x → IsToldAt log n t x
same_at log job n s t x is e h = record {
  from = h.from;
  within = h.within;
  one = h.one;
  reply = same_reply x.job x.command x.reply (standing x.at log s) (standing x.at log t) (same_standing log x.job x.at s t (subst (λ q. transaction_of q s ≡ transaction_of q t) (sym is) e)) h.reply;
  units = sym (same_after log job s t x is e).units ∙ h.units;
  own = h.own;
}

pub same_history : (log : List JournalUnit) (job n : ℕ) (s t : Machine) (xs : List Told) → transaction_of job s ≡ transaction_of job t → IsHistory log job n s xs → IsHistory log job n t xs
same_history log job n s t [] e h = h
same_history log job n s t (x ∷ xs) e h = (
  h.0,
  same_at log job n s t x h.0 e h.1,
  same_history log job x.upto (after_told log s x) (after_told log t x) xs (subst (λ q. transaction_of q (after_told log s x) ≡ transaction_of q (after_told log t x)) h.0 (same_after log job s t x h.0 e).mine) h.2,
)

-- ---- places

written_from : (k n : ℕ) (xs : List Told) → AreFrom k xs → IsWritten n xs → k ≤ n + (n + 1)
written_from k n [] from h = absurd h
written_from k n (x ∷ xs) from (inl is) = omega (arith, from.0, is.0, is.1)
written_from k n (x ∷ xs) from (inr later) = written_from k n xs from.1 later

not_short : (x : Told) → (x.upto ≡ x.at) ⊎ (x.upto ≡ x.at + 1) → x.at ≤ x.upto
not_short x (inl e) = omega (arith, e)
not_short x (inr e) = omega (arith, e)

-- the first stands where so many units stand: else nobody would write the next
first_now : (log : List JournalUnit) (n : ℕ) (s : Machine) (x : Told) (xs : List Told) → IsToldAt log n s x → AreFrom (place x) xs → AreWritten log n (x ∷ xs) → x.at ≡ n
first_now log n s x xs h from written = by_order (nat_or n x.at h.from)
  where
    nat_or : (a b : ℕ) → a ≤ b → (b ≡ a) ⊎ (a < b)
    nat_or a b le = grind arith

    by_order : (x.at ≡ n) ⊎ (n < x.at) → x.at ≡ n
    by_order (inl is) = is
    by_order (inr less) =
        let ns = not_short x h.one in let w = h.within in
        ⊎_elim (λ (t : (x.at ≡ n) × (x.upto ≡ n + 1)). t.0) (λ (later : IsWritten n xs). let f = written_from (place x) n xs from later in absurd (omega (arith, f, less, ns))) (written n (le_refl n) (omega (arith, less, ns, w)))

-- ---- who is first, and the others

not_same : (a b : ℕ) → (a ≡ b → ⊥) → (a == b) ≡ false
not_same a b ne = by_test (a == b) refl
  where
    by_test : (t : Bool) → (a == b) ≡ t → (a == b) ≡ false
    by_test true e = absurd (ne (eqb-true a b e))
    by_test false e = e

mine_first : (x : Told) (xs : List Told) → of_job x.job (x ∷ xs) ≡ x ∷ of_job x.job xs
mine_first x xs = ap (λ b. cond b (x ∷ of_job x.job xs) (of_job x.job xs)) (eq-eqb x.job x.job refl)

not_mine : (job : ℕ) (x : Told) (xs : List Told) → (x.job ≡ job → ⊥) → of_job job (x ∷ xs) ≡ of_job job xs
not_mine job x xs ne = ap (λ b. cond b (x ∷ of_job job xs) (of_job job xs)) (not_same x.job job ne)

from_of_job : (k job : ℕ) (xs : List Told) → AreFrom k xs → AreFrom k (of_job job xs)
from_of_job k job [] from = from
from_of_job k job (x ∷ xs) from = elim (x.job == job) as (λ b. AreFrom k (cond b (x ∷ of_job job xs) (of_job job xs))) [ true ↦ (from.0, from_of_job k job xs from.1) | false ↦ from_of_job k job xs from.1 ]

-- a unit is of one job
one_writer : (log : List JournalUnit) (k a b : ℕ) → IsUnitOf log k a → IsUnitOf log k b → a ≡ b
one_writer log k a b x y = let e : Some x.0 ≡ Some y.0 = sym x.1 ∙ y.1 in let u : x.0 ≡ y.0 = cc in sym x.2 ∙ ap job_of u ∙ y.2

-- what another job was told comes behind
others_behind : (log : List JournalUnit) (job n : ℕ) (s t : Machine) (x : Told) (ys : List Told) → x.at ≡ n → (x.job ≡ job → ⊥) → IsToldAt log n t x → AreFrom (place x) ys → IsHistory log job n s ys → IsHistory log job x.upto s ys
others_behind log job n s t x [] now ne h from others = others
others_behind log job n s t x (y ∷ ys) now ne h from others = (others.0, record { from = by_unit h.one; within = others.1.within; one = others.1.one; reply = others.1.reply; units = others.1.units; own = others.1.own }, others.2)
  where
    low : n ≤ y.at
    low = others.1.from

    both : x.upto ≡ x.at + 1 → y.at ≡ n → (y.upto ≡ y.at) ⊎ (y.upto ≡ y.at + 1) → ⊥
    both e is (inl none) = let f = from.0 in omega (arith, f, e, is, none, now)
    both e is (inr some) = ne (one_writer log n x.job job (subst (λ k. IsUnitOf log k x.job) now (h.own e)) (subst (IsUnitOf log n) others.0 (subst (λ k. IsUnitOf log k y.job) is (others.1.own some))))

    by_unit : (x.upto ≡ x.at) ⊎ (x.upto ≡ x.at + 1) → x.upto ≤ y.at
    by_unit (inl none) = omega (arith, none, now, low)
    by_unit (inr some) = by_place (at_or n y.at low)
      where
        at_or : (a b : ℕ) → a ≤ b → (b ≡ a) ⊎ (a < b)
        at_or a b le = grind arith

        by_place : (y.at ≡ n) ⊎ (n < y.at) → x.upto ≤ y.at
        by_place (inl is) = absurd (both some is others.1.one)
        by_place (inr less) = omega (arith, some, now, less)

-- ---- the run

module _ (log : List JournalUnit) where
  pub merged : (xs : List Told) (n : ℕ) (s : Machine) → s.units ≡ take n log → n ≤ length log → AreSorted xs → ((job : ℕ) → IsHistory log job n s (of_job job xs)) → AreWritten log n xs → IsOneRun log s xs
  merged [] n s us le sorted h written = record { replies = tt; story = us ∙ take_all n log (by_order (at_or n (length log) le)) }
    where
      at_or : (a b : ℕ) → a ≤ b → (b ≤ a) ⊎ (a < b)
      at_or a b c = grind arith

      by_order : (length log ≤ n) ⊎ (n < length log) → length log ≤ n
      by_order (inl is) = is
      by_order (inr less) = absurd (written n (le_refl n) less)
  merged (x ∷ xs) n s us le sorted h written =
      let rest : IsOneRun log then xs = merged xs x.upto then units_then own.1.within sorted.1 histories left_to_write in
      record { replies = (subst (IsReply x.job x.command x.reply) here own.1.reply, rest.replies); story = rest.story }
    where
      own : (x.job ≡ x.job) × IsToldAt log n s x × IsHistory log x.job x.upto (after_told log s x) (of_job x.job xs)
      own = subst (IsHistory log x.job n s) (mine_first x xs) (h x.job)

      now : x.at ≡ n
      now = first_now log n s x xs own.1 sorted.0 written

      here : standing x.at log s ≡ s
      here = λ i. record { units = (ap (λ k. take k log) now ∙ sym us) i; transactions = s.transactions }

      then : Machine
      then = told x.job x.command x.reply s

      after_is : after_told log s x ≡ then
      after_is = ap (told x.job x.command x.reply) here

      units_then : then.units ≡ take x.upto log
      units_then = sym (ap (λ (m : Machine). m.units) after_is) ∙ own.1.units

      histories : (job : ℕ) → IsHistory log job x.upto then (of_job job xs)
      histories job = by_job (same_or_not x.job job)
        where
          by_job : (job ≡ x.job) ⊎ (x.job ≡ job → ⊥) → IsHistory log job x.upto then (of_job job xs)
          by_job (inl is) = subst (λ q. IsHistory log q x.upto then (of_job q xs)) (sym is) (subst (λ m. IsHistory log x.job x.upto m (of_job x.job xs)) after_is own.2)
          by_job (inr ne) =
              same_history log job x.upto s then (of_job job xs) (sym (alike_told job x.job (λ e. ne (sym e)) x.command x.reply s).transaction)
              (others_behind log job n s s x (of_job job xs) now ne own.1 (from_of_job (place x) job xs sorted.0) (subst (IsHistory log job n s) (not_mine job x xs ne) (h job)))

      left_to_write : AreWritten log x.upto xs
      left_to_write k a b = let ns = not_short x own.1.one in ⊎_elim (λ (t : (x.at ≡ k) × (x.upto ≡ k + 1)). absurd (omega (arith, a, t.1))) (λ later. later) (written k (omega (arith, a, ns, now)) b)

-- ---- in the order of their places

abbrev pub put_in : Told → List Told → List Told
put_in x [] = x ∷ []
put_in x (y ∷ ys) = cond (ltb (place y) (place x)) (y ∷ put_in x ys) (x ∷ y ∷ ys)

abbrev pub in_order : List Told → List Told
in_order [] = []
in_order (x ∷ xs) = put_in x (in_order xs)

from_less : (j k : ℕ) (xs : List Told) → j ≤ k → AreFrom k xs → AreFrom j xs
from_less j k [] le from = from
from_less j k (x ∷ xs) le from = (omega (arith, le, from.0), from_less j k xs le from.1)

from_put : (k : ℕ) (x : Told) (ys : List Told) → k ≤ place x → AreFrom k ys → AreFrom k (put_in x ys)
from_put k x [] le from = (le, from)
from_put k x (y ∷ ys) le from = elim (ltb (place y) (place x)) as (λ b. AreFrom k (cond b (y ∷ put_in x ys) (x ∷ y ∷ ys))) [ true ↦ (from.0, from_put k x ys le from.1) | false ↦ (le, from) ]

sorted_put : (x : Told) (ys : List Told) → AreSorted ys → AreSorted (put_in x ys)
sorted_put x [] sorted = (tt, tt)
sorted_put x (y ∷ ys) sorted = by_test (sorted_put x ys sorted.1) (ltb (place y) (place x)) refl
  where
    by_test : AreSorted (put_in x ys) → (b : Bool) → ltb (place y) (place x) ≡ b → AreSorted (cond b (y ∷ put_in x ys) (x ∷ y ∷ ys))
    by_test again true e = let less = ltb-true (place y) (place x) e in (from_put (place y) x ys (omega (arith, less)) sorted.0, again)
    by_test again false e = let le = ltb-false (place y) (place x) e in ((le, from_less (place x) (place y) ys le sorted.0), sorted)

sorted_in_order : (xs : List Told) → AreSorted (in_order xs)
sorted_in_order [] = tt
sorted_in_order (x ∷ xs) = sorted_put x (in_order xs) (sorted_in_order xs)

-- its own job's are behind it
own_put : (x : Told) (ys : List Told) → AreFrom (place x) (of_job x.job ys) → of_job x.job (put_in x ys) ≡ x ∷ of_job x.job ys
own_put x [] from = mine_first x []
own_put x (y ∷ ys) from = by_test (own_put x ys) (ltb (place y) (place x)) refl
  where
    less : ltb (place y) (place x) ≡ true → y.job ≡ x.job → ⊥
    less e is = let l = ltb-true (place y) (place x) e in
        let f : AreFrom (place x) (y ∷ of_job x.job ys) = subst (λ b. AreFrom (place x) (cond b (y ∷ of_job x.job ys) (of_job x.job ys))) (eq-eqb y.job x.job is) from in
        omega (arith, l, f.0)

    by_test : (AreFrom (place x) (of_job x.job ys) → of_job x.job (put_in x ys) ≡ x ∷ of_job x.job ys) → (b : Bool) → ltb (place y) (place x) ≡ b → of_job x.job (cond b (y ∷ put_in x ys) (x ∷ y ∷ ys)) ≡ x ∷ of_job x.job (y ∷ ys)
    by_test again true e = not_mine x.job y (put_in x ys) (less e) ∙ again (subst (AreFrom (place x)) (not_mine x.job y ys (less e)) from) ∙ ap (λ zs. x ∷ zs) (sym (not_mine x.job y ys (less e)))
    by_test again false e = mine_first x (y ∷ ys)

others_put : (job : ℕ) (x : Told) (ys : List Told) → (x.job ≡ job → ⊥) → of_job job (put_in x ys) ≡ of_job job ys
others_put job x [] ne = not_mine job x [] ne
others_put job x (y ∷ ys) ne = by_test (others_put job x ys ne) (ltb (place y) (place x))
  where
    by_test : of_job job (put_in x ys) ≡ of_job job ys → (b : Bool) → of_job job (cond b (y ∷ put_in x ys) (x ∷ y ∷ ys)) ≡ of_job job (y ∷ ys)
    by_test again true = ap (λ zs. cond (y.job == job) (y ∷ zs) zs) again
    by_test again false = not_mine job x (y ∷ ys) ne

-- each job's stay in their order
stay_in_order : (job : ℕ) (xs : List Told) → AreSorted (of_job job xs) → of_job job (in_order xs) ≡ of_job job xs
stay_in_order job [] sorted = refl
stay_in_order job (x ∷ xs) sorted = by_job (λ q. stay_in_order q xs) (same_or_not x.job job)
  where
    by_job : ((q : ℕ) → AreSorted (of_job q xs) → of_job q (in_order xs) ≡ of_job q xs) → (job ≡ x.job) ⊎ (x.job ≡ job → ⊥) → of_job job (put_in x (in_order xs)) ≡ of_job job (x ∷ xs)
    by_job again (inl is) =
        let mine : AreSorted (x ∷ of_job x.job xs) = subst AreSorted (mine_first x xs) (subst (λ q. AreSorted (of_job q (x ∷ xs))) is sorted) in
        let rest : of_job x.job (in_order xs) ≡ of_job x.job xs = again x.job mine.1 in
        subst (λ q. of_job q (put_in x (in_order xs)) ≡ of_job q (x ∷ xs)) (sym is)
        (own_put x (in_order xs) (subst (AreFrom (place x)) (sym rest) mine.0) ∙ ap (λ zs. x ∷ zs) rest ∙ sym (mine_first x xs))
    by_job again (inr ne) = others_put job x (in_order xs) ne ∙ again job (subst AreSorted (not_mine job x xs ne) sorted) ∙ sym (not_mine job x xs ne)

history_from : (log : List JournalUnit) (job n : ℕ) (s : Machine) (xs : List Told) → IsHistory log job n s xs → AreFrom (n + n) xs
history_from log job n s [] h = tt
history_from log job n s (x ∷ xs) h = let ns = not_short x h.1.one in let f = h.1.from in (omega (arith, f, ns), from_less (n + n) (x.upto + x.upto) xs (omega (arith, f, ns)) (history_from log job x.upto (after_told log s x) xs h.2))

history_sorted : (log : List JournalUnit) (job n : ℕ) (s : Machine) (xs : List Told) → IsHistory log job n s xs → AreSorted xs
history_sorted log job n s [] h = tt
history_sorted log job n s (x ∷ xs) h = let ns = not_short x h.1.one in
    (from_less (place x) (x.upto + x.upto) xs (omega (arith, ns)) (history_from log job x.upto (after_told log s x) xs h.2), history_sorted log job x.upto (after_told log s x) xs h.2)

written_put : (k : ℕ) (x : Told) (ys : List Told) → IsWritten k (x ∷ ys) → IsWritten k (put_in x ys)
written_put k x [] w = w
written_put k x (y ∷ ys) w = by_test (written_put k x ys) (ltb (place y) (place x)) w
  where
    by_test : (IsWritten k (x ∷ ys) → IsWritten k (put_in x ys)) → (b : Bool) → IsWritten k (x ∷ y ∷ ys) → IsWritten k (cond b (y ∷ put_in x ys) (x ∷ y ∷ ys))
    by_test again true (inl is) = inr (again (inl is))
    by_test again true (inr (inl is)) = inl is
    by_test again true (inr (inr later)) = inr (again (inr later))
    by_test again false w = w

written_in_order : (k : ℕ) (xs : List Told) → IsWritten k xs → IsWritten k (in_order xs)
written_in_order k [] w = w
written_in_order k (x ∷ xs) (inl is) = written_put k x (in_order xs) (inl is)
written_in_order k (x ∷ xs) (inr later) = written_put k x (in_order xs) (inr (written_in_order k xs later))

pub one_interleaving : OneInterleaving
one_interleaving log xs h written = (
  in_order xs,
  λ job. stay_in_order job xs (history_sorted log job 0 nothing_done (of_job job xs) (h job)),
  merged log (in_order xs) 0 nothing_done refl (omega arith) (sorted_in_order xs)
      (λ job. subst (IsHistory log job 0 nothing_done) (sym (stay_in_order job xs (history_sorted log job 0 nothing_done (of_job job xs) (h job)))) (h job))
      (λ k a b. written_in_order k xs (written k a b)),
)
