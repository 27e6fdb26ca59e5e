-- Histories on a journal that grows.
use Rattle.std.proofs.Common.{◌≡◌, ℕ, zero, suc, ◌+◌, ◌≤◌, List, [], ◌∷◌, ◌++◌, length, Some, refl, sym, ap, subst, ◌∙◌, ◌⊎◌, inl, inr, arith, length-append}
use Rattle.std.specs.Prelude.{slice_get}
use Rattle.std.proofs.lemmas.List.{take-append-le}
use Rattle.journal.specs.declared.unit.Unit.{Unit as JournalUnit}
use Rattle.journal.specs.Story.{Machine, told}
use Rattle.serial.specs.Machine.{IsReply}
use Rattle.serial.specs.Interleaving.{Told, standing, after_told, IsToldAt, IsHistory, upto_of, after_all_told, HistoriesGrow}

in_front : (xs ys : List JournalUnit) (k : ℕ) (u : JournalUnit) → slice_get xs k ≡ Some u → slice_get (xs ++ ys) k ≡ Some u
in_front [] ys k u e = absurd (cc)
in_front (x ∷ xs) ys zero u e = e
in_front (x ∷ xs) ys (suc k) u e = in_front xs ys k u e

at_most : (x : Told) → (x.upto ≡ x.at) ⊎ (x.upto ≡ x.at + 1) → x.at ≤ x.upto
at_most x (inl e) = omega (arith, e)
at_most x (inr e) = omega (arith, e)

module _ (log more : List JournalUnit) where
  stands : (n : ℕ) (s : Machine) (x : Told) → IsToldAt log n s x → standing x.at (log ++ more) s ≡ standing x.at log s
  stands n s x h = let w = h.within in let a = at_most x h.one in ap (λ us. record { units = us; transactions = s.transactions }) (take-append-le x.at log more (omega (arith, w, a)))

  told_then : (n : ℕ) (s : Machine) (x : Told) → IsToldAt log n s x → after_told (log ++ more) s x ≡ after_told log s x
  told_then n s x h = ap (told x.job x.command x.reply) (stands n s x h)

  told_longer : (n : ℕ) (s : Machine) (x : Told) → length log ≤ length (log ++ more) → IsToldAt log n s x → IsToldAt (log ++ more) n s x
  told_longer n s x long h = record {
    from = h.from;
    within = (let w = h.within in omega (arith, w, long));
    one = h.one;
    reply = subst (IsReply x.job x.command x.reply) (sym (stands n s x h)) h.reply;
    units = ap (λ (m : Machine). m.units) (told_then n s x h) ∙ h.units ∙ sym (take-append-le x.upto log more h.within);
    own = λ e. let o = h.own e in (o.0, in_front log more x.at o.0 o.1, o.2);
  }

  history_longer : (job n : ℕ) (s : Machine) (xs : List Told) → length log ≤ length (log ++ more) → IsHistory log job n s xs → IsHistory (log ++ more) job n s xs
  history_longer job n s [] long h = h
  history_longer job n s (x ∷ xs) long h = (
    h.0,
    told_longer n s x long h.1,
    subst (λ m. IsHistory (log ++ more) job x.upto m xs) (sym (told_then n s x h.1)) (history_longer job x.upto (after_told log s x) xs long h.2),
  )

  machine_same : (job n : ℕ) (s : Machine) (xs : List Told) → IsHistory log job n s xs → after_all_told (log ++ more) s xs ≡ after_all_told log s xs
  machine_same job n s [] h = refl
  machine_same job n s (x ∷ xs) h = ap (λ m. after_all_told (log ++ more) m xs) (told_then n s x h.1) ∙ machine_same job x.upto (after_told log s x) xs h.2

history_push : (log : List JournalUnit) (job n : ℕ) (s : Machine) (xs : List Told) (x : Told) → IsHistory log job n s xs → x.job ≡ job → IsToldAt log (upto_of n xs) (after_all_told log s xs) x → IsHistory log job n s (xs ++ x ∷ [])
history_push log job n s [] x h whose last = (whose, last, tt)
history_push log job n s (y ∷ ys) x h whose last = (h.0, h.1, history_push log job y.upto (after_told log s y) ys x h.2 whose last)

pub histories_grow : (log : List JournalUnit) (job n : ℕ) (s : Machine) (xs : List Told) → HistoriesGrow log job n s xs
histories_grow log job n s xs = record {
  longer = λ more h. history_longer log more job n s xs (let e = length-append log more in omega (arith, e)) h;
  machine = λ more h. machine_same log more job n s xs h;
  push = λ x h whose last. history_push log job n s xs x h whose last;
}
