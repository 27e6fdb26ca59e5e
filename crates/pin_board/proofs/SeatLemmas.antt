-- The steps again, for a seat of which its role is known.
use Rattle.std.proofs.Common.{◌≡◌, ◌==◌, ℕ, ◌+◌, ◌<◌, max, true, false, [], length, sym, subst}
use mathlib.Core.Option.{some, none}
use prog.Atomic.{either}
use Rattle.atomic_table.specs.Table.{step, Allows, Splits, Joins}
use Rattle.journal.specs.Kept.{Claim}
use Rattle.pin_board.specs.Views.{SeatState, idle, IsPin, IsDesk, IsBoth, IsSlip, IsTally, pin_in, desk_in, desk_only, slip_only, pin_only, nobody, nowhere}
use Rattle.pin_board.specs.Slips.{IsNext}
use Rattle.pin_board.specs.Rule.{slot_word, BoardRule}
use Rattle.pin_board.specs.Steps.{clocks, stores, checks, rests, begins, lifts, passes, draws, writes, rebases, settles, meets, gives_slip, learns, left_of, right_of, lent_of, own_of, back_of, kept_of, slip_of, added_of, clashed_of, never}
use Rattle.pin_board.proofs.StepLemmas.{clocks_kept, stores_kept, checks_kept, rests_kept, begins_kept, lifts_kept, passes_kept, draws_kept, deals_kept, lends_kept, writes_kept, rebases_kept, settles_kept, meets_kept, gives_back_kept, gives_slip_kept, takes_slip_kept, adds_kept, learns_kept, clashes_kept, never_kept}

module _ (seats slots id : ℕ) (m : SeatState) (is : IsPin m) where
  pub clocks_at : (pin_in m.0).settled ≡ false → Allows (BoardRule seats) slots id m 0 (λ n. n) (clocks (step slots 0 0 0 none) m)
  clocks_at free = subst (λ (v : SeatState). Allows (BoardRule seats) slots id v 0 (λ n. n) (clocks (step slots 0 0 0 none) v)) (sym is) (clocks_kept seats slots id (pin_in m.0) free)

  pub stores_at : (w place x : ℕ) → w ≡ slot_word place → place ≡ (pin_in m.0).place → (pin_in m.0).settled ≡ false → Allows (BoardRule seats) slots id m w (λ _. x) (λ _. stores (step slots w x 0 none) m x)
  stores_at w place x word there free = subst (λ (i : ℕ). Allows (BoardRule seats) slots id m i (λ _. x) (λ _. stores (step slots i x 0 none) m x)) (sym word)
      (subst (λ (i : ℕ). Allows (BoardRule seats) slots id m (slot_word i) (λ _. x) (λ _. stores (step slots (slot_word i) x 0 none) m x)) (sym there)
      (subst (λ (v : SeatState). Allows (BoardRule seats) slots id v (slot_word (pin_in m.0).place) (λ _. x) (λ _. stores (step slots (slot_word (pin_in m.0).place) x 0 none) v x)) (sym is)
      (stores_kept seats slots id (pin_in m.0) x free)))

  pub checks_at : (pin_in m.0).settled ≡ false → (pin_in m.0).held ≡ length (pin_in m.0).base → Allows (BoardRule seats) slots id m 1 (λ n. n) (checks (step slots 1 0 0 none) m)
  checks_at free same = subst (λ (v : SeatState). Allows (BoardRule seats) slots id v 1 (λ n. n) (checks (step slots 1 0 0 none) v)) (sym is) (checks_kept seats slots id (pin_in m.0) free same)

  pub rests_at : (w place : ℕ) → w ≡ slot_word place → place ≡ (pin_in m.0).place → Allows (BoardRule seats) slots id m w (λ _. idle) (λ _. rests (step slots w idle 0 none) m idle)
  rests_at w place word there = subst (λ (i : ℕ). Allows (BoardRule seats) slots id m i (λ _. idle) (λ _. rests (step slots i idle 0 none) m idle)) (sym word)
      (subst (λ (i : ℕ). Allows (BoardRule seats) slots id m (slot_word i) (λ _. idle) (λ _. rests (step slots (slot_word i) idle 0 none) m idle)) (sym there)
      (subst (λ (v : SeatState). Allows (BoardRule seats) slots id v (slot_word (pin_in m.0).place) (λ _. idle) (λ _. rests (step slots (slot_word (pin_in m.0).place) idle 0 none) v idle)) (sym is)
      (rests_kept seats slots id (pin_in m.0))))

module _ (seats slots id : ℕ) (m : SeatState) (is : IsDesk m) where
  pub begins_at : Allows (BoardRule seats) slots id m 0 (λ n. n) (begins (step slots 0 0 0 none) m)
  begins_at = subst (λ (v : SeatState). Allows (BoardRule seats) slots id v 0 (λ n. n) (begins (step slots 0 0 0 none) v)) (sym is) (begins_kept seats slots id (desk_in m.0))

  pub lifts_at : (c : ℕ) → c ≡ (desk_in m.0).read → Allows (BoardRule seats) slots id m 1 (λ n. max n c) (lifts (step slots 1 c 0 none) m)
  lifts_at c clock = subst (λ (x : ℕ). Allows (BoardRule seats) slots id m 1 (λ n. max n x) (lifts (step slots 1 x 0 none) m)) (sym clock)
      (subst (λ (v : SeatState). Allows (BoardRule seats) slots id v 1 (λ n. max n (desk_in m.0).read) (lifts (step slots 1 (desk_in m.0).read 0 none) v)) (sym is)
      (lifts_kept seats slots id (desk_in m.0)))

  pub passes_at : (w place : ℕ) → w ≡ slot_word place → place ≡ length (desk_in m.0).loaded → (desk_in m.0).raised ≡ true → length (desk_in m.0).loaded < seats
      → Allows (BoardRule seats) slots id m w (λ n. n) (passes (step slots w 0 0 none) m)
  passes_at w place word there up more = subst (λ (i : ℕ). Allows (BoardRule seats) slots id m i (λ n. n) (passes (step slots i 0 0 none) m)) (sym word)
      (subst (λ (i : ℕ). Allows (BoardRule seats) slots id m (slot_word i) (λ n. n) (passes (step slots (slot_word i) 0 0 none) m)) (sym there)
      (subst (λ (v : SeatState). Allows (BoardRule seats) slots id v (slot_word (length (desk_in m.0).loaded)) (λ n. n) (passes (step slots (slot_word (length (desk_in m.0).loaded)) 0 0 none) v)) (sym is)
      (passes_kept seats slots id (desk_in m.0) up more)))

  pub draws_at : (desk_in m.0).raised ≡ true → length (desk_in m.0).loaded ≡ (desk_in m.0).dealt → Allows (BoardRule seats) slots id m 0 (λ n. n) (draws (step slots 0 0 0 none) m)
  draws_at up all = subst (λ (v : SeatState). Allows (BoardRule seats) slots id v 0 (λ n. n) (draws (step slots 0 0 0 none) v)) (sym is) (draws_kept seats slots id (desk_in m.0) up all)

  pub deals_at : (desk_in m.0).dealt < seats → Splits (BoardRule seats) id m.0 (left_of m.0) (right_of m.0)
  deals_at more = subst (λ (v : SeatState). Splits (BoardRule seats) id v.0 (left_of v.0) (right_of v.0)) (sym is) (deals_kept seats id (desk_in m.0) more)

pub lends_at : (seats id other : ℕ) (m n : SeatState) → IsPin m → IsDesk n → Joins (BoardRule seats) id m.0 other n.0 (lent_of m.0 n.0) nobody
lends_at seats id other m n is there = subst (λ (x : SeatState). Joins (BoardRule seats) id m.0 other x.0 (lent_of m.0 x.0) nobody) (sym there)
    (subst (λ (z : SeatState). Joins (BoardRule seats) id z.0 other (desk_only (desk_in n.0)) (lent_of z.0 (desk_only (desk_in n.0))) nobody) (sym is) (lends_kept seats id other (pin_in m.0) (desk_in n.0)))

pub clashes_at : (seats id other : ℕ) (m n : SeatState) → IsPin m → IsPin n → (pin_in n.0).place ≡ (pin_in m.0).place → Joins (BoardRule seats) id m.0 other n.0 (clashed_of m.0 n.0) nobody
clashes_at seats id other m n is there same = subst (λ (x : SeatState). Joins (BoardRule seats) id m.0 other x.0 nowhere nobody) (sym there)
    (subst (λ (z : SeatState). Joins (BoardRule seats) id z.0 other (pin_only (pin_in n.0)) nowhere nobody) (sym is) (clashes_kept seats id other (pin_in m.0) (pin_in n.0) nowhere same))

pub never_at : (seats slots id : ℕ) (m : SeatState) → m ≡ (nowhere, []) → Allows (BoardRule seats) slots id m 0 (λ n. n) (never (step slots 0 0 0 none) m)
never_at seats slots id m is = subst (λ (v : SeatState). Allows (BoardRule seats) slots id v 0 (λ n. n) (never (step slots 0 0 0 none) v)) (sym is) (never_kept seats slots id)

module _ (seats slots id : ℕ) (m : SeatState) (is : IsBoth m) where
  pub writes_at : (c : Claim) (old new : ℕ) → IsNext (desk_in m.0).log c → (pin_in m.0).slips ≡ 1 → old ≡ length (desk_in m.0).log → new ≡ length (desk_in m.0).log + 1
      → Allows (BoardRule seats) slots id m 0 (λ n. either (n == old) new n) (writes (step slots 0 old new (some c)) m)
  writes_at c old new next one a b = subst (λ (v : SeatState). Allows (BoardRule seats) slots id v 0 (λ n. either (n == old) new n) (writes (step slots 0 old new (some c)) v)) (sym is) (writes_kept seats slots id (desk_in m.0) (pin_in m.0) c old new next one a b)

  pub rebases_at : Allows (BoardRule seats) slots id m 0 (λ n. n) (rebases (step slots 0 0 0 none) m)
  rebases_at = subst (λ (v : SeatState). Allows (BoardRule seats) slots id v 0 (λ n. n) (rebases (step slots 0 0 0 none) v)) (sym is) (rebases_kept seats slots id (desk_in m.0) (pin_in m.0))

  pub settles_at : (w place x : ℕ) → w ≡ slot_word place → place ≡ (pin_in m.0).place → x ≡ length (desk_in m.0).log → Allows (BoardRule seats) slots id m w (λ _. x) (λ _. settles (step slots w x 0 none) m x)
  settles_at w place x word there now = subst (λ (i : ℕ). Allows (BoardRule seats) slots id m i (λ _. x) (λ _. settles (step slots i x 0 none) m x)) (sym word)
      (subst (λ (i : ℕ). Allows (BoardRule seats) slots id m (slot_word i) (λ _. x) (λ _. settles (step slots (slot_word i) x 0 none) m x)) (sym there)
      (subst (λ (v : SeatState). Allows (BoardRule seats) slots id v (slot_word (pin_in m.0).place) (λ _. x) (λ _. settles (step slots (slot_word (pin_in m.0).place) x 0 none) v x)) (sym is)
      (settles_kept seats slots id (desk_in m.0) (pin_in m.0) x now)))

  pub meets_at : Allows (BoardRule seats) slots id m 0 (λ n. n) (meets (step slots 0 0 0 none) m)
  meets_at = subst (λ (v : SeatState). Allows (BoardRule seats) slots id v 0 (λ n. n) (meets (step slots 0 0 0 none) v)) (sym is) (meets_kept seats slots id (desk_in m.0) (pin_in m.0))

  pub gives_back_at : Splits (BoardRule seats) id m.0 (own_of m.0) (back_of m.0)
  gives_back_at = subst (λ (v : SeatState). Splits (BoardRule seats) id v.0 (own_of v.0) (back_of v.0)) (sym is) (gives_back_kept seats id (desk_in m.0) (pin_in m.0))

  pub gives_slip_at : (pin_in m.0).slips ≡ 0 → Allows (BoardRule seats) slots id m 0 (λ n. n) (gives_slip (step slots 0 0 0 none) m)
  gives_slip_at free = subst (λ (v : SeatState). Allows (BoardRule seats) slots id v 0 (λ n. n) (gives_slip (step slots 0 0 0 none) v)) (sym is) (gives_slip_kept seats slots id (desk_in m.0) (pin_in m.0) free)

pub takes_slip_at : (seats id : ℕ) (m : SeatState) → IsPin m → (pin_in m.0).slips ≡ 1 → Splits (BoardRule seats) id m.0 (kept_of m.0) (slip_of m.0)
takes_slip_at seats id m is one = subst (λ (v : SeatState). Splits (BoardRule seats) id v.0 (kept_of v.0) (slip_of v.0)) (sym is) (takes_slip_kept seats id (pin_in m.0) one)

pub adds_at : (seats id other : ℕ) (m n : SeatState) → IsTally m → IsSlip n → Joins (BoardRule seats) id m.0 other n.0 (added_of m.0 n.0) nobody
adds_at seats id other m n is there = subst (λ (x : SeatState). Joins (BoardRule seats) id m.0 other x.0 (added_of m.0 x.0) nobody) (sym there)
    (subst (λ (z : SeatState). Joins (BoardRule seats) id z.0 other (slip_only n.0.back n.0.known) (added_of z.0 (slip_only n.0.back n.0.known)) nobody) (sym is) (adds_kept seats id other (desk_in m.0) m.0.slips m.0.back n.0.back m.0.known n.0.known))

pub learns_at : (seats slots id : ℕ) (m : SeatState) → IsTally m → Allows (BoardRule seats) slots id m 0 (λ n. n) (learns (step slots 0 0 0 none) m)
learns_at seats slots id m is = subst (λ (v : SeatState). Allows (BoardRule seats) slots id v 0 (λ n. n) (learns (step slots 0 0 0 none) v)) (sym is) (learns_kept seats slots id (desk_in m.0) m.0.slips m.0.back m.0.known)
