-- Each step keeps the rule of the board.
use Rattle.std.proofs.Common.{◌≡◌, ◌≢◌, ℕ, suc, ◌+◌, ◌<◌, ◌≤◌, ◌==◌, ltb, min, max, true, false, cond, true≢false, Bool, zero, le_refl, le_trans, List, [], ◌∷◌, ◌++◌, length, get_or, set, sym, refl, ap, ◌∙◌, subst, ◌⊎◌, inl, inr, ⊎_elim, arith, Some, length-set, get_or-set_other, get_or-set_same, eq-eqb}
use Rattle.std.proofs.lemmas.Bool.{ltb-false}
use Rattle.std.proofs.lemmas.Option.{none-some}
use Rattle.std.proofs.lemmas.List.{take_all, take-append-le, append-nil}
use Rattle.std.proofs.lemmas.List.Sums.{fold-append}
use Rattle.std.specs.List.{fold}
use Rattle.std.proofs.lemmas.List.Elements.{All-nil, All-push}
use Rattle.journal.specs.declared.unit.Unit.{Unit as JournalUnit}
use mathlib.Core.Logic.{dite}
use mathlib.Core.Option.{some, none, some-injective, some-ne-none}
use native.Mathlib.Decide.{ℕ_discrete}
use prog.Atomic.{either}
use lib.Seq.{set-get_or}
use lib.ListN.{get_elem?, length-append}
use Rattle.atomic_table.specs.Table.{State, step, keeps, Allows, Splits, Joins, opening}
use Rattle.atomic_table.proofs.Lists.{at_set, set_again}
use Rattle.journal.specs.Kept.{Claim}
use Rattle.pin_board.specs.declared.view.DeskView.{DeskView}
use Rattle.pin_board.specs.declared.view.PinView.{PinView}
use Rattle.pin_board.specs.declared.view.SeatView.{SeatView}
use Rattle.pin_board.specs.Slips.{AreInJournal, IsBeginning, IsNext, SlipFacts, SlipsAddUp}
use Rattle.pin_board.proofs.SlipLemmas.{slips_same, slips_given, slips_written, slips_beside, slips_off, slips_joined, slips_all, slips_few, writes_nothing, begins_itself, begins_longer}
use Rattle.pin_board.specs.Views.{idle, least, new_desk, new_pin, desk_only, pin_only, pin_with_desk, slip_only, tally_only, nobody, starting, desk_or, pin_or, clocked, stored, checked, rested, began, lifted, passed, drew, dealt_one, logged, wrote, rebased, aware, settled_now, gave, with_slip, without_slip, nowhere}
use Rattle.pin_board.specs.Rule.{slot_word, DeskFacts, IsSettled, PinFacts, SeatFacts, BoardRule}
use Rattle.pin_board.specs.Steps.{clocks, stores, checks, rests, begins, lifts, passes, draws, writes, rebases, settles, meets, gives_slip, learns, never}

abbrev St : Type 0
St = State Claim SeatView

-- a fact of each view, after a change of one of them
all_set : (K : ℕ → SeatView → Type 0) (vs : List SeatView) (id : ℕ) (w : SeatView) → K id w → ((j : ℕ) (u : SeatView) → j ≢ id → get_elem? vs j ≡ some u → K j u)
    → (j : ℕ) (u : SeatView) → get_elem? (set vs id w) j ≡ some u → K j u
all_set K vs id w mine others j u e = ⊎_elim (λ (t : (j ≡ id) × (w ≡ u)). subst (λ (x : ℕ × SeatView). K x.0 x.1) (λ i. (sym t.0 i, t.1 i)) mine)
    (λ (t : (j ≢ id) × (get_elem? vs j ≡ some u)). others j u t.0 t.1) (at_set vs id j w u e)

-- the step of one seat
keeps_rule : (seats : ℕ) (s : St) (r : BoardRule seats s) (id : ℕ) (w : SeatView) (words' : List ℕ) (d' : DeskView) → length words' ≡ length s.words → d'.seats ≡ seats → DeskFacts words' d'
    → SeatFacts words' r.owner r.keeper d' id w
    → ((j : ℕ) (u : SeatView) → j ≢ id → get_elem? s.views j ≡ some u → SeatFacts words' r.owner r.keeper d' j u)
    → SlipsAddUp d'.log d'.given (set s.views id w)
    → BoardRule seats record { words = words'; homes = s.homes; views = set s.views id w }
keeps_rule seats s r id w words' d' as_wide as_many ok mine others sums = record {
  owner = r.owner;
  keeper = r.keeper;
  desk = d';
  seats_are = as_many;
  wide = as_wide ∙ r.wide;
  desk_ok = ok;
  each = all_set (SeatFacts words' r.owner r.keeper d') s.views id w mine others;
  slips = sums;
}

module _ (ws : List ℕ) (owner : ℕ → ℕ) (keeper : ℕ) (d : DeskView) (j : ℕ) where
  knows_pin : (p : PinView) → PinFacts ws owner d j p → SeatFacts ws owner keeper d j (pin_only p)
  knows_pin p ok = record { desks = λ x e. absurd (none-some x e); pins = λ q e. subst (PinFacts ws owner d j) (ap pin_or e) ok }

  knows_desk : j ≡ keeper → SeatFacts ws owner keeper d j (desk_only d)
  knows_desk here = record { desks = λ x e. (here, sym (ap desk_or e)); pins = λ q e. absurd (none-some q e) }

  knows_both : (p : PinView) → j ≡ keeper → PinFacts ws owner d j p → SeatFacts ws owner keeper d j (pin_with_desk d p)
  knows_both p here ok = record { desks = λ x e. (here, sym (ap desk_or e)); pins = λ q e. subst (PinFacts ws owner d j) (ap pin_or e) ok }

  knows_nobody : SeatFacts ws owner keeper d j nobody
  knows_nobody = record { desks = λ x e. absurd (none-some x e); pins = λ q e. absurd (none-some q e) }

-- a word other than its slot changes nothing that a session's seat is right about
same_slot : (ws ws' : List ℕ) (owner : ℕ → ℕ) (d : DeskView) (j : ℕ) (q : PinView) → get_or ws' (slot_word q.place) 0 ≡ get_or ws (slot_word q.place) 0 → PinFacts ws owner d j q → PinFacts ws' owner d j q
same_slot ws ws' owner d j q same k = record { placed = k.placed; alone = k.alone; held = same ∙ k.held; before = k.before; base = k.base; seen = k.seen; settled = k.settled }

same_desk : (ws ws' : List ℕ) (d : DeskView) → get_or ws' 0 0 ≡ get_or ws 0 0 → get_or ws' 1 0 ≡ get_or ws 1 0 → ((i : ℕ) → d.dealt ≤ i → i < d.seats → get_or ws' (slot_word i) 0 ≡ get_or ws (slot_word i) 0) → DeskFacts ws d → DeskFacts ws' d
same_desk ws ws' d c g same k = let f : get_or ws 1 0 ≤ get_or ws' 1 0 = omega arith in record {
  clock_is = c ∙ k.clock_is;
  dealt = k.dealt;
  vacant = λ i a b. same i a b ∙ k.vacant i a b;
  raised = λ e. le_trans (k.raised e) f;
  not_yet = k.not_yet;
  high_floor = le_trans k.high_floor f;
  read_now = k.read_now;
  high_now = k.high_now;
  floor_is = g ∙ k.floor_is;
  floor_now = k.floor_now;
}

pub fold_min_le : (n : ℕ) (xs : List ℕ) → fold min n xs ≤ n
fold_min_le n [] = le_refl n
fold_min_le n (x ∷ xs) = let a : min n x ≤ n = omega arith in le_trans (fold_min_le (min n x) xs) a

-- once a slot was passed, the least so far is not above the floor
least_under : (ws : List ℕ) (d : DeskView) → DeskFacts ws d → 0 < length d.loaded → least d ≤ get_or ws 1 0
least_under ws d ok some_loaded = go d.raised refl
  where
    go : (b : Bool) → d.raised ≡ b → least d ≤ get_or ws 1 0
    go true e = le_trans (fold_min_le d.read d.loaded) (ok.raised e)
    go false e = let none_loaded : length d.loaded ≡ 0 = ap length (ok.not_yet e) in absurd (omega arith)

-- a session's step that leaves the words
module _ (seats slots id : ℕ) (p : PinView) (s : St) (r : BoardRule seats s) (at : get_elem? s.views id ≡ some (pin_only p)) where
  own_at : PinFacts s.words r.owner r.desk id p
  own_at = (r.each id (pin_only p) at).pins p refl

  pin_slips : (p' : PinView) → p'.slips ≡ p.slips → p'.mine ≡ p.mine → SlipsAddUp r.desk.log r.desk.given (set s.views id (pin_only p'))
  pin_slips p' a b = slips_same r.desk.log r.desk.given s.views id (pin_only p) r.slips at (pin_only p') (ap (λ n. n + 0) a) b refl

  pin_in_journal : AreInJournal r.desk.log p.mine
  pin_in_journal = (r.slips.writes id (pin_only p) at).in_journal

  quiet : (i : ℕ) (p' : PinView) → PinFacts s.words r.owner r.desk id p' → p'.slips ≡ p.slips → p'.mine ≡ p.mine → BoardRule seats record { words = set s.words i (get_or s.words i 0); homes = s.homes; views = set s.views id (pin_only p') }
  quiet i p' ok a b = subst (λ (ws : List ℕ). BoardRule seats record { words = ws; homes = s.homes; views = set s.views id (pin_only p') }) (sym (set-get_or s.words i 0))
      (keeps_rule seats s r id (pin_only p') s.words r.desk refl r.seats_are r.desk_ok (knows_pin s.words r.owner r.keeper r.desk id p' ok) (λ j u _ e. r.each j u e) (pin_slips p' a b))

  -- its own slot changes
  slot_step : (x : ℕ) (p' : PinView) → PinFacts (set s.words (slot_word p.place) x) r.owner r.desk id p' → p'.slips ≡ p.slips → p'.mine ≡ p.mine → BoardRule seats record { words = set s.words (slot_word p.place) x; homes = s.homes; views = set s.views id (pin_only p') }
  slot_step x p' ok a b = let ws : List ℕ = set s.words (slot_word p.place) x in let own = own_at in let pl = own.placed in
      let f : get_or ws 1 0 ≡ get_or s.words 1 0 = get_or-set_other s.words (slot_word p.place) 1 x 0 (omega arith) in
      keeps_rule seats s r id (pin_only p') ws r.desk (length-set s.words (slot_word p.place) x) r.seats_are
      (same_desk s.words ws r.desk (get_or-set_other s.words (slot_word p.place) 0 x 0 (omega arith)) f (λ i a _. get_or-set_other s.words (slot_word p.place) (slot_word i) x 0 (omega arith)) r.desk_ok)
      (knows_pin ws r.owner r.keeper r.desk id p' ok)
      (λ j u o e. record {
        desks = (r.each j u e).desks;
        pins = λ q eq. let k = (r.each j u e).pins q eq in
            let apart : q.place ≢ p.place = λ (same : q.place ≡ p.place). o (sym k.alone ∙ ap r.owner same ∙ own.alone) in
            same_slot s.words ws r.owner r.desk j q (get_or-set_other s.words (slot_word p.place) (slot_word q.place) x 0 (omega arith)) k;
      })
      (pin_slips p' a b)

module _ (seats slots id : ℕ) (p : PinView) where
  pub clocks_kept : p.settled ≡ false → Allows (BoardRule seats) slots id (pin_only p, []) 0 (λ n. n) (clocks (step slots 0 0 0 none) (pin_only p, []))
  clocks_kept free s r deep at small = let own = own_at seats slots id p s r at in let now = r.desk_ok.clock_is in (
    pin_only (clocked p r.desk.log),
    keeps,
    tt,
    quiet seats slots id p s r at 0 (clocked p r.desk.log)
        (record { placed = own.placed; alone = own.alone; held = own.held; before = le_refl (length r.desk.log); base = sym (take_all (length r.desk.log) r.desk.log (le_refl (length r.desk.log))); seen = own.seen; settled = λ e. absurd (true≢false (sym e ∙ free)) }) refl refl,
    (refl, sym now, pin_in_journal seats slots id p s r at, own.seen),
  )

  pub stores_kept : (x : ℕ) → p.settled ≡ false → Allows (BoardRule seats) slots id (pin_only p, []) (slot_word p.place) (λ _. x) (λ _. stores (step slots (slot_word p.place) x 0 none) (pin_only p, []) x)
  stores_kept x free s r deep at small = let own = own_at seats slots id p s r at in let w = r.wide in let pl = own.placed in let d = r.desk_ok.dealt in let sa = r.seats_are in (
    pin_only (stored p x),
    keeps,
    tt,
    slot_step seats slots id p s r at x (stored p x)
        (record { placed = own.placed; alone = own.alone; held = get_or-set_same s.words (slot_word p.place) x 0 (omega arith); before = own.before; base = own.base; seen = own.seen; settled = λ e. absurd (true≢false (sym e ∙ free)) }) refl refl,
    refl,
  )

  pub rests_kept : Allows (BoardRule seats) slots id (pin_only p, []) (slot_word p.place) (λ _. idle) (λ _. rests (step slots (slot_word p.place) idle 0 none) (pin_only p, []) idle)
  rests_kept s r deep at small = let own = own_at seats slots id p s r at in let w = r.wide in let pl = own.placed in let d = r.desk_ok.dealt in let sa = r.seats_are in (
    pin_only (rested p),
    keeps,
    tt,
    slot_step seats slots id p s r at idle (rested p)
        (record { placed = own.placed; alone = own.alone; held = get_or-set_same s.words (slot_word p.place) idle 0 (omega arith); before = own.before; base = own.base; seen = own.seen; settled = λ e. absurd (true≢false (sym e)) }) refl refl,
    refl,
  )

  pub checks_kept : p.settled ≡ false → p.held ≡ length p.base → Allows (BoardRule seats) slots id (pin_only p, []) 1 (λ n. n) (checks (step slots 1 0 0 none) (pin_only p, []))
  checks_kept free same_stamp s r deep at small = (
    pin_only (checked p (get_or s.words 1 0)),
    keeps,
    tt,
    quiet seats slots id p s r at 1 (checked p (get_or s.words 1 0)) (go (ltb (length p.base) (get_or s.words 1 0)) refl) (same_slips (ltb (length p.base) (get_or s.words 1 0))) (same_mine (ltb (length p.base) (get_or s.words 1 0))),
    refl,
  )
    where
      own : PinFacts s.words r.owner r.desk id p
      own = own_at seats slots id p s r at

      same_slips : (b : Bool) → (cond b (record p { refused = p.refused + 1 }) (record p { settled = true; seen = p.base })).slips ≡ p.slips
      same_slips true = refl
      same_slips false = refl

      same_mine : (b : Bool) → (cond b (record p { refused = p.refused + 1 }) (record p { settled = true; seen = p.base })).mine ≡ p.mine
      same_mine true = refl
      same_mine false = refl

      go : (b : Bool) → ltb (length p.base) (get_or s.words 1 0) ≡ b → PinFacts s.words r.owner r.desk id (cond b (record p { refused = p.refused + 1 }) (record p { settled = true; seen = p.base }))
      go true e = record { placed = own.placed; alone = own.alone; held = own.held; before = own.before; base = own.base; seen = own.seen; settled = λ t. absurd (true≢false (sym t ∙ free)) }
      go false e = let low = ltb-false (length p.base) (get_or s.words 1 0) e in let hf = r.desk_ok.high_floor in record {
        placed = own.placed;
        alone = own.alone;
        held = own.held;
        before = own.before;
        base = own.base;
        seen = record { within = own.before; is = own.base };
        settled = λ _. record {
          within = omega arith;
          high = omega arith;
          passed = λ l. let under = least_under s.words r.desk r.desk_ok (omega arith) in omega arith;
        };
      }

-- a step of the desk
module _ (seats slots id : ℕ) (d : DeskView) (s : St) (r : BoardRule seats s) (at : get_elem? s.views id ≡ some (desk_only d)) where
  here_is : (id ≡ r.keeper) × (d ≡ r.desk)
  here_is = (r.each id (desk_only d) at).desks d refl

  desk_at : DeskFacts s.words d
  desk_at = subst (DeskFacts s.words) (sym here_is.1) r.desk_ok

  as_many : d.seats ≡ seats
  as_many = ap (λ (x : DeskView). x.seats) here_is.1 ∙ r.seats_are

  desk_slips : SlipsAddUp d.log d.given s.views
  desk_slips = subst (λ (x : DeskView). SlipsAddUp x.log x.given s.views) (sym here_is.1) r.slips

  pin_at : (j : ℕ) (u : SeatView) (q : PinView) → get_elem? s.views j ≡ some u → u.pin ≡ Some q → PinFacts s.words r.owner d j q
  pin_at j u q e eq = subst (λ (x : DeskView). PinFacts s.words r.owner x j q) (sym here_is.1) ((r.each j u e).pins q eq)

  desk_step : (d' : DeskView) (ws : List ℕ) → length ws ≡ length s.words → d'.seats ≡ seats → DeskFacts ws d' → ((j : ℕ) (q : PinView) → PinFacts s.words r.owner d j q → PinFacts ws r.owner d' j q)
      → SlipsAddUp d'.log d'.given s.views → BoardRule seats record { words = ws; homes = s.homes; views = set s.views id (desk_only d') }
  desk_step d' ws as_wide many ok pins sums = keeps_rule seats s r id (desk_only d') ws d' as_wide many ok (knows_desk ws r.owner r.keeper d' id here_is.0)
      (λ j u o e. record { desks = λ x ex. absurd (o (((r.each j u e).desks x ex).0 ∙ sym here_is.0)); pins = λ q eq. pins j q (pin_at j u q e eq) })
      (slips_same d'.log d'.given s.views id (desk_only d) sums at (desk_only d') refl refl refl)

  desk_quiet : (i : ℕ) (d' : DeskView) → d'.seats ≡ seats → DeskFacts s.words d' → ((j : ℕ) (q : PinView) → PinFacts s.words r.owner d j q → PinFacts s.words r.owner d' j q)
      → SlipsAddUp d'.log d'.given s.views → BoardRule seats record { words = set s.words i (get_or s.words i 0); homes = s.homes; views = set s.views id (desk_only d') }
  desk_quiet i d' many ok pins sums = subst (λ (ws : List ℕ). BoardRule seats record { words = ws; homes = s.homes; views = set s.views id (desk_only d') }) (sym (set-get_or s.words i 0)) (desk_step d' s.words refl many ok pins sums)

module _ (seats slots id : ℕ) (d : DeskView) where
  pub begins_kept : Allows (BoardRule seats) slots id (desk_only d, []) 0 (λ n. n) (begins (step slots 0 0 0 none) (desk_only d, []))
  begins_kept s r deep at small = let n : ℕ = get_or s.words 0 0 in let k = desk_at seats slots id d s r at in let now = k.clock_is in (
    desk_only (began d n),
    keeps,
    tt,
    desk_quiet seats slots id d s r at 0 (began d n) (as_many seats slots id d s r at)
        (record { clock_is = k.clock_is; dealt = k.dealt; vacant = k.vacant; raised = λ e. absurd (true≢false (sym e)); not_yet = λ _. refl; high_floor = k.high_floor; read_now = omega arith; high_now = k.high_now; floor_is = k.floor_is; floor_now = k.floor_now })
        (λ j q o. record { placed = o.placed; alone = o.alone; held = o.held; before = o.before; base = o.base; seen = o.seen; settled = λ e. let z = o.settled e in record { within = z.within; high = z.high; passed = λ l. absurd (omega arith) } })
        (desk_slips seats slots id d s r at),
    (refl, k.clock_is),
  )

  pub lifts_kept : Allows (BoardRule seats) slots id (desk_only d, []) 1 (λ n. max n d.read) (lifts (step slots 1 d.read 0 none) (desk_only d, []))
  lifts_kept s r deep at small = let x : ℕ = max (get_or s.words 1 0) d.read in let ws : List ℕ = set s.words 1 x in let w = r.wide in
      let k = desk_at seats slots id d s r at in let hf = k.high_floor in let fn = k.floor_now in let rn = k.read_now in
      let here : get_or ws 1 0 ≡ x = get_or-set_same s.words 1 x 0 (omega arith) in (
        desk_only (lifted d),
        keeps,
        tt,
        desk_step seats slots id d s r at (lifted d) ws (length-set s.words 1 x) (as_many seats slots id d s r at)
            (record {
              clock_is = get_or-set_other s.words 1 0 x 0 (omega arith) ∙ k.clock_is;
              dealt = k.dealt;
              vacant = λ i a b. get_or-set_other s.words 1 (slot_word i) x 0 (omega arith) ∙ k.vacant i a b;
              raised = λ _. omega arith;
              not_yet = λ e. absurd (true≢false e);
              high_floor = omega arith;
              read_now = k.read_now;
              high_now = k.high_now;
              floor_is = here ∙ ap (λ (n : ℕ). max n d.read) k.floor_is;
              floor_now = omega arith;
            })
            (λ j q o. record { placed = o.placed; alone = o.alone; held = get_or-set_other s.words 1 (slot_word q.place) x 0 (omega arith) ∙ o.held; before = o.before; base = o.base; seen = o.seen; settled = λ e. let z = o.settled e in record { within = z.within; high = z.high; passed = z.passed } })
            (desk_slips seats slots id d s r at),
        refl,
      )

  pub passes_kept : d.raised ≡ true → length d.loaded < seats → Allows (BoardRule seats) slots id (desk_only d, []) (slot_word (length d.loaded)) (λ n. n) (passes (step slots (slot_word (length d.loaded)) 0 0 none) (desk_only d, []))
  passes_kept up more s r deep at small = (
    desk_only (passed d n),
    keeps,
    tt,
    desk_quiet seats slots id d s r at (slot_word (length d.loaded)) (passed d n) (as_many seats slots id d s r at)
        (record { clock_is = k.clock_is; dealt = k.dealt; vacant = k.vacant; raised = k.raised; not_yet = λ e. absurd (true≢false (sym up ∙ e)); high_floor = k.high_floor; read_now = k.read_now; high_now = k.high_now; floor_is = k.floor_is; floor_now = k.floor_now })
        (λ j q o. record {
          placed = o.placed;
          alone = o.alone;
          held = o.held;
          before = o.before;
          base = o.base;
          seen = o.seen;
          settled = λ e. let z = o.settled e in record {
            within = z.within;
            high = z.high;
            passed = λ l. let a = under j q o z (omega (arith, longer)) in omega (arith, least_is);
          };
        })
        (desk_slips seats slots id d s r at),
    refl,
  )
    where
      n : ℕ
      n = get_or s.words (slot_word (length d.loaded)) 0

      k : DeskFacts s.words d
      k = desk_at seats slots id d s r at

      low : ℕ
      low = min (least d) n

      longer : length (d.loaded ++ n ∷ []) ≡ length d.loaded + 1
      longer = omega (arith, length-append d.loaded (n ∷ []))

      least_is : fold min d.read (d.loaded ++ n ∷ []) ≡ low
      least_is = fold-append min d.read d.loaded (n ∷ [])

      -- of a seat whose slot was passed, or is passed now
      under : (j : ℕ) (q : PinView) → PinFacts s.words r.owner d j q → IsSettled d q → q.place < length d.loaded + 1 → low ≤ q.held
      under j q o z l =
          dite (ℕ_discrete q.place (length d.loaded))
          (λ (is : q.place ≡ length d.loaded). let found : n ≡ q.held = ap (λ (i : ℕ). get_or s.words (slot_word i) 0) (sym is) ∙ o.held in omega arith)
          (λ (other : q.place ≢ length d.loaded). let a = z.passed (omega arith) in omega arith)

  -- once all slots are passed, the least is a horizon: it is not above the floor, nor above the stamp of a settled seat
  pub draws_kept : d.raised ≡ true → length d.loaded ≡ d.dealt → Allows (BoardRule seats) slots id (desk_only d, []) 0 (λ n. n) (draws (step slots 0 0 0 none) (desk_only d, []))
  draws_kept up all s r deep at small =
      let k = desk_at seats slots id d s r at in let f = k.raised up in let hf = k.high_floor in let hn = k.high_now in let rn = k.read_now in
      let low : least d ≤ d.read = fold_min_le d.read d.loaded in (
        desk_only (drew d),
        keeps,
        tt,
        desk_quiet seats slots id d s r at 0 (drew d) (as_many seats slots id d s r at)
            (record { clock_is = k.clock_is; dealt = k.dealt; vacant = k.vacant; raised = k.raised; not_yet = k.not_yet; high_floor = omega arith; read_now = k.read_now; high_now = omega arith; floor_is = k.floor_is; floor_now = k.floor_now })
            (λ j q o. record {
              placed = o.placed;
              alone = o.alone;
              held = o.held;
              before = o.before;
              base = o.base;
              seen = o.seen;
              settled = λ e. let z = o.settled e in record {
                within = z.within;
                high = (let h = z.high in let pl = o.placed in let b = z.passed (omega arith) in omega arith);
                passed = z.passed;
              };
            })
            (desk_slips seats slots id d s r at),
        refl,
      )

at_end : (l : List SeatView) (a b : SeatView) (j : ℕ) → get_elem? (l ++ a ∷ []) j ≡ some b → (get_elem? l j ≡ some b) ⊎ ((j ≡ length l) × (a ≡ b))
at_end [] a b zero e = inr (refl, some-injective a b e)
at_end [] a b (suc j) e = absurd (some-ne-none b (sym e))
at_end (x ∷ xs) a b zero e = inl e
at_end (x ∷ xs) a b (suc j) e = ⊎_elim (λ t. inl t) (λ (t : (j ≡ length xs) × (a ≡ b)). inr (ap suc t.0, t.1)) (at_end xs a b j e)

-- a fact of each view, after a change of one and a new one
all_end : (K : ℕ → SeatView → Type 0) (vs : List SeatView) (id : ℕ) (v w : SeatView) → K id v → K (length (set vs id v)) w → ((j : ℕ) (u : SeatView) → j ≢ id → get_elem? vs j ≡ some u → K j u)
    → (j : ℕ) (u : SeatView) → get_elem? (set vs id v ++ w ∷ []) j ≡ some u → K j u
all_end K vs id v w mine new others j u e = ⊎_elim (λ (t : get_elem? (set vs id v) j ≡ some u). all_set K vs id v mine others j u t)
    (λ (t : (j ≡ length (set vs id v)) × (w ≡ u)). subst (λ (x : ℕ × SeatView). K x.0 x.1) (λ i. (sym t.0 i, t.1 i)) new) (at_end (set vs id v) w u j e)

abbrev pick : {P : Type 0} → Dec P → ℕ → ℕ → ℕ
pick (yes _) a b = a
pick (no _) a b = b

pub put : (ℕ → ℕ) → ℕ → ℕ → ℕ → ℕ
put f i c j = pick (ℕ_discrete j i) c (f j)

put_here : (f : ℕ → ℕ) (i c : ℕ) → put f i c i ≡ c
unfolding put
put_here f i c = go (ℕ_discrete i i)
  where
    go : (d : Dec (i ≡ i)) → pick d c (f i) ≡ c
    go (yes _) = refl
    go (no n) = absurd (n refl)

put_else : (f : ℕ → ℕ) (i c j : ℕ) → j ≢ i → put f i c j ≡ f j
unfolding put
put_else f i c j other = go (ℕ_discrete j i)
  where
    go : (d : Dec (j ≡ i)) → pick d c (f j) ≡ f j
    go (yes e) = absurd (other e)
    go (no _) = refl

-- the desk hands out the next seat
pub deals_kept : (seats id : ℕ) (d : DeskView) → d.dealt < seats → Splits (BoardRule seats) id (desk_only d) (desk_only (dealt_one d)) (pin_only (new_pin d.dealt))
deals_kept seats id d more s r at = record {
  owner = owner';
  keeper = r.keeper;
  desk = dealt_one d;
  seats_are = as_many seats 0 id d s r at;
  wide = r.wide;
  desk_ok = record { clock_is = k.clock_is; dealt = (let m = as_many seats 0 id d s r at in omega arith); vacant = λ i a b. k.vacant i (omega arith) b; raised = k.raised; not_yet = k.not_yet; high_floor = k.high_floor; read_now = k.read_now; high_now = k.high_now; floor_is = k.floor_is; floor_now = k.floor_now };
  each = all_end (SeatFacts s.words owner' r.keeper (dealt_one d)) s.views id (desk_only (dealt_one d)) (pin_only (new_pin d.dealt))
      (knows_desk s.words owner' r.keeper (dealt_one d) id here.0)
      (knows_pin s.words owner' r.keeper (dealt_one d) (length views) (new_pin d.dealt) fresh)
      (λ j u o e. record { desks = λ x ex. absurd (o (((r.each j u e).desks x ex).0 ∙ sym here.0)); pins = λ q eq. old j q (pin_at seats 0 id d s r at j u q e eq) });
  slips = slips_beside d.log d.given s.views id (desk_only d) (desk_slips seats 0 id d s r at) at (desk_only (dealt_one d)) (pin_only (new_pin d.dealt)) refl refl refl refl refl refl;
}
  where
    here : (id ≡ r.keeper) × (d ≡ r.desk)
    here = here_is seats 0 id d s r at

    k : DeskFacts s.words d
    k = desk_at seats 0 id d s r at

    views : List SeatView
    views = set s.views id (desk_only (dealt_one d))

    owner' : ℕ → ℕ
    owner' = put r.owner d.dealt (length views)

    fresh : PinFacts s.words owner' (dealt_one d) (length views) (new_pin d.dealt)
    fresh = record { placed = omega arith; alone = put_here r.owner d.dealt (length views); held = k.vacant d.dealt (le_refl d.dealt) (let m = as_many seats 0 id d s r at in omega arith); before = omega arith; base = refl; seen = record { within = omega arith; is = refl }; settled = λ e. absurd (true≢false (sym e)) }

    old : (j : ℕ) (q : PinView) → PinFacts s.words r.owner d j q → PinFacts s.words owner' (dealt_one d) j q
    old j q o = let pl = o.placed in record {
      placed = omega arith;
      alone = put_else r.owner d.dealt (length views) q.place (omega arith) ∙ o.alone;
      held = o.held;
      before = o.before;
      base = o.base;
      seen = o.seen;
      settled = λ e. let z = o.settled e in record { within = z.within; high = z.high; passed = z.passed };
    }

-- a session takes the desk in
pub lends_kept : (seats id other : ℕ) (p : PinView) (d : DeskView) → Joins (BoardRule seats) id (pin_only p) other (desk_only d) (pin_with_desk d p) nobody
lends_kept seats id other p d s r at apart there = record {
  owner = r.owner;
  keeper = id;
  desk = d;
  seats_are = as_many seats 0 other d s r was;
  wide = r.wide;
  desk_ok = desk_at seats 0 other d s r was;
  each = all_set K (set s.views id (pin_with_desk d p)) other nobody (knows_nobody s.words r.owner id d other)
      (λ j u o e. first j u e o);
  slips = slips_joined d.log d.given s.views id (pin_only p) (desk_slips seats 0 other d s r was) at other (pin_with_desk d p) (desk_only d) nobody apart there (omega arith) (sym (append-nil p.mine)) refl refl refl refl;
}
  where
    was : get_elem? s.views other ≡ some (desk_only d)
    was = ⊎_elim (λ (t : (other ≡ id) × (pin_with_desk d p ≡ desk_only d)). absurd (apart t.0)) (λ (t : (other ≢ id) × (get_elem? s.views other ≡ some (desk_only d))). t.1) (at_set s.views id other (pin_with_desk d p) (desk_only d) there)

    K : ℕ → SeatView → Type 0
    K j u = SeatFacts s.words r.owner id d j u

    here : (other ≡ r.keeper) × (d ≡ r.desk)
    here = here_is seats 0 other d s r was

    own : PinFacts s.words r.owner d id p
    own = pin_at seats 0 other d s r was id (pin_only p) p at refl

    first : (j : ℕ) (u : SeatView) → get_elem? (set s.views id (pin_with_desk d p)) j ≡ some u → j ≢ other → K j u
    first j u e o = all_set (λ a v. a ≢ other → K a v) s.views id (pin_with_desk d p) (λ _. knows_both s.words r.owner id d id p refl own)
        (λ a v na ea oa. record { desks = λ x ex. absurd (oa (((r.each a v ea).desks x ex).0 ∙ sym here.0)); pins = λ q eq. pin_at seats 0 other d s r was a v q ea eq }) j u e o

-- a step of both
module _ (seats slots id : ℕ) (d : DeskView) (p : PinView) (s : St) (r : BoardRule seats s) (at : get_elem? s.views id ≡ some (pin_with_desk d p)) where
  both_is : (id ≡ r.keeper) × (d ≡ r.desk)
  both_is = (r.each id (pin_with_desk d p) at).desks d refl

  both_desk : DeskFacts s.words d
  both_desk = subst (DeskFacts s.words) (sym both_is.1) r.desk_ok

  both_own : PinFacts s.words r.owner d id p
  both_own = subst (λ (x : DeskView). PinFacts s.words r.owner x id p) (sym both_is.1) ((r.each id (pin_with_desk d p) at).pins p refl)

  both_many : d.seats ≡ seats
  both_many = ap (λ (x : DeskView). x.seats) both_is.1 ∙ r.seats_are

  both_slips : SlipsAddUp d.log d.given s.views
  both_slips = subst (λ (x : DeskView). SlipsAddUp x.log x.given s.views) (sym both_is.1) r.slips

  both_in_journal : AreInJournal d.log p.mine
  both_in_journal = (both_slips.writes id (pin_with_desk d p) at).in_journal

  both_pin : (j : ℕ) (u : SeatView) (q : PinView) → get_elem? s.views j ≡ some u → u.pin ≡ Some q → PinFacts s.words r.owner d j q
  both_pin j u q e eq = subst (λ (x : DeskView). PinFacts s.words r.owner x j q) (sym both_is.1) ((r.each j u e).pins q eq)

  both_step : (d' : DeskView) (p' : PinView) (ws : List ℕ) → length ws ≡ length s.words → d'.seats ≡ seats → DeskFacts ws d' → PinFacts ws r.owner d' id p' → ((j : ℕ) (q : PinView) → PinFacts s.words r.owner d j q → PinFacts ws r.owner d' j q)
      → SlipsAddUp d'.log d'.given (set s.views id (pin_with_desk d' p')) → BoardRule seats record { words = ws; homes = s.homes; views = set s.views id (pin_with_desk d' p') }
  both_step d' p' ws as_wide many ok mine pins sums = keeps_rule seats s r id (pin_with_desk d' p') ws d' as_wide many ok (knows_both ws r.owner r.keeper d' id p' both_is.0 mine)
      (λ j u o e. record { desks = λ x ex. absurd (o (((r.each j u e).desks x ex).0 ∙ sym both_is.0)); pins = λ q eq. pins j q (both_pin j u q e eq) })
      sums

module _ (seats slots id : ℕ) (d : DeskView) (p : PinView) where
  pub writes_kept : (c : Claim) (old new : ℕ) → IsNext d.log c → p.slips ≡ 1 → old ≡ length d.log → new ≡ length d.log + 1
      → Allows (BoardRule seats) slots id (pin_with_desk d p, []) 0 (λ n. either (n == old) new n) (writes (step slots 0 old new (some c)) (pin_with_desk d p, []))
  writes_kept c old new next one is then s r deep at small =
      let n : ℕ = get_or s.words 0 0 in let x : ℕ = either (n == old) new n in let ws : List ℕ = set s.words 0 x in let w = r.wide in
      let k = both_desk seats slots id d p s r at in let own = both_own seats slots id d p s r at in let now = k.clock_is in
      let hit : x ≡ new = ap (λ (b : Bool). either b new n) (eq-eqb n old (now ∙ sym is)) in
      let len = length-append d.log (c.unit ∷ []) in
      let rn = k.read_now in let hn = k.high_now in let fn = k.floor_now in
      let f : get_or ws 1 0 ≡ get_or s.words 1 0 = get_or-set_other s.words 0 1 x 0 (omega arith) in
      let hf = k.high_floor in
      let grown : (j : ℕ) (q : PinView) → PinFacts s.words r.owner d j q → PinFacts ws r.owner (logged d c) j q = λ j q o. record {
        placed = o.placed;
        alone = o.alone;
        held = get_or-set_other s.words 0 (slot_word q.place) x 0 (omega arith) ∙ o.held;
        before = (let b = o.before in omega (arith, len));
        base = o.base ∙ sym (take-append-le (length q.base) d.log (c.unit ∷ []) o.before);
        seen = begins_longer d.log (c.unit ∷ []) q.seen o.seen;
        settled = λ e. let z = o.settled e in record { within = z.within; high = z.high; passed = z.passed };
      } in (
        pin_with_desk (logged d c) (wrote d p c),
        keeps,
        tt,
        both_step seats slots id d p s r at (logged d c) (wrote d p c) ws (length-set s.words 0 x) (both_many seats slots id d p s r at)
            (record {
              clock_is = get_or-set_same s.words 0 x 0 (omega arith) ∙ (hit ∙ (then ∙ sym len));
              dealt = k.dealt;
              vacant = λ i a b. get_or-set_other s.words 0 (slot_word i) x 0 (omega arith) ∙ k.vacant i a b;
              raised = λ e. let a = k.raised e in omega arith;
              not_yet = k.not_yet;
              high_floor = omega arith;
              read_now = omega (arith, len);
              high_now = omega (arith, len);
              floor_is = f ∙ k.floor_is;
              floor_now = omega (arith, len);
            })
            (let g = grown id p own in record { placed = g.placed; alone = g.alone; held = g.held; before = g.before; base = g.base; seen = begins_itself (d.log ++ c.unit ∷ []); settled = λ e. let z = own.settled e in record { within = z.within; high = z.high; passed = z.passed } })
            grown
            (slips_written d.log d.given s.views id (pin_with_desk d p) (both_slips seats slots id d p s r at) at (pin_with_desk (logged d c) (wrote d p c)) c next (omega arith) refl refl refl),
        (refl, both_in_journal seats slots id d p s r at, own.placed, own.seen),
      )

  pub rebases_kept : Allows (BoardRule seats) slots id (pin_with_desk d p, []) 0 (λ n. n) (rebases (step slots 0 0 0 none) (pin_with_desk d p, []))
  rebases_kept s r deep at small =
      let k = both_desk seats slots id d p s r at in let own = both_own seats slots id d p s r at in let b = own.before in (
        pin_with_desk d (rebased d p),
        keeps,
        tt,
        subst (λ (ws : List ℕ). BoardRule seats record { words = ws; homes = s.homes; views = set s.views id (pin_with_desk d (rebased d p)) }) (sym (set-get_or s.words 0 0))
            (both_step seats slots id d p s r at d (rebased d p) s.words refl (both_many seats slots id d p s r at) k
            (record { placed = own.placed; alone = own.alone; held = own.held; before = le_refl (length d.log); base = sym (take_all (length d.log) d.log (le_refl (length d.log))); seen = begins_itself d.log; settled = λ e. let z = own.settled e in let y = z.within in record { within = omega arith; high = z.high; passed = z.passed } })
            (λ j q o. o)
            (slips_same d.log d.given s.views id (pin_with_desk d p) (both_slips seats slots id d p s r at) at (pin_with_desk d (rebased d p)) refl refl refl)),
        (refl, k.clock_is, record { below = λ e. let z = own.settled e in le_trans z.high z.within; slot = λ e. let z = own.settled e in (z.high, z.within); before = own.before; base = own.base; mine = both_in_journal seats slots id d p s r at; seen = own.seen; high = k.high_now; floor = k.floor_now; placed = own.placed }),
      )

  -- no draw goes on meanwhile: the least so far is not above the clock
  pub settles_kept : (x : ℕ) → x ≡ length d.log → Allows (BoardRule seats) slots id (pin_with_desk d p, []) (slot_word p.place) (λ _. x) (λ _. settles (step slots (slot_word p.place) x 0 none) (pin_with_desk d p, []) x)
  settles_kept x now s r deep at small =
      let ws : List ℕ = set s.words (slot_word p.place) x in let p' : PinView = settled_now d p in
      let k = both_desk seats slots id d p s r at in let own = both_own seats slots id d p s r at in let many = both_many seats slots id d p s r at in let here = both_is seats slots id d p s r at in
      let w = r.wide in let pl = own.placed in let dl = k.dealt in (
        pin_with_desk d p',
        keeps,
        tt,
        keeps_rule seats s r id (pin_with_desk d p') ws d (length-set s.words (slot_word p.place) x) many
            (same_desk s.words ws d (get_or-set_other s.words (slot_word p.place) 0 x 0 (omega arith)) (get_or-set_other s.words (slot_word p.place) 1 x 0 (omega arith)) (λ i a _. get_or-set_other s.words (slot_word p.place) (slot_word i) x 0 (omega arith)) k)
            (knows_both ws r.owner r.keeper d id p' here.0
            (record {
              placed = own.placed;
              alone = own.alone;
              held = get_or-set_same s.words (slot_word p.place) x 0 (omega arith) ∙ now;
              before = le_refl (length d.log);
              base = sym (take_all (length d.log) d.log (le_refl (length d.log)));
              seen = begins_itself d.log;
              settled = λ _. record { within = le_refl (length d.log); high = k.high_now; passed = λ l. le_trans (fold_min_le d.read d.loaded) k.read_now };
            }))
            (λ j u o e. record {
              desks = λ y ey. absurd (o (((r.each j u e).desks y ey).0 ∙ sym here.0));
              pins = λ q eq. let f = both_pin seats slots id d p s r at j u q e eq in
                  let apart : q.place ≢ p.place = λ (same : q.place ≡ p.place). o (sym f.alone ∙ ap r.owner same ∙ own.alone) in
                  same_slot s.words ws r.owner d j q (get_or-set_other s.words (slot_word p.place) (slot_word q.place) x 0 (omega arith)) f;
            })
            (slips_same d.log d.given s.views id (pin_with_desk d p) (both_slips seats slots id d p s r at) at (pin_with_desk d p') refl refl refl),
        refl,
      )

  pub meets_kept : Allows (BoardRule seats) slots id (pin_with_desk d p, []) 0 (λ n. n) (meets (step slots 0 0 0 none) (pin_with_desk d p, []))
  meets_kept s r deep at small =
      let k = both_desk seats slots id d p s r at in let own = both_own seats slots id d p s r at in (
        pin_with_desk d (aware d p),
        keeps,
        tt,
        subst (λ (ws : List ℕ). BoardRule seats record { words = ws; homes = s.homes; views = set s.views id (pin_with_desk d (aware d p)) }) (sym (set-get_or s.words 0 0))
            (both_step seats slots id d p s r at d (aware d p) s.words refl (both_many seats slots id d p s r at) k
            (record { placed = own.placed; alone = own.alone; held = own.held; before = own.before; base = own.base; seen = begins_itself d.log; settled = λ e. let z = own.settled e in record { within = z.within; high = z.high; passed = z.passed } })
            (λ j q o. o)
            (slips_same d.log d.given s.views id (pin_with_desk d p) (both_slips seats slots id d p s r at) at (pin_with_desk d (aware d p)) refl refl refl)),
        (refl, record { below = λ e. let z = own.settled e in le_trans z.high z.within; slot = λ e. let z = own.settled e in (z.high, z.within); before = own.before; base = own.base; mine = both_in_journal seats slots id d p s r at; seen = own.seen; high = k.high_now; floor = k.floor_now; placed = own.placed }),
      )

  pub gives_slip_kept : p.slips ≡ 0 → Allows (BoardRule seats) slots id (pin_with_desk d p, []) 0 (λ n. n) (gives_slip (step slots 0 0 0 none) (pin_with_desk d p, []))
  gives_slip_kept free s r deep at small =
      let k = both_desk seats slots id d p s r at in let own = both_own seats slots id d p s r at in (
        pin_with_desk (gave d) (with_slip d p),
        keeps,
        tt,
        subst (λ (ws : List ℕ). BoardRule seats record { words = ws; homes = s.homes; views = set s.views id (pin_with_desk (gave d) (with_slip d p)) }) (sym (set-get_or s.words 0 0))
            (both_step seats slots id d p s r at (gave d) (with_slip d p) s.words refl (both_many seats slots id d p s r at)
            (record { clock_is = k.clock_is; dealt = k.dealt; vacant = k.vacant; raised = k.raised; not_yet = k.not_yet; high_floor = k.high_floor; read_now = k.read_now; high_now = k.high_now; floor_is = k.floor_is; floor_now = k.floor_now })
            (record { placed = own.placed; alone = own.alone; held = own.held; before = own.before; base = own.base; seen = begins_itself d.log; settled = λ e. let z = own.settled e in record { within = z.within; high = z.high; passed = z.passed } })
            (λ j q o. record { placed = o.placed; alone = o.alone; held = o.held; before = o.before; base = o.base; seen = o.seen; settled = λ e. let z = o.settled e in record { within = z.within; high = z.high; passed = z.passed } })
            (slips_given d.log d.given s.views id (pin_with_desk d p) (both_slips seats slots id d p s r at) at (pin_with_desk (gave d) (with_slip d p)) (omega arith) refl refl)),
        refl,
      )

-- a session gives the desk back
pub gives_back_kept : (seats id : ℕ) (d : DeskView) (p : PinView) → Splits (BoardRule seats) id (pin_with_desk d p) (pin_only p) (desk_only d)
gives_back_kept seats id d p s r at = record {
  owner = r.owner;
  keeper = length (set s.views id (pin_only p));
  desk = d;
  seats_are = both_many seats 0 id d p s r at;
  wide = r.wide;
  desk_ok = both_desk seats 0 id d p s r at;
  each = all_end (SeatFacts s.words r.owner (length (set s.views id (pin_only p))) d) s.views id (pin_only p) (desk_only d)
      (knows_pin s.words r.owner (length (set s.views id (pin_only p))) d id p (both_own seats 0 id d p s r at))
      (knows_desk s.words r.owner (length (set s.views id (pin_only p))) d (length (set s.views id (pin_only p))) refl)
      (λ j u o e. record { desks = λ x ex. absurd (o (((r.each j u e).desks x ex).0 ∙ sym (both_is seats 0 id d p s r at).0)); pins = λ q eq. both_pin seats 0 id d p s r at j u q e eq });
  slips = slips_beside d.log d.given s.views id (pin_with_desk d p) (both_slips seats 0 id d p s r at) at (pin_only p) (desk_only d) refl refl refl refl refl refl;
}

-- a session's slip is taken off its seat
pub takes_slip_kept : (seats id : ℕ) (p : PinView) → p.slips ≡ 1 → Splits (BoardRule seats) id (pin_only p) (pin_only (without_slip p)) (slip_only p.mine (p.seen ∷ []))
takes_slip_kept seats id p one s r at = let own = own_at seats 0 id p s r at in record {
  owner = r.owner;
  keeper = r.keeper;
  desk = r.desk;
  seats_are = r.seats_are;
  wide = r.wide;
  desk_ok = r.desk_ok;
  each = all_end (SeatFacts s.words r.owner r.keeper r.desk) s.views id (pin_only (without_slip p)) (slip_only p.mine (p.seen ∷ []))
      (knows_pin s.words r.owner r.keeper r.desk id (without_slip p)
      (record { placed = own.placed; alone = own.alone; held = own.held; before = own.before; base = own.base; seen = own.seen; settled = λ e. let z = own.settled e in record { within = z.within; high = z.high; passed = z.passed } }))
      (record { desks = λ x e. absurd (none-some x e); pins = λ q e. absurd (none-some q e) })
      (λ j u o e. r.each j u e);
  slips = slips_off r.desk.log r.desk.given s.views id (pin_only p) r.slips at (pin_only (without_slip p)) (slip_only p.mine (p.seen ∷ [])) (omega arith) refl refl refl (All-push (IsBeginning r.desk.log) [] p.seen (All-nil (IsBeginning r.desk.log)) own.seen) refl;
}

-- the desk at the end, with slips
module _ (seats id : ℕ) (d : DeskView) (n : ℕ) (back : List Claim) (known : List (List JournalUnit)) (s : St) (r : BoardRule seats s) (at : get_elem? s.views id ≡ some (tally_only d n back known)) where
  tally_is : (id ≡ r.keeper) × (d ≡ r.desk)
  tally_is = (r.each id (tally_only d n back known) at).desks d refl

  tally_slips : SlipsAddUp d.log d.given s.views
  tally_slips = subst (λ (x : DeskView). SlipsAddUp x.log x.given s.views) (sym tally_is.1) r.slips

-- a slip comes back
pub adds_kept : (seats id other : ℕ) (d : DeskView) (n : ℕ) (back mine : List Claim) (known more : List (List JournalUnit)) → Joins (BoardRule seats) id (tally_only d n back known) other (slip_only mine more) (tally_only d (n + 1) (back ++ mine) (known ++ more)) nobody
adds_kept seats id other d n back mine known more s r at apart there = record {
  owner = r.owner;
  keeper = r.keeper;
  desk = r.desk;
  seats_are = r.seats_are;
  wide = r.wide;
  desk_ok = r.desk_ok;
  each = all_set K (set s.views id both) other nobody (knows_nobody s.words r.owner r.keeper r.desk other)
      (λ j u _ e. all_set K s.views id both (record { desks = λ x ex. (here.0, sym (ap desk_or ex) ∙ here.1); pins = λ q eq. absurd (none-some q eq) }) (λ a v _ ea. r.each a v ea) j u e);
  slips = subst (λ (x : DeskView). SlipsAddUp x.log x.given (set (set s.views id both) other nobody)) here.1
      (slips_joined d.log d.given s.views id (tally_only d n back known) (tally_slips seats id d n back known s r at) at other both (slip_only mine more) nobody apart there refl refl refl refl refl refl);
}
  where
    both : SeatView
    both = tally_only d (n + 1) (back ++ mine) (known ++ more)

    K : ℕ → SeatView → Type 0
    K j u = SeatFacts s.words r.owner r.keeper r.desk j u

    here : (id ≡ r.keeper) × (d ≡ r.desk)
    here = tally_is seats id d n back known s r at

pub learns_kept : (seats slots id : ℕ) (d : DeskView) (n : ℕ) (back : List Claim) (known : List (List JournalUnit)) → Allows (BoardRule seats) slots id (tally_only d n back known, []) 0 (λ n. n) (learns (step slots 0 0 0 none) (tally_only d n back known, []))
learns_kept seats slots id d n back known s r deep at small =
    let k = tally_slips seats id d n back known s r at in (
      tally_only d n back known,
      keeps,
      tt,
      subst (λ (x : List ℕ × List SeatView). BoardRule seats record { words = x.0; homes = s.homes; views = x.1 }) (λ i. (sym (set-get_or s.words 0 0) i, sym (set_again s.views id (tally_only d n back known) at) i)) r,
      (refl, ((k.writes id (tally_only d n back known) at).in_journal, (λ all. slips_all d.log d.given s.views id (tally_only d n back known) k at all, (slips_few d.log d.given s.views id (tally_only d n back known) k at, (k.writes id (tally_only d n back known) at).known)))),
    )

-- two sessions' seats are never at one place
pub clashes_kept : (seats id other : ℕ) (p q : PinView) (both : SeatView) → q.place ≡ p.place → Joins (BoardRule seats) id (pin_only p) other (pin_only q) both nobody
clashes_kept seats id other p q both same s r at apart there =
    let was : get_elem? s.views other ≡ some (pin_only q) = ⊎_elim (λ (t : (other ≡ id) × (both ≡ pin_only q)). absurd (apart t.0)) (λ (t : (other ≢ id) × (get_elem? s.views other ≡ some (pin_only q))). t.1) (at_set s.views id other both (pin_only q) there) in
    absurd (apart (sym ((r.each other (pin_only q) was).pins q refl).alone ∙ ap r.owner same ∙ ((r.each id (pin_only p) at).pins p refl).alone))

-- a seat that can't be does no step
pub never_kept : (seats slots id : ℕ) → Allows (BoardRule seats) slots id (nowhere, []) 0 (λ n. n) (never (step slots 0 0 0 none) (nowhere, []))
never_kept seats slots id s r deep at small = let none_there : nowhere.back ≡ [] = (r.slips.writes id nowhere at).empty refl in absurd (omega (arith, ap length none_there))

single : (v u : SeatView) (j : ℕ) → get_elem? (v ∷ []) j ≡ some u → (j ≡ 0) × (v ≡ u)
single v u zero e = (refl, some-injective v u e)
single v u (suc j) e = absurd (some-ne-none u (sym e))

-- the board at the start
pub opens_kept : (seats : ℕ) (words : List ℕ) → length words ≡ slot_word seats → get_or words 0 0 ≡ 0 → get_or words 1 0 ≡ 0 → ((i : ℕ) → i < seats → get_or words (slot_word i) 0 ≡ idle) → BoardRule seats (opening words [] (starting seats))
opens_kept seats words wide first low empty = record {
  owner = λ x. x;
  keeper = 0;
  desk = new_desk seats;
  seats_are = refl;
  wide = wide;
  desk_ok = record { clock_is = first; dealt = omega arith; vacant = λ i _ b. empty i b; raised = λ e. absurd (true≢false (sym e)); not_yet = λ _. refl; high_floor = omega arith; read_now = omega arith; high_now = omega arith; floor_is = low; floor_now = omega arith };
  each = λ j u e. let t = single (starting seats) u j e in subst (λ (x : ℕ × SeatView). SeatFacts words (λ y. y) 0 (new_desk seats) x.0 x.1) (λ i. (sym t.0 i, t.1 i))
      (knows_desk words (λ y. y) 0 (new_desk seats) 0 refl);
  slips = record { writes = λ j u e. let t = single (starting seats) u j e in subst (SlipFacts []) t.1 (writes_nothing [] (starting seats) refl refl); slips = refl; units = λ h. refl };
}
