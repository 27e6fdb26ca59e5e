-- Each step keeps the sums of the slips.
use Rattle.std.proofs.Common.{◌≡◌, ◌≢◌, ℕ, zero, suc, le_refl, ◌+◌, ◌<◌, ◌≤◌, List, [], ◌∷◌, ◌++◌, length, set, Some, refl, sym, ap, ◌∙◌, subst, ⊎_elim, arith}
use Rattle.std.specs.Prelude.{slice_get}
use Rattle.std.specs.List.{All, sum_by}
use Rattle.std.proofs.lemmas.List.{take_all, take-append-le}
use Rattle.std.proofs.lemmas.List.Elements.{All-nil, All-append, All-push, All-weaker}
use Rattle.std.proofs.lemmas.List.Sums.{sum_by-append, sum_by_push, sum_by-cons}
use mathlib.Core.Option.{some, some-ne-none, some-injective}
use lib.ListN.{get_elem?, length-append}
use Rattle.atomic_table.proofs.Lists.{at_set, at_snoc}
use Rattle.journal.specs.declared.unit.Unit.{Unit as JournalUnit}
use Rattle.journal.specs.Kept.{Claim, claims_of, job_of}
use Rattle.pin_board.specs.declared.view.SeatView.{SeatView}
use Rattle.pin_board.specs.Slips.{IsInJournal, AreInJournal, IsBeginning, IsNext, weigh, AreAll, slips_in, units_in, SlipFacts, SlipsAddUp}

-- what a seat's slips weigh
abbrev pub weight : (Claim → ℕ) → SeatView → ℕ
weight h v = weigh h (units_in v)

-- a sum over the views after a change of one
total_set : (f : SeatView → ℕ) (views : List SeatView) (by : ℕ) (v w : SeatView) → get_elem? views by ≡ some v → sum_by f (set views by w) + f v ≡ sum_by f views + f w
total_set f [] by v w at = absurd (some-ne-none v (sym at))
total_set f (x ∷ xs) zero v w at = let e : f x ≡ f v = ap f (some-injective x v at) in omega (arith, sum_by-cons f x xs, sum_by-cons f w xs)
total_set f (x ∷ xs) (suc by) v w at = let r = total_set f xs by v w at in omega (arith, sum_by-cons f x xs, sum_by-cons f x (set xs by w))

-- one unit more is one claim more
claims_push : (h : Claim → ℕ) (n : ℕ) (log : List JournalUnit) (c : Claim) → c.number ≡ n + length log → c.job ≡ job_of c.unit → weigh h (claims_of n (log ++ c.unit ∷ [])) ≡ weigh h (claims_of n log) + h c
claims_push h n [] c number job =
    let m : c.number ≡ n = omega (arith, number) in
    let same : h (record { job = job_of c.unit; number = n; unit = c.unit }) ≡ h c = λ i. h (record { job = sym job i; number = sym m i; unit = c.unit }) in
    let s = sum_by-cons h (record { job = job_of c.unit; number = n; unit = c.unit }) [] in omega (arith, s, same)
claims_push h n (x ∷ xs) c number job =
    let again = claims_push h (n + 1) xs c (omega (arith, number)) job in
    let a = sum_by-cons h (record { job = job_of x; number = n; unit = x }) (claims_of (n + 1) (xs ++ c.unit ∷ [])) in
    let b = sum_by-cons h (record { job = job_of x; number = n; unit = x }) (claims_of (n + 1) xs) in omega (arith, again, a, b)

slice_get_front : (xs ys : List JournalUnit) (k : ℕ) (p : JournalUnit) → slice_get xs k ≡ Some p → slice_get (xs ++ ys) k ≡ Some p
slice_get_front [] ys k p e = absurd (cc)
slice_get_front (x ∷ xs) ys zero p e = e
slice_get_front (x ∷ xs) ys (suc k) p e = slice_get_front xs ys k p e

slice_get_last : (xs : List JournalUnit) (p : JournalUnit) → slice_get (xs ++ p ∷ []) (length xs) ≡ Some p
slice_get_last [] p = refl
slice_get_last (x ∷ xs) p = slice_get_last xs p

in_journal_longer : (log more : List JournalUnit) (mine : List Claim) → AreInJournal log mine → AreInJournal (log ++ more) mine
in_journal_longer log more mine s = record { each = All-weaker (IsInJournal log) (IsInJournal (log ++ more)) (λ p a. (a.0, a.1, slice_get_front log more a.0 p.unit a.2)) mine s.each }

in_journal_last : (log : List JournalUnit) (c : Claim) → IsNext log c → IsInJournal (log ++ c.unit ∷ []) c
in_journal_last log c next = (length log, next.number, slice_get_last log c.unit)

-- a beginning of the journal stays one
pub begins_itself : (log : List JournalUnit) → IsBeginning log log
begins_itself log = record { within = le_refl (length log); is = sym (take_all (length log) log (le_refl (length log))) }

pub begins_longer : (log more seen : List JournalUnit) → IsBeginning log seen → IsBeginning (log ++ more) seen
begins_longer log more seen b = record { within = (let w = b.within in let n = length-append log more in omega (arith, w, n)); is = b.is ∙ sym (take-append-le (length seen) log more b.within) }

known_longer : (log more : List JournalUnit) (known : List (List JournalUnit)) → All (IsBeginning log) known → All (IsBeginning (log ++ more)) known
known_longer log more known k = All-weaker (IsBeginning log) (IsBeginning (log ++ more)) (λ seen b. begins_longer log more seen b) known k

-- a slip with the unit that is written now
pub in_journal_push : (log : List JournalUnit) (mine : List Claim) (c : Claim) → IsNext log c → AreInJournal log mine → AreInJournal (log ++ c.unit ∷ []) (mine ++ c ∷ [])
in_journal_push log mine c next s = record { each = All-push (IsInJournal (log ++ c.unit ∷ [])) mine c (in_journal_longer log (c.unit ∷ []) mine s).each (in_journal_last log c next) }

pub writes_longer : (log more : List JournalUnit) (v : SeatView) → SlipFacts log v → SlipFacts (log ++ more) v
writes_longer log more v k = record { in_journal = in_journal_longer log more (units_in v) k.in_journal; empty = k.empty; known = known_longer log more v.known k.known }

pub writes_nothing : (log : List JournalUnit) (v : SeatView) → units_in v ≡ [] → v.known ≡ [] → SlipFacts log v
writes_nothing log v e f = record { in_journal = subst (AreInJournal log) (sym e) (record { each = All-nil (IsInJournal log) }); empty = λ _. e; known = subst (All (IsBeginning log)) (sym f) (All-nil (IsBeginning log)) }

pub writes_same : (log : List JournalUnit) (v w : SeatView) → slips_in w ≡ slips_in v → units_in w ≡ units_in v → w.known ≡ v.known → SlipFacts log v → SlipFacts log w
writes_same log v w a b f k = record { in_journal = subst (AreInJournal log) (sym b) k.in_journal; empty = λ z. b ∙ k.empty (sym a ∙ z); known = subst (All (IsBeginning log)) (sym f) k.known }

-- a fact of each view, after a change of one of them
each_set : (K : SeatView → Type 0) (vs : List SeatView) (id : ℕ) (w : SeatView) → K w → ((j : ℕ) (u : SeatView) → get_elem? vs j ≡ some u → K u) → (j : ℕ) (u : SeatView) → get_elem? (set vs id w) j ≡ some u → K u
each_set K vs id w mine others j u e = ⊎_elim (λ (t : (j ≡ id) × (w ≡ u)). subst K t.1 mine) (λ (t : (j ≢ id) × (get_elem? vs j ≡ some u)). others j u t.1) (at_set vs id j w u e)

each_end : (K : SeatView → Type 0) (vs : List SeatView) (w : SeatView) → K w → ((j : ℕ) (u : SeatView) → get_elem? vs j ≡ some u → K u) → (j : ℕ) (u : SeatView) → get_elem? (vs ++ w ∷ []) j ≡ some u → K u
each_end K vs w mine others j u e = ⊎_elim (λ was. others j u was) (λ (same : w ≡ u). subst K same mine) (at_snoc vs w u j e)

module _ (log : List JournalUnit) (given : ℕ) (views : List SeatView) (id : ℕ) (v : SeatView) (k : SlipsAddUp log given views) (at : get_elem? views id ≡ some v) where
  -- the seat changes, and its slips don't
  pub slips_same : (w : SeatView) → slips_in w ≡ slips_in v → units_in w ≡ units_in v → w.known ≡ v.known → SlipsAddUp log given (set views id w)
  slips_same w a b f = record {
    writes = each_set (SlipFacts log) views id w (writes_same log v w a b f (k.writes id v at)) k.writes;
    slips = (let t = total_set slips_in views id v w at in let s = k.slips in omega arith);
    units = λ h. (let t = total_set (weight h) views id v w at in let s = k.units h in let e : weight h w ≡ weight h v = ap (weigh h) b in omega arith);
  }

  -- it gets a slip
  pub slips_given : (w : SeatView) → slips_in w ≡ slips_in v + 1 → units_in w ≡ units_in v → w.known ≡ v.known → SlipsAddUp log (given + 1) (set views id w)
  slips_given w a b f = record {
    writes = each_set (SlipFacts log) views id w (record { in_journal = subst (AreInJournal log) (sym b) (k.writes id v at).in_journal; empty = λ z. absurd (omega arith); known = subst (All (IsBeginning log)) (sym f) (k.writes id v at).known }) k.writes;
    slips = (let t = total_set slips_in views id v w at in let s = k.slips in omega arith);
    units = λ h. (let t = total_set (weight h) views id v w at in let s = k.units h in let e : weight h w ≡ weight h v = ap (weigh h) b in omega arith);
  }

  -- it writes a unit on the slip that it has
  pub slips_written : (w : SeatView) (c : Claim) → IsNext log c → 0 < slips_in v → slips_in w ≡ slips_in v → units_in w ≡ units_in v ++ c ∷ [] → w.known ≡ v.known → SlipsAddUp (log ++ c.unit ∷ []) given (set views id w)
  slips_written w c next one a b q = let u : JournalUnit = c.unit in record {
    writes = each_set (SlipFacts (log ++ u ∷ [])) views id w (record { in_journal = subst (AreInJournal (log ++ u ∷ [])) (sym b) (in_journal_push log (units_in v) c next (k.writes id v at).in_journal); empty = λ z. absurd (omega arith); known = subst (All (IsBeginning (log ++ u ∷ []))) (sym q) (known_longer log (u ∷ []) v.known (k.writes id v at).known) })
        (λ j x e. writes_longer log (u ∷ []) x (k.writes j x e));
    slips = (let t = total_set slips_in views id v w at in let s = k.slips in omega arith);
    units = λ h. (let t = total_set (weight h) views id v w at in let s = k.units h in
        let e : weight h w ≡ weigh h (units_in v ++ c ∷ []) = ap (weigh h) b in
        let f : weigh h (units_in v ++ c ∷ []) ≡ weight h v + h c = sum_by_push h (units_in v) c in
        let d : weigh h (claims_of 1 (log ++ u ∷ [])) ≡ weigh h (claims_of 1 log) + h c = claims_push h 1 log c (let m = next.number in omega (arith, m)) next.job in omega arith);
  }

  -- a new seat has nothing
  pub slips_beside : (w x : SeatView) → slips_in w ≡ slips_in v → units_in w ≡ units_in v → slips_in x ≡ 0 → units_in x ≡ [] → w.known ≡ v.known → x.known ≡ [] → SlipsAddUp log given (set views id w ++ x ∷ [])
  slips_beside w x a b c d f g = let r = slips_same w a b f in record {
    writes = each_end (SlipFacts log) (set views id w) x (writes_nothing log x d g) r.writes;
    slips = (let t = sum_by_push slips_in (set views id w) x in let s = r.slips in omega arith);
    units = λ h. (let t = sum_by_push (weight h) (set views id w) x in let s = r.units h in let e : weight h x ≡ 0 = ap (weigh h) d in omega arith);
  }

  -- all its slips go to a new seat
  pub slips_off : (w x : SeatView) → slips_in x ≡ slips_in v → units_in x ≡ units_in v → slips_in w ≡ 0 → units_in w ≡ [] → All (IsBeginning log) x.known → w.known ≡ [] → SlipsAddUp log given (set views id w ++ x ∷ [])
  slips_off w x a b c d p q = record {
    writes = each_end (SlipFacts log) (set views id w) x (record { in_journal = subst (AreInJournal log) (sym b) (k.writes id v at).in_journal; empty = λ z. b ∙ (k.writes id v at).empty (sym a ∙ z); known = p }) (each_set (SlipFacts log) views id w (writes_nothing log w d q) k.writes);
    slips = (let t = total_set slips_in views id v w at in let y = sum_by_push slips_in (set views id w) x in let s = k.slips in omega arith);
    units = λ h. (let t = total_set (weight h) views id v w at in let y = sum_by_push (weight h) (set views id w) x in let s = k.units h in
        let e : weight h x ≡ weight h v = ap (weigh h) b in let f : weight h w ≡ 0 = ap (weigh h) d in omega arith);
  }

  -- it takes in another's slips, and the other is spent
  pub slips_joined : (other : ℕ) (b x n : SeatView) → other ≢ id → get_elem? (set views id b) other ≡ some x → slips_in b ≡ slips_in v + slips_in x → units_in b ≡ units_in v ++ units_in x → slips_in n ≡ 0 → units_in n ≡ [] → b.known ≡ v.known ++ x.known → n.known ≡ []
      → SlipsAddUp log given (set (set views id b) other n)
  slips_joined other b x n apart there sl un c d kb kn =
      let was : get_elem? views other ≡ some x = ⊎_elim (λ (t : (other ≡ id) × (b ≡ x)). absurd (apart t.0)) (λ (t : (other ≢ id) × (get_elem? views other ≡ some x)). t.1) (at_set views id other b x there) in
      let mine = k.writes id v at in let theirs = k.writes other x was in record {
        writes = each_set (SlipFacts log) (set views id b) other n (writes_nothing log n d kn)
            (each_set (SlipFacts log) views id b (record { in_journal = subst (AreInJournal log) (sym un) (record { each = All-append (IsInJournal log) (units_in v) (units_in x) mine.in_journal.each theirs.in_journal.each }); empty = λ z. un ∙ none_both mine.empty theirs.empty (sym sl ∙ z); known = subst (All (IsBeginning log)) (sym kb) (All-append (IsBeginning log) v.known x.known mine.known theirs.known) }) k.writes);
        slips = (let t = total_set slips_in views id v b at in let p = total_set slips_in (set views id b) other x n there in let s = k.slips in omega arith);
        units = λ h. (let t = total_set (weight h) views id v b at in let p = total_set (weight h) (set views id b) other x n there in let s = k.units h in
            let e : weight h b ≡ weigh h (units_in v ++ units_in x) = ap (weigh h) un in let f : weight h n ≡ 0 = ap (weigh h) d in
            let a : weigh h (units_in v ++ units_in x) ≡ weight h v + weight h x = sum_by-append h (units_in v) (units_in x) in omega arith);
      }
    where
      none_both : (slips_in v ≡ 0 → units_in v ≡ []) → (slips_in x ≡ 0 → units_in x ≡ []) → slips_in v + slips_in x ≡ 0 → units_in v ++ units_in x ≡ []
      none_both p q z = let y : units_in v ≡ [] = p (omega arith) in let w : units_in x ≡ [] = q (omega arith) in (λ i. y i ++ w i)

-- what the seats without slips wrote
none_left : (views : List SeatView) → sum_by slips_in views ≡ 0 → ((j : ℕ) (u : SeatView) → get_elem? views j ≡ some u → slips_in u ≡ 0 → units_in u ≡ []) → (h : Claim → ℕ) → sum_by (weight h) views ≡ 0
none_left [] z empty h = refl
none_left (x ∷ xs) z empty h =
    let a = sum_by-cons slips_in x xs in
    let b = sum_by-cons (weight h) x xs in
    let e : units_in x ≡ [] = empty 0 x refl (omega arith) in
    let w : weight h x ≡ 0 = ap (weigh h) e in
    let r = none_left xs (omega arith) (λ j u at. empty (suc j) u at) h in omega arith

no_more : (f : SeatView → ℕ) (views : List SeatView) (by : ℕ) (v : SeatView) → get_elem? views by ≡ some v → f v ≤ sum_by f views
no_more f [] by v at = absurd (some-ne-none v (sym at))
no_more f (x ∷ xs) zero v at = let e : f x ≡ f v = ap f (some-injective x v at) in omega (arith, sum_by-cons f x xs)
no_more f (x ∷ xs) (suc by) v at = let r = no_more f xs by v at in omega (arith, sum_by-cons f x xs)

-- a seat with all slips has all units
has_all : (views : List SeatView) (by : ℕ) (v : SeatView) → get_elem? views by ≡ some v → sum_by slips_in views ≡ slips_in v → ((j : ℕ) (u : SeatView) → get_elem? views j ≡ some u → slips_in u ≡ 0 → units_in u ≡ []) → (h : Claim → ℕ) → sum_by (weight h) views ≡ weight h v
has_all [] by v at all empty h = absurd (some-ne-none v (sym at))
has_all (x ∷ xs) zero v at all empty h =
    let a = sum_by-cons slips_in x xs in
    let b = sum_by-cons (weight h) x xs in
    let e : x ≡ v = some-injective x v at in
    let n : slips_in x ≡ slips_in v = ap slips_in e in
    let w : weight h x ≡ weight h v = ap (weight h) e in
    let r = none_left xs (omega arith) (λ j u at'. empty (suc j) u at') h in omega arith
has_all (x ∷ xs) (suc by) v at all empty h =
    let a = sum_by-cons slips_in x xs in
    let b = sum_by-cons (weight h) x xs in
    let most = no_more slips_in xs by v at in
    let e : units_in x ≡ [] = empty 0 x refl (omega arith) in
    let w : weight h x ≡ 0 = ap (weigh h) e in
    let r = has_all xs by v at (omega arith) (λ j u at'. empty (suc j) u at') h in omega arith

pub slips_few : (log : List JournalUnit) (given : ℕ) (views : List SeatView) (id : ℕ) (v : SeatView) → SlipsAddUp log given views → get_elem? views id ≡ some v → slips_in v ≤ given
slips_few log given views id v k at = let most = no_more slips_in views id v at in omega (arith, most, k.slips)

pub slips_all : (log : List JournalUnit) (given : ℕ) (views : List SeatView) (id : ℕ) (v : SeatView) → SlipsAddUp log given views → get_elem? views id ≡ some v → slips_in v ≡ given → AreAll log (units_in v)
slips_all log given views id v k at all h = sym (has_all views id v at (k.slips ∙ sym all) (λ j u e. (k.writes j u e).empty) h) ∙ k.units h
