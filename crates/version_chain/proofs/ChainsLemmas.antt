-- What each call keeps of the chains and of their cells.
use Rattle.std.proofs.Common.{◌≡◌, ◌≢◌, ℕ, zero, suc, ◌+◌, ◌<◌, ◌≤◌, List, [], ◌∷◌, ◌++◌, length, set, Option, Some, None, is_some, count_by, cond, inl, inr, refl, sym, ap, ◌∙◌, subst, arith}
use Rattle.std.proofs.lemmas.List.{map-set, get_or-set_same, get_or-set_other, length-map}
use Rattle.std.proofs.lemmas.List.Sums.{sum_by-cons}
use Rattle.std.proofs.lemmas.Bool.{cases_eq}
use denote.RawPtr.{Ptr}
use Rattle.cell_pool.specs.Pool.{Within}
use Rattle.version_chain.specs.Slots.{slot_at, slots_with}
use Rattle.version_chain.specs.Versions.{Entry, cells_of}
use Rattle.version_chain.specs.Links.{Line, line_versions, line_pages, AllOf}
use Rattle.version_chain.specs.Chains.{ChainsState, listed, Updates, open_count, number_count, line_of, seen_slot, lists_seen, total, IsVersionLine, AllLines, IsChains}

abbrev Slot : Type 0 → Type 0
Slot V = Option (Line V)

all_within : (held more ps : List Ptr) → Within held more → AllOf held ps → AllOf more ps
all_within held more [] w all = tt
all_within held more (p ∷ ps) w all = (w p all.0, all_within held more ps w all.1)

placed_same : {A : Type 0} (xs : List (Option A)) (i : ℕ) (x : Option A) → i ≤ length xs → slot_at (slots_with xs i x) i ≡ x
placed_same [] zero x within = refl
placed_same [] (suc i) x within = absurd (omega arith)
placed_same (y ∷ xs) zero x within = refl
placed_same (y ∷ xs) (suc i) x within = placed_same xs i x (omega arith)

placed_other : {A : Type 0} (xs : List (Option A)) (i j : ℕ) (x : Option A) → i ≤ length xs → j ≢ i → slot_at (slots_with xs i x) j ≡ slot_at xs j
placed_other [] zero zero x within ne = absurd (ne refl)
placed_other [] zero (suc j) x within ne = refl
placed_other [] (suc i) j x within ne = absurd (omega arith)
placed_other (y ∷ xs) zero zero x within ne = absurd (ne refl)
placed_other (y ∷ xs) zero (suc j) x within ne = refl
placed_other (y ∷ xs) (suc i) zero x within ne = refl
placed_other (y ∷ xs) (suc i) (suc j) x within ne = placed_other xs i j x (omega arith) (λ e. ne (ap suc e))

module _ {V : Type 0} where
  lines_within : (held more : List Ptr) (slots : List (Slot V)) → Within held more → AllLines held slots → AllLines more slots
  lines_within held more [] w all = tt
  lines_within held more (x ∷ slots) w all = ((all_within held more (line_pages (line_of x)) w all.0.0, all.0.1), lines_within held more slots w all.1)

  -- the pool has pages more
  pub more_pages : (held more : List Ptr) (m n : ℕ) (slots : List (Slot V)) → Within held more → n ≡ m → IsChains held m slots → IsChains more n slots
  more_pages held more m n slots w e is = record { lines = lines_within held more slots w is.lines; counted = e ∙ is.counted }

  seen_at : (slots : List (Slot V)) (i : ℕ) → slot_at (lists_seen slots) i ≡ seen_slot (slot_at slots i)
  seen_at [] i = refl
  seen_at (x ∷ slots) zero = refl
  seen_at (x ∷ slots) (suc i) = seen_at slots i

  line_there : (held : List Ptr) (slots : List (Slot V)) (i : ℕ) → AllLines held slots → IsVersionLine held (line_of (slot_at slots i))
  line_there held [] i all = (tt, tt)
  line_there held (x ∷ slots) zero all = all.0
  line_there held (x ∷ slots) (suc i) all = line_there held slots i all.1

  -- a line that a number finds is sound
  pub line_at : (held : List Ptr) (m : ℕ) (slots : List (Slot V)) (i : ℕ) (o : Line V) → slot_at slots i ≡ Some o → IsChains held m slots → IsVersionLine held o
  line_at held m slots i o found is = subst (λ x. IsVersionLine held (line_of x)) found (line_there held slots i is.lines)

  inside : (slots : List (Slot V)) (i : ℕ) (o : Line V) → slot_at slots i ≡ Some o → i < length slots
  inside [] i o found = absurd (cc)
  inside (x ∷ slots) zero o found = omega arith
  inside (x ∷ slots) (suc i) o found = let within = inside slots i o found in omega (arith, within)

  lines_set : (held : List Ptr) (slots : List (Slot V)) (i : ℕ) (x : Slot V) → AllLines held slots → IsVersionLine held (line_of x) → AllLines held (set slots i x)
  lines_set held [] i x all one = tt
  lines_set held (y ∷ slots) zero x all one = (one, all.1)
  lines_set held (y ∷ slots) (suc i) x all one = (all.0, lines_set held slots i x all.1 one)

  total_set : (slots : List (Slot V)) (i : ℕ) (x : Slot V) → i < length slots → total (set slots i x) + cells_of (line_versions (line_of (slot_at slots i))) ≡ total slots + cells_of (line_versions (line_of x))
  total_set [] i x within = absurd (omega arith)
  total_set (y ∷ slots) zero x within = omega arith
  total_set (y ∷ slots) (suc i) x within = let e = total_set slots i x (omega arith) in omega (arith, e)

  set_twice : (slots : List (Slot V)) (i : ℕ) (k x : Slot V) → set (set slots i k) i x ≡ set slots i x
  set_twice [] i k x = refl
  set_twice (y ∷ slots) zero k x = refl
  set_twice (y ∷ slots) (suc i) k x = ap (λ ys. y ∷ ys) (set_twice slots i k x)

  -- the line at a number is replaced, as the count of cells tells
  pub line_changed : (slots now : List (Slot V)) (i : ℕ) (x : Slot V) (o : Line V) → slot_at slots i ≡ Some o → now ≡ set slots i x
      → (held more : List Ptr) (m n : ℕ) → IsChains held m slots → more ≡ held → IsVersionLine more (line_of x) → n + cells_of (line_versions o) ≡ m + cells_of (line_versions (line_of x)) → IsChains more n now
  line_changed slots now i x o found made held more m n is same one count =
      let kept : AllLines more slots = subst (λ ps. AllLines ps slots) (sym same) is.lines in
      let t = total_set slots i x (inside slots i o found) in
      let old = ap (λ y. cells_of (line_versions (line_of y))) found in
      subst (IsChains more n) (sym made) (record { lines = lines_set more slots i x kept one; counted = omega (arith, is.counted, t, old, count) })

  -- a line that was taken out and put back is replaced
  pub put_back : (slots mid now : List (Slot V)) (i : ℕ) (k x : Slot V) → mid ≡ set slots i k → now ≡ set mid i x → now ≡ set slots i x
  put_back slots mid now i k x first second = second ∙ ap (λ ys. set ys i x) first ∙ set_twice slots i k x

  -- what callers see of the line at a number
  pub versions_there : (slots : List (Slot V)) (i : ℕ) (o : Line V) → slot_at slots i ≡ Some o → (s : ChainsState V) (spare : ℕ) → record { chains = lists_seen slots; spare = spare } ≡ s → listed (slot_at s.chains i) ≡ line_versions o
  versions_there slots i o found s spare e = ap listed (ap (λ (z : ChainsState V). slot_at z.chains i) (sym e) ∙ seen_at slots i ∙ ap seen_slot found)

  -- what callers see once the line at a number is replaced
  pub Updates-line : (slots now : List (Slot V)) (id : ℕ) (x : Slot V) (o : Line V) → slot_at slots id ≡ Some o → now ≡ set slots id x
      → (s : ChainsState V) (spare new_spare : ℕ) → record { chains = lists_seen slots; spare = spare } ≡ s → (chain : Option (List (Entry V))) → seen_slot x ≡ chain
      → Updates s (record { chains = lists_seen now; spare = new_spare }) id chain
  Updates-line slots now id x o found made s spare new_spare e chain is =
      let within : id < length (lists_seen slots) = omega (arith, length-map slots seen_slot, inside slots id o found) in
      let chains : lists_seen now ≡ set (lists_seen slots) id chain = ap lists_seen made ∙ map-set seen_slot slots id x ∙ ap (set (lists_seen slots) id) is in
      subst (λ z. Updates z (record { chains = lists_seen now; spare = new_spare }) id chain) e (record {
        changed = ap (λ cs. slot_at cs id) chains ∙ get_or-set_same (lists_seen slots) id chain None within;
        others = λ other ne. ap (λ cs. slot_at cs other) chains ∙ get_or-set_other (lists_seen slots) id other chain None ne;
      })

  lines_placed : (held : List Ptr) (slots : List (Slot V)) (i : ℕ) (x : Slot V) → AllLines held slots → IsVersionLine held (line_of x) → AllLines held (slots_with slots i x)
  lines_placed held [] i x all one = (one, tt)
  lines_placed held (y ∷ slots) zero x all one = (one, all.1)
  lines_placed held (y ∷ slots) (suc i) x all one = (all.0, lines_placed held slots i x all.1 one)

  total_placed : (slots : List (Slot V)) (i : ℕ) → slot_at slots i ≡ None → total (slots_with slots i (Some None)) ≡ total slots
  total_placed [] i vacant = refl
  total_placed (y ∷ slots) zero vacant = let none = ap (λ z. cells_of (line_versions (line_of z))) vacant in omega (arith, none)
  total_placed (y ∷ slots) (suc i) vacant = let e = total_placed slots i vacant in omega (arith, e)

  -- a line without cells is opened
  pub line_opened : (slots now : List (Slot V)) (i : ℕ) → slot_at slots i ≡ None → now ≡ slots_with slots i (Some None) → (held : List Ptr) (m : ℕ) → IsChains held m slots → IsChains held m now
  line_opened slots now i vacant made held m is =
      subst (IsChains held m) (sym made) (record { lines = lines_placed held slots i (Some None) is.lines (tt, tt); counted = is.counted ∙ sym (total_placed slots i vacant) })

  pub same_lines : (slots now : List (Slot V)) → now ≡ slots → (held : List Ptr) (m : ℕ) → IsChains held m slots → IsChains held m now
  same_lines slots now e held m is = subst (IsChains held m) (sym e) is

  seen_placed : (slots : List (Slot V)) (i : ℕ) (x : Slot V) → lists_seen (slots_with slots i x) ≡ slots_with (lists_seen slots) i (seen_slot x)
  seen_placed [] i x = refl
  seen_placed (y ∷ slots) zero x = refl
  seen_placed (y ∷ slots) (suc i) x = ap (λ ys. seen_slot y ∷ ys) (seen_placed slots i x)

  pub Updates-opened : (slots now : List (Slot V)) (id : ℕ) → id ≤ length slots → now ≡ slots_with slots id (Some None)
      → (s : ChainsState V) (spare new_spare : ℕ) → record { chains = lists_seen slots; spare = spare } ≡ s
      → Updates s (record { chains = lists_seen now; spare = new_spare }) id (Some [])
  Updates-opened slots now id within made s spare new_spare e =
      let inside : id ≤ length (lists_seen slots) = omega (arith, length-map slots seen_slot, within) in
      let chains : lists_seen now ≡ slots_with (lists_seen slots) id (Some []) = ap lists_seen made ∙ seen_placed slots id (Some None) in
      subst (λ z. Updates z (record { chains = lists_seen now; spare = new_spare }) id (Some [])) e (record {
        changed = ap (λ cs. slot_at cs id) chains ∙ placed_same (lists_seen slots) id (Some []) inside;
        others = λ other ne. ap (λ cs. slot_at cs other) chains ∙ placed_other (lists_seen slots) id other (Some []) inside ne;
      })

  total_last : (slots : List (Slot V)) (x : Slot V) → total (slots ++ x ∷ []) ≡ total slots + cells_of (line_versions (line_of x))
  total_last [] x = omega arith
  total_last (y ∷ slots) x = let e = total_last slots x in omega (arith, e)

  lines_last : (held : List Ptr) (slots : List (Slot V)) (x : Slot V) → AllLines held (slots ++ x ∷ []) → AllLines held slots × IsVersionLine held (line_of x)
  lines_last held [] x all = (tt, all.0)
  lines_last held (y ∷ slots) x all = let r = lines_last held slots x all.1 in ((all.0, r.0), r.1)

  -- the last line is sound
  pub last_line : (held : List Ptr) (m : ℕ) (slots rest : List (Slot V)) (x : Slot V) → slots ≡ rest ++ x ∷ [] → IsChains held m slots → IsVersionLine held (line_of x)
  last_line held m slots rest x e is = (lines_last held rest x (subst (AllLines held) e is.lines)).1

  -- the lines without the last, once its cells were given back
  pub without_last : (held more : List Ptr) (m n k : ℕ) (slots rest : List (Slot V)) (x : Slot V) → slots ≡ rest ++ x ∷ [] → IsChains held m slots → more ≡ held → k ≡ cells_of (line_versions (line_of x)) → n + k ≡ m → IsChains more n rest
  without_last held more m n k slots rest x e is same count less =
      let t = ap total e ∙ total_last rest x in
      record {
        lines = subst (λ ps. AllLines ps rest) (sym same) (lines_last held rest x (subst (AllLines held) e is.lines)).0;
        counted = omega (arith, is.counted, t, count, less);
      }

  count_seen : (slots : List (Slot V)) → count_by is_some (lists_seen slots) ≡ count_by is_some slots
  count_seen [] = refl
  count_seen (None ∷ slots) = let e = count_seen slots in omega (arith, e, sum_by-cons (λ o. cond (is_some o) 1 0) None (lists_seen slots), sum_by-cons (λ o. cond (is_some o) 1 0) None slots)
  count_seen (Some line ∷ slots) = let e = count_seen slots in omega (arith, e, sum_by-cons (λ o. cond (is_some o) 1 0) (Some (line_versions line)) (lists_seen slots), sum_by-cons (λ o. cond (is_some o) 1 0) (Some line) slots)

  -- where each number is held each id is open
  pub full_seen : (slots : List (Slot V)) (s : ChainsState V) (spare : ℕ) → record { chains = lists_seen slots; spare = spare } ≡ s
      → count_by is_some slots ≡ length slots → open_count s ≡ number_count s
  full_seen slots s spare e full =
      let n = length-map slots seen_slot in let m = ap (λ (z : ChainsState V). length z.chains) e in
      let k = ap (λ (z : ChainsState V). count_by is_some z.chains) e in let j = count_seen slots in
      omega (arith, n, m, k, j, full)

  -- a number that is new where only that of closed chains is left
  pub open_seen : (slots : List (Slot V)) (i : ℕ) (s : ChainsState V) (spare : ℕ) → record { chains = lists_seen slots; spare = spare } ≡ s
      → i ≤ length slots → (i ≡ length slots → count_by is_some slots ≡ length slots) → open_count s < number_count s → i < number_count s
  open_seen slots i s spare e within full vacant =
      let n = length-map slots seen_slot in let m = ap (λ (z : ChainsState V). length z.chains) e in
      let k = ap (λ (z : ChainsState V). count_by is_some z.chains) e in let j = count_seen slots in
      elim (cases_eq i (length slots)) [
        | inl at ↦ let all = full at in absurd (omega arith)
        | inr off ↦ omega arith
      ]
