-- Laws of a change under one id, for callers that keep ids. Read open_count_updated, chains_stay, versions_left and between.
use Rattle.std.proofs.Common.{◌≡◌, ◌≢◌, ℕ, zero, suc, ◌+◌, ◌<◌, List, [], ◌∷◌, length, set, map, Option, Some, None, IsSome, is_some, count_by, cond, refl, sym, ap, ◌∙◌, arith, Contains}
use Rattle.std.proofs.lemmas.List.{get_or-set_same, get_or-set_other}
use Rattle.std.proofs.lemmas.List.Sums.{sum_by-cons}
use Rattle.version_chain.specs.Slots.{slot_at}
use Rattle.version_chain.specs.Versions.{Entry}
use Rattle.version_chain.specs.Chains.{ChainsState, chain_at, versions_at, listed, IsOpen, Updates, open_count}

first_apart : (i : ℕ) → zero ≢ suc i
first_apart i e = absurd (omega (arith, e))

module _ {A : Type 0} where
  -- one for a slot that is held
  abbrev pub slot_count : Option A → ℕ
  slot_count slot = cond (is_some slot) 1 0

  count_cons : (x : Option A) (xs : List (Option A)) → count_by is_some (x ∷ xs) ≡ slot_count x + count_by is_some xs
  count_cons x xs = sum_by-cons slot_count x xs

  same_count : (xs ys : List (Option A)) → ((j : ℕ) → slot_at ys j ≡ slot_at xs j) → count_by is_some ys ≡ count_by is_some xs
  same_count [] [] same = refl
  same_count [] (y ∷ ys) same = let head = ap slot_count (same 0) in let rest = same_count [] ys (λ j. same (suc j)) in omega (arith, count_cons y ys, head, rest)
  same_count (x ∷ xs) [] same = let head = ap slot_count (same 0) in let rest = same_count xs [] (λ j. same (suc j)) in omega (arith, count_cons x xs, head, rest)
  same_count (x ∷ xs) (y ∷ ys) same = let head = ap slot_count (same 0) in let rest = same_count xs ys (λ j. same (suc j)) in omega (arith, count_cons x xs, count_cons y ys, head, rest)

  -- slots that are the same but at one number
  count_but_one : (xs ys : List (Option A)) (i : ℕ) → ((j : ℕ) → j ≢ i → slot_at ys j ≡ slot_at xs j)
      → count_by is_some ys + slot_count (slot_at xs i) ≡ count_by is_some xs + slot_count (slot_at ys i)
  count_but_one [] [] i same = refl
  count_but_one [] (y ∷ ys) zero same = let rest = same_count [] ys (λ j. same (suc j) (λ e. omega (arith, e))) in omega (arith, count_cons y ys, rest)
  count_but_one [] (y ∷ ys) (suc i) same =
      let head = ap slot_count (same 0 (first_apart i)) in
      let rest = count_but_one [] ys i (λ j off. same (suc j) (λ e. off (omega (arith, e)))) in
      omega (arith, count_cons y ys, head, rest)
  count_but_one (x ∷ xs) [] zero same = let rest = same_count xs [] (λ j. same (suc j) (λ e. omega (arith, e))) in omega (arith, count_cons x xs, rest)
  count_but_one (x ∷ xs) [] (suc i) same =
      let head = ap slot_count (same 0 (first_apart i)) in
      let rest = count_but_one xs [] i (λ j off. same (suc j) (λ e. off (omega (arith, e)))) in
      omega (arith, count_cons x xs, head, rest)
  count_but_one (x ∷ xs) (y ∷ ys) zero same = let rest = same_count xs ys (λ j. same (suc j) (λ e. omega (arith, e))) in omega (arith, count_cons x xs, count_cons y ys, rest)
  count_but_one (x ∷ xs) (y ∷ ys) (suc i) same =
      let head = ap slot_count (same 0 (first_apart i)) in
      let rest = count_but_one xs ys i (λ j off. same (suc j) (λ e. off (omega (arith, e)))) in
      omega (arith, count_cons x xs, count_cons y ys, head, rest)

module _ {V : Type 0} where
  -- ids that the changed one is not among keep their chains
  pub chains_stay : (old new : ChainsState V) (id : ℕ) (chain : Option (List (Entry V))) (ids : List ℕ) → Updates old new id chain → (Contains ids id → ⊥)
      → map (chain_at new) ids ≡ map (chain_at old) ids
  chains_stay old new id chain [] updates off = refl
  chains_stay old new id chain (i ∷ ids) updates off =
      let here = updates.others i (λ same. off (0, omega arith, same)) in
      let rest = chains_stay old new id chain ids updates (λ at. off (suc at.0, omega (arith, at.1), at.2)) in
      ap (λ c. c ∷ map (chain_at new) ids) here ∙ ap (λ cs. chain_at old i ∷ cs) rest

  -- what a change left under its id
  pub versions_left : (old new : ChainsState V) (id : ℕ) (vs : List (Entry V)) → Updates old new id (Some vs) → versions_at new id ≡ vs
  versions_left old new id vs updates = ap listed updates.changed

  -- how many ids are open, once one has another chain
  pub open_count_updated : (old new : ChainsState V) (id : ℕ) (chain : Option (List (Entry V))) → Updates old new id chain
      → open_count new + slot_count (chain_at old id) ≡ open_count old + slot_count chain
  open_count_updated old new id chain updates =
      count_but_one old.chains new.chains id updates.others ∙ ap (λ c. open_count old + slot_count c) updates.changed

  open_inside : (chains : List (Option (List (Entry V)))) (id : ℕ) → IsSome (slot_at chains id) → id < length chains
  open_inside [] id found = absurd cc
  open_inside (x ∷ chains) zero found = omega arith
  open_inside (x ∷ chains) (suc id) found = let within = open_inside chains id found in omega (arith, within)

  -- chains between two changes under one id
  pub record Between (old new : ChainsState V) (id : ℕ) (first second : List (Entry V)) : Type 0 where
    pub middle : ChainsState V
    pub before : Updates old middle id (Some first)
    pub behind : Updates middle new id (Some second)

  -- a change under an open id is two of them
  pub between : (old new : ChainsState V) (id : ℕ) (first second : List (Entry V)) → IsOpen old id → Updates old new id (Some second) → Between old new id first second
  between old new id first second is updates =
      let within : id < length old.chains = open_inside old.chains id is in
      let middle : ChainsState V = record { chains = set old.chains id (Some first); spare = old.spare } in
      record {
        middle = middle;
        before = record { changed = get_or-set_same old.chains id (Some first) None within; others = λ other ne. get_or-set_other old.chains id other (Some first) None ne };
        behind = record { changed = updates.changed; others = λ other ne. updates.others other ne ∙ sym (get_or-set_other old.chains id other (Some first) None ne) };
      }
