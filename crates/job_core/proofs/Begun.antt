-- The start stamps of open transactions: what a start, another start and an end leave true, and the least.
use Rattle.std.proofs.Common.{◌≡◌, ◌≢◌, ◌≤◌, ℕ, zero, suc, List, [], ◌∷◌, ◌++◌, refl, sym, ap, subst, ◌∙◌, inl, inr, arith, Contains, length}
use Rattle.std.specs.Prelude.{Option, None, Some, MatchOption, slice_index_or}
use Rattle.std.proofs.lemmas.Bool.{cases_lt, cases_eq}
use Rattle.slab.specs.Slab.{get}
use Rattle.job_core.specs.Starts.{Starts, AreStarts, IsLeastIn, IsBare, IsSameButRoom, HasBegun, HasChanged, place_of, lesser_of}

-- one place more
pub place_more : (places : List ℕ) (job : ℕ) → slice_index_or (places ++ 0 ∷ []) job 0 ≡ slice_index_or places job 0
place_more [] zero = refl
place_more [] (suc job) = refl
place_more (p ∷ places) zero = refl
place_more (p ∷ places) (suc job) = place_more places job

-- ---- the least

abbrev pub IsAtMost : Option ℕ → ℕ → Type 0
IsAtMost None stamp = ⊥
IsAtMost (Some m) stamp = m ≤ stamp

pub none_left : (left : List (ℕ × ℕ)) (e : ℕ × ℕ) → left ≡ [] → Contains left e → ⊥
none_left left e none there = let within = there.1 in omega (arith, ap length none, within)

pub lesser_own : (o : Option ℕ) (n : ℕ) → lesser_of o n ≤ n
lesser_own None n = omega arith
lesser_own (Some m) n = omega arith

pub lesser_others : (o : Option ℕ) (n other : ℕ) → IsAtMost o other → lesser_of o n ≤ other
lesser_others None n other most = absurd (most)
lesser_others (Some m) n other most = omega (arith, most)

-- the lesser is one of those that the stamps are
pub lesser_there : (at : ℕ → Option ℕ) (o : Option ℕ) (n place k stamp : ℕ) → k ≡ lesser_of o n → ((m : ℕ) → o ≡ Some m → (p : ℕ) × (at p ≡ Some m)) → at place ≡ Some n → Some k ≡ Some stamp → (p : ℕ) × (at p ≡ Some stamp)
lesser_there at None n place k stamp least before here is = let same : n ≡ stamp = cc in (place, here ∙ ap Some same)
lesser_there at (Some m) n place k stamp least before here is =
    let same : k ≡ stamp = cc in
    elim (cases_lt m n) [
      | inl less ↦ let was : m ≡ stamp = omega (arith, least, same, less) in let b = before m refl in (b.0, b.1 ∙ ap Some was)
      | inr more ↦ let own : n ≡ stamp = omega (arith, least, same, more) in (place, here ∙ ap Some own)
    ]

-- what was found by looking at all
pub least_found : (s : Starts) (o : Option ℕ) → ((place stamp : ℕ) → get s.stamps place ≡ Some stamp → IsAtMost o stamp) → ((stamp : ℕ) → o ≡ Some stamp → (place : ℕ) × (get s.stamps place ≡ Some stamp)) → MatchOption o (IsBare s) (λ stamp. IsLeastIn stamp s)
least_found s None most there = λ place. by_found place (get s.stamps place) refl
  where
    by_found : (place : ℕ) (o : Option ℕ) → get s.stamps place ≡ o → get s.stamps place ≡ None
    by_found place None is = is
    by_found place (Some stamp) is = absurd (most place stamp is)
least_found s (Some k) most there = let t = there k refl in record { from = most; place = t.0; there = t.1 }

-- ---- a start, another start, an end

module _ (old new : Starts) (job : ℕ) (begun later : ℕ → Option ℕ) (are : AreStarts old begun) (others : (other : ℕ) → other ≢ job → later other ≡ begun other) where
  pub are_more : (stamp : ℕ) → begun job ≡ None → later job ≡ Some stamp → HasBegun job stamp old new → AreStarts new later
  are_more stamp none some has = record { there = there; owned = owned; alone = alone }
    where
      -- another job's place isn't the new one
      apart : (other start : ℕ) → other ≢ job → later other ≡ Some start → place_of new other ≢ place_of new job
      apart other start differs is same =
          let was : get old.stamps (place_of old other) ≡ Some start = are.there other start (sym (others other differs) ∙ is) in
          let free : get old.stamps (place_of old other) ≡ None = ap (get old.stamps) (sym (has.others other differs) ∙ same) ∙ has.free in
          let never = sym was ∙ free in absurd (cc)

      there : (other start : ℕ) → later other ≡ Some start → get new.stamps (place_of new other) ≡ Some start
      there other start is = elim (cases_eq other job) [
        | inl same ↦ subst (λ k. get new.stamps (place_of new k) ≡ Some start) (sym same) (has.put.changed ∙ sym some ∙ ap later (sym same) ∙ is)
        | inr differs ↦ has.put.others (place_of new other) (apart other start differs is) ∙ ap (get old.stamps) (has.others other differs) ∙ are.there other start (sym (others other differs) ∙ is)
      ]

      owned : (place start : ℕ) → get new.stamps place ≡ Some start → (other : ℕ) × (later other ≡ Some start) × (place_of new other ≡ place)
      owned place start is = elim (cases_eq place (place_of new job)) [
        | inl same ↦ (job, some ∙ sym has.put.changed ∙ ap (get new.stamps) (sym same) ∙ is, sym same)
        | inr differs ↦
            let o = are.owned place start (sym (has.put.others place differs) ∙ is) in
            let beside : o.0 ≢ job = λ same. (let never = sym none ∙ ap begun (sym same) ∙ o.1 in absurd (cc)) in
            (o.0, others o.0 beside ∙ o.1, has.others o.0 beside ∙ o.2)
      ]

      alone : (one other start next : ℕ) → later one ≡ Some start → later other ≡ Some next → place_of new one ≡ place_of new other → one ≡ other
      alone one other start next is also same = elim (cases_eq one job) [
        | inl first ↦ elim (cases_eq other job) [
          | inl second ↦ first ∙ sym second
          | inr differs ↦ absurd (apart other next differs also (sym same ∙ ap (place_of new) first))
        ]
        | inr differs ↦ elim (cases_eq other job) [
          | inl second ↦ absurd (apart one start differs is (same ∙ ap (place_of new) second))
          | inr apart_too ↦ are.alone one other start next (sym (others one differs) ∙ is) (sym (others other apart_too) ∙ also) (sym (has.others one differs) ∙ same ∙ has.others other apart_too)
        ]
      ]

  -- what is at the place of an open transaction's job is changed or gone, and so is its start
  pub are_changed : (stamp : Option ℕ) (before : ℕ) → begun job ≡ Some before → later job ≡ stamp → HasChanged job stamp old new → AreStarts new later
  are_changed stamp before was now has = record { there = there; owned = owned; alone = alone }
    where
      places : (other : ℕ) → place_of new other ≡ place_of old other
      places other = ap (λ xs. slice_index_or xs other 0) has.places

      -- another job's place isn't this one
      apart : (other start : ℕ) → other ≢ job → later other ≡ Some start → place_of old other ≢ place_of old job
      apart other start differs is same = differs (are.alone other job start before (sym (others other differs) ∙ is) was same)

      there : (other start : ℕ) → later other ≡ Some start → get new.stamps (place_of new other) ≡ Some start
      there other start is = ap (get new.stamps) (places other) ∙ elim (cases_eq other job) [
        | inl same ↦ subst (λ k. get new.stamps (place_of old k) ≡ Some start) (sym same) (has.put.changed ∙ sym now ∙ ap later (sym same) ∙ is)
        | inr differs ↦ has.put.others (place_of old other) (apart other start differs is) ∙ are.there other start (sym (others other differs) ∙ is)
      ]

      owned : (place start : ℕ) → get new.stamps place ≡ Some start → (other : ℕ) × (later other ≡ Some start) × (place_of new other ≡ place)
      owned place start is = elim (cases_eq place (place_of old job)) [
        | inl same ↦ (job, now ∙ sym has.put.changed ∙ ap (get new.stamps) (sym same) ∙ is, places job ∙ sym same)
        | inr differs ↦
            let o = are.owned place start (sym (has.put.others place differs) ∙ is) in
            let beside : o.0 ≢ job = λ same. differs (sym o.2 ∙ ap (place_of old) same) in
            (o.0, others o.0 beside ∙ o.1, places o.0 ∙ o.2)
      ]

      alone : (one other start next : ℕ) → later one ≡ Some start → later other ≡ Some next → place_of new one ≡ place_of new other → one ≡ other
      alone one other start next is also same =
          let as_before : place_of old one ≡ place_of old other = sym (places one) ∙ same ∙ places other in
          elim (cases_eq one job) [
            | inl first ↦ elim (cases_eq other job) [
              | inl second ↦ first ∙ sym second
              | inr differs ↦ absurd (apart other next differs also (sym as_before ∙ ap (place_of old) first))
            ]
            | inr differs ↦ elim (cases_eq other job) [
              | inl second ↦ absurd (apart one start differs is (as_before ∙ ap (place_of old) second))
              | inr apart_too ↦ are.alone one other start next (sym (others one differs) ∙ is) (sym (others other apart_too) ∙ also) as_before
            ]
          ]

-- the same starts, with room
pub are_same : (old new : Starts) (begun later : ℕ → Option ℕ) → AreStarts old begun → IsSameButRoom old new → ((job : ℕ) → later job ≡ begun job) → AreStarts new later
are_same old new begun later are same as_before = record {
  there = λ job stamp is. ap (get new.stamps) (same.places job) ∙ same.stamps (place_of old job) ∙ are.there job stamp (sym (as_before job) ∙ is);
  owned = λ place stamp is. (let o = are.owned place stamp (sym (same.stamps place) ∙ is) in (o.0, as_before o.0 ∙ o.1, same.places o.0 ∙ o.2));
  alone = λ job other start next is also tie. are.alone job other start next (sym (as_before job) ∙ is) (sym (as_before other) ∙ also) (sym (same.places job) ∙ tie ∙ same.places other);
}

-- none is open
pub are_none : (s : Starts) (begun : ℕ → Option ℕ) → IsBare s → ((job : ℕ) → begun job ≡ None) → AreStarts s begun
are_none s begun bare none = record {
  there = λ job stamp is. (let never = sym (none job) ∙ is in absurd (cc));
  owned = λ place stamp is. (let never = sym (bare place) ∙ is in absurd (cc));
  alone = λ job other start next is also tie. (let never = sym (none job) ∙ is in absurd (cc));
}
