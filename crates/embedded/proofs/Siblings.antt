-- The children that were gathered, and one more.
use Rattle.std.proofs.Common.{◌≡◌, ◌⊎◌, inl, inr, ℕ, ◌+◌, ◌<◌, ◌≤◌, true, false, List, [], ◌∷◌, ◌++◌, length, take, refl, sym, ap, subst, ◌∙◌, arith, append_assoc, append-nil, length-append}
use Rattle.std.proofs.lemmas.List.{take_all, take-append-le}
use Rattle.std.proofs.lemmas.List.Concat.{flat_map-append}
use Rattle.std.specs.Int.{w64, to_le_bytes}
use Rattle.std.specs.Option.{MatchOption}
use Rattle.std.specs.Prelude.{Option, None, Some, Result, Ok, Err, OnOk, IfOk}
use Rattle.collation.specs.Answers.{data_of, order_of}
use Rattle.collation.specs.Database.{Database}
use Rattle.collation.specs.Levels.{below, parent_of, without_last}
use Rattle.collation.specs.Reference.{Reference, Spot}
use Rattle.embedded.specs.Children.{child_place, child_record, child_records, place_after, value_at, AreNext, IsFull, IsGathered}
use Rattle.embedded.specs.Followed.{IsFollowed, IsUnderWay}

-- ---- options

-- what holds of what is there
pub of_some : {X : Type 0} (A : Type 0) (B : X → Type 0) (o : Option X) (x : X) → o ≡ Some x → MatchOption o A B → B x
of_some A B o x is h = subst (λ o. MatchOption o A B) is h

-- what holds where nothing is
pub of_none : {X : Type 0} (A : Type 0) (B : X → Type 0) (o : Option X) → o ≡ None → MatchOption o A B → A
of_none A B o is h = subst (λ o. MatchOption o A B) is h

-- ---- a record

-- the five parts of a record, one after the other
pub parts_made : (old a b d s v t1 t2 t3 t4 t5 a' b' d' : List ℕ) → a ≡ a' → b ≡ b' → d ≡ d' → t1 ≡ old ++ a → t2 ≡ t1 ++ b → t3 ≡ t2 ++ d → t4 ≡ t3 ++ s → t5 ≡ t4 ++ v → t5 ≡ old ++ (a' ++ (b' ++ (d' ++ (s ++ v))))
parts_made old a b d s v t1 t2 t3 t4 t5 a' b' d' ea eb ed e1 e2 e3 e4 e5 =
    e5 ∙ ap (λ t. t ++ v) (e4 ∙ ap (λ t. t ++ s) (e3 ∙ ap (λ t. t ++ d) (e2 ∙ ap (λ t. t ++ b) e1)))
    ∙ append_assoc (((old ++ a) ++ b) ++ d) s v ∙ append_assoc ((old ++ a) ++ b) d (s ++ v) ∙ append_assoc (old ++ a) b (d ++ (s ++ v)) ∙ append_assoc old a (b ++ (d ++ (s ++ v)))
    ∙ ap (λ t. old ++ (t ++ (b ++ (d ++ (s ++ v))))) ea ∙ ap (λ t. old ++ (a' ++ (t ++ (d ++ (s ++ v))))) eb ∙ ap (λ t. old ++ (a' ++ (b' ++ (t ++ (s ++ v))))) ed

-- the record of a child, by its key
pub child_made : {T E : Type 0} (res : Result T E) (r key : Reference) (m : Database) (s s' v old new : List ℕ) (n : ℕ) → s' ≡ s → v ≡ value_at key m → n ≡ data_of key m → key ≡ below r s
    → OnOk res (new ≡ old ++ (to_le_bytes w64 (length s') ++ (to_le_bytes w64 (length v) ++ (to_le_bytes w64 n ++ (s' ++ v))))) → OnOk res (new ≡ old ++ child_record r m s)
unfolding child_record
child_made (Ok x) r key m s s' v old new n es ev en ek is =
    is
    ∙ ap (λ t. old ++ (to_le_bytes w64 (length t) ++ (to_le_bytes w64 (length v) ++ (to_le_bytes w64 n ++ (t ++ v))))) es
    ∙ ap (λ t. old ++ (to_le_bytes w64 (length s) ++ (to_le_bytes w64 (length t) ++ (to_le_bytes w64 n ++ (s ++ t))))) (ev ∙ ap (λ k. value_at k m) ek)
    ∙ ap (λ k. old ++ (to_le_bytes w64 (length s) ++ (to_le_bytes w64 (length (value_at (below r s) m)) ++ (to_le_bytes w64 k ++ (s ++ value_at (below r s) m))))) (en ∙ ap (λ k. data_of k m) ek)
child_made (Err e) r key m s s' v old new n es ev en ek is = tt

-- the next has no room, and is taken out again
pub full_cut : (r : Reference) (p : Spot) (m : Database) (room before : ℕ) (s old more same : List ℕ) → s ≡ order_of true p m → more ≡ old ++ child_record r m s → room < length more → before ≡ length old → same ≡ take before more
    → IsFull r p m room (length old) × (same ≡ old)
full_cut r p m room before s old more same is written over count cut =
    let size : length more ≡ length old + length (child_record r m (order_of true p m)) = ap length written ∙ length-append old (child_record r m s) ∙ ap (λ t. length old + length (child_record r m t)) is in (
      inr (omega (arith, size, over)),
      cut ∙ ap (take before) written ∙ take-append-le before old (child_record r m s) (omega (arith, count)) ∙ take_all before old (omega (arith, count)),
    )

-- the next has room
pub followed : (r : Reference) (p next : Spot) (m : Database) (room : ℕ) (s old new : List ℕ) → s ≡ order_of true p m → 0 < length s → next ≡ child_place r s → new ≡ old ++ child_record r m s → length new ≤ room → IsFollowed r p m room next old new
followed r p next m room s old new is some at written low =
    record {
      some = subst (λ t. 0 < length t) is some;
      place = at ∙ ap (child_place r) is;
      written = written ∙ ap (λ t. old ++ child_record r m t) is;
      low = low;
    }

-- ---- one after the other

last_added : (ss : List (List ℕ)) (s : List ℕ) → without_last (ss ++ s ∷ []) ≡ ss
last_added [] s = refl
last_added (x ∷ []) s = refl
last_added (x ∷ y ∷ ss) s = ap (λ t. x ∷ t) (last_added (y ∷ ss) s)

-- a child is one level below
pub child_level : (r : Reference) (s : List ℕ) → parent_of (child_place r s) ≡ r
child_level r s = λ i. record { name = r.name; subscripts = last_added r.subscripts s i }

after_more : (r : Reference) (p : Spot) (ss : List (List ℕ)) (s : List ℕ) → place_after r p (ss ++ s ∷ []) ≡ child_place r s
after_more r p [] s = refl
after_more r p (x ∷ ss) s = after_more r (child_place r x) ss s

next_more : (r : Reference) (p : Spot) (m : Database) (ss : List (List ℕ)) (s : List ℕ) → AreNext r p m ss → s ≡ order_of true (place_after r p ss) m → 0 < length s → AreNext r p m (ss ++ s ∷ [])
next_more r p m [] s h is some = ((is, some), tt)
next_more r p m (x ∷ ss) s h is some = (h.0, next_more r (child_place r x) m ss s h.1 is some)

pub one_more : (r : Reference) (p place next : Spot) (m : Database) (room : ℕ) (old new : List ℕ) → IsUnderWay r p m place old → IsFollowed r place m room next old new → IsUnderWay r p m next new
one_more r p place next m room old new h f =
    let s = order_of true place m in
    record {
      children = h.children ++ s ∷ [];
      next = next_more r p m h.children s h.next (ap (λ q. order_of true q m) h.at) f.some;
      some = subst (λ n. 0 < n) (sym (length-append h.children (s ∷ []))) (omega arith);
      at = f.place ∙ sym (after_more r p h.children s);
      records = f.written ∙ ap (λ t. t ++ child_record r m s) h.records ∙ ap (λ t. child_records r m h.children ++ t) (sym (append-nil (child_record r m s))) ∙ sym (flat_map-append (child_record r m) h.children (s ∷ []));
    }

-- the first alone
pub one_alone : (r : Reference) (p place : Spot) (m : Database) (s text : List ℕ) → s ≡ order_of true p m → 0 < length s → place ≡ child_place r s → text ≡ child_record r m s → IsUnderWay r p m place text
one_alone r p place m s text is some at written =
    record {
      children = s ∷ [];
      next = ((is, some), tt);
      some = omega arith;
      at = at;
      records = written ∙ sym (append-nil (child_record r m s));
    }

-- no more has room
pub all_gathered : (r : Reference) (p place : Spot) (m : Database) (room : ℕ) (text : List ℕ) → IsUnderWay r p m place text → IsFull r place m room (length text) → length text ≤ room → IsGathered r p m room text
all_gathered r p place m room text h full low =
    record {
      children = h.children;
      next = h.next;
      some = h.some;
      low = inr low;
      full = subst (λ q. IsFull r q m room (length text)) h.at full;
      records = h.records;
    }

-- no more has room, or none is left
pub none_more : (r : Reference) (p place : Spot) (m : Database) (room : ℕ) (old new : List ℕ) → IsUnderWay r p m place old → IsFull r place m room (length old) × (new ≡ old) → length old ≤ room → IsGathered r p m room new
none_more r p place m room old new h f low = subst (λ t. IsGathered r p m room t) (sym f.1) (all_gathered r p place m room old h f.0 low)

behind_nothing : (old new text : List ℕ) → new ≡ old ++ text → old ≡ [] → new ≡ text
behind_nothing old new text is none = is ∙ ap (λ t. t ++ text) none

-- the first alone has none
pub one_gathered : (r level : Reference) (p : Spot) (m : Database) (room : ℕ) (s start text : List ℕ) → level ≡ r → s ≡ order_of true p m → 0 < length s → text ≡ start ++ child_record level m s → start ≡ [] → room < length text → IsGathered r p m room text
one_gathered r level p m room s start text same is some written none over =
    record {
      children = s ∷ [];
      next = ((is, some), tt);
      some = omega arith;
      low = inl refl;
      full = inr (omega (arith, over));
      records = behind_nothing start text (child_record level m s) written none ∙ ap (λ l. child_record l m s) same ∙ sym (append-nil (child_record r m s));
    }

-- where the first child stands
pub first_level : (level key : Reference) (place : Spot) (s : List ℕ) → place ≡ record { reference = key; is_open = false } → key ≡ below level s → parent_of place ≡ level
first_level level key place s at is = ap parent_of (at ∙ ap (λ k. record { reference = k; is_open = false }) is) ∙ child_level level s

-- the first, and those that were gathered behind it
pub all_after : (r level key : Reference) (p place : Spot) (m : Database) (room : ℕ) (s start first text : List ℕ) → level ≡ r → s ≡ order_of true p m → 0 < length s → key ≡ below level s → place ≡ record { reference = key; is_open = false } → first ≡ start ++ child_record level m s → start ≡ []
    → (IsUnderWay level p m place first → IsGathered level p m room text) → IsGathered r p m room text
all_after r level key p place m room s start first text same is some below_is at written none more =
    subst (λ l. IsGathered l p m room text) same (more (one_alone level p place m s first is some (at ∙ ap (λ k. record { reference = k; is_open = false }) below_is) (behind_nothing start first (child_record level m s) written none)))

some_record : (r : Reference) (m : Database) (s : List ℕ) → 0 < length (child_record r m s)
unfolding child_record
some_record r m s = omega arith

-- each record is longer than nothing
pub grows : (r : Reference) (p next : Spot) (m : Database) (room : ℕ) (old new : List ℕ) → IsFollowed r p m room next old new → length old < length new
grows r p next m room old new f =
    let size : length new ≡ length old + length (child_record r m (order_of true p m)) = ap length f.written ∙ length-append old (child_record r m (order_of true p m)) in
    omega (arith, size, some_record r m (order_of true p m))
