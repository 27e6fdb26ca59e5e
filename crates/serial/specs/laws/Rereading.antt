-- A transaction's answers hold on each database that agrees with the one at its start on all that it has read.
use Rattle.std.proofs.Common.{◌≡◌, ℕ, Bool, true, false, List, [], ◌∷◌, refl, sym, ap, subst, ◌∙◌, inl, inr}
use Rattle.std.specs.Prelude.{◌&&◌, ◌||◌, not, cond, Option, Some, None, is_some, length, nat_lt, unwrap_or}
use Rattle.std.specs.Option.{option_or, option_map}
use Rattle.std.proofs.lemmas.Bool.{and_from, or_left, or_right}
use Rattle.std.specs.FinMap as finmap
use Rattle.refusal.specs.declared.Refusal.TheVariants.{TooManySubscripts, MergeOverlap, SumTooLong}
use Rattle.collation.specs.Limits.{most_value_bytes}
use Rattle.collation.specs.Names.{bare, is_name_beyond}
use Rattle.collation.specs.declared.direction.Direction.{Direction}
use Rattle.command.specs.declared.access.DataCommand.{DataCommand}
use Rattle.command.specs.declared.access.DataCommand.TheVariants.{Set, Kill, Merge, Increment, Look}
use Rattle.command.specs.declared.access.Look.{Look as LookCommand}
use Rattle.command.specs.declared.access.Look.TheVariants.{Data, Get, Order, Query, Name}
use Rattle.command.specs.declared.access.Answer.{Answer}
use Rattle.command.specs.declared.access.Answer.TheVariants.{Value, Number}
use Rattle.collation.specs.Reference.{Reference, Spot}
use Rattle.collation.specs.Order.{ref_eq}
use Rattle.collation.specs.laws.Order.{ref_eq_decides}
use Rattle.collation.specs.laws.Entries.{either}
use Rattle.collation.specs.Database.{Database, is_under}
use Rattle.globals.specs.Entries.{nearest_entry}
use Rattle.collation.specs.Answers.{follows, moved, is_forward}
use Rattle.collation.specs.Levels.{overlap}
use Rattle.decimal_sum.specs.Sums.{sum_of}
use Rattle.command.specs.Data.{data_after, found_reply, look_reply, sum_at, takes}
use Rattle.globals.specs.laws.Changing.{get_set, increment_one, kill_taken, merge_subtree, under_moved}
use Rattle.journal.specs.declared.unit.Exchange.{Exchange}
use Rattle.journal.specs.History.{IsRight, AreRight}
use Rattle.journal.specs.Touching.{sets, kills, look_read, read_set, own_after, is_read}
use Rattle.serial.specs.Agreeing.{Agree}
use Rattle.globals.specs.laws.Nearness.{query_is}
use Rattle.globals.specs.laws.Names.{name_is}
use Rattle.serial.specs.laws.Alike.{same_data, same_depth, same_name, same_order, same_query, not_farther, not_past_name}

-- ---- one reference

-- what $GET and $INCREMENT read, or what the transaction wrote itself
got : (r : Reference) (own : Reference → Bool) (m n : Database) → ((y : Reference) → (ref_eq y r && not (own r)) ≡ true → Agree m n y) → ((y : Reference) → own y ≡ true → Agree m n y) → Agree m n r
got r own m n reading owned = by_own (own r) refl
  where
    by_own : (b : Bool) → own r ≡ b → Agree m n r
    by_own true is = owned r is
    by_own false is = reading r (and_from _ _ ((ref_eq_decides r r).1 refl) (ap not is))

-- ---- what a command leaves

-- where two databases agree at a reference, its sum is the same
same_sum : (r : Reference) (k : List ℕ) (m n : Database) → Agree m n r → sum_at r k m ≡ sum_at r k n
same_sum r k m n a = ap (λ (o : Option (List ℕ)). sum_of (unwrap_or o []) k) a

-- where two databases agree on what a command reads, they agree after it wherever they did before
pub agree_after : (c : DataCommand) (answer : Answer) (own : Reference → Bool) (m n : Database) → ((y : Reference) → read_set c answer own y ≡ true → Agree m n y) → (x : Reference) → Agree m n x → Agree (data_after c m) (data_after c n) x
agree_after (Set r v) answer own m n reading x a = get_set m r v x ∙ ap (cond (ref_eq x r) (Some v)) a ∙ sym (get_set n r v x)
agree_after (Kill r extent) answer own m n reading x a = kill_taken m r extent x ∙ ap (cond (takes extent r x) None) a ∙ sym (kill_taken n r extent x)
agree_after (Merge a b) answer own m n reading x agree =
    merge_subtree m a b x
    ∙ (λ i. cond (is_under a x) (option_or (reading (moved b a x) (under_moved b a x) i) (agree i)) (agree i))
    ∙ sym (merge_subtree n a b x)
agree_after (Increment r k) answer own m n reading x a = by_test (ref_eq x r) refl
  where
    by_test : (b : Bool) → ref_eq x r ≡ b → Agree (data_after (Increment r k) m) (data_after (Increment r k) n) x
    by_test true is =
        let same : x ≡ r = (ref_eq_decides x r).0 is in
        increment_one m r k x ∙ ap (λ b. cond b (Some (sum_at r k m)) (finmap.get m x)) is ∙ ap Some (same_sum r k m n (subst (λ z. Agree m n z) same a))
        ∙ sym (increment_one n r k x ∙ ap (λ b. cond b (Some (sum_at r k n)) (finmap.get n x)) is)
    by_test false is =
        increment_one m r k x ∙ ap (λ b. cond b (Some (sum_at r k m)) (finmap.get m x)) is ∙ a
        ∙ sym (increment_one n r k x ∙ ap (λ b. cond b (Some (sum_at r k n)) (finmap.get n x)) is)
agree_after (Look look) answer own m n reading x a = a

first_there : {A : Type 0} (o g h : Option A) → is_some o ≡ true → option_or o g ≡ option_or o h
first_there None g h e = absurd (cc)
first_there (Some x) g h e = refl

-- what the command itself set or killed is the same after it
wrote_agree : (c : DataCommand) (answer : Answer) (own : Reference → Bool) (m n : Database) → ((y : Reference) → read_set c answer own y ≡ true → Agree m n y) → ((y : Reference) → own y ≡ true → Agree m n y) → (x : Reference) → (sets c m x || kills c x) ≡ true → Agree (data_after c m) (data_after c n) x
wrote_agree (Set r v) answer own m n reading owned x h = by_test (ref_eq x r) refl h
  where
    by_test : (b : Bool) → ref_eq x r ≡ b → (b || false) ≡ true → Agree (data_after (Set r v) m) (data_after (Set r v) n) x
    by_test true is h = get_set m r v x ∙ ap (λ b. cond b (Some v) (finmap.get m x)) is ∙ sym (get_set n r v x ∙ ap (λ b. cond b (Some v) (finmap.get n x)) is)
    by_test false is h = absurd (cc)
wrote_agree (Kill r extent) answer own m n reading owned x h =
    kill_taken m r extent x ∙ ap (λ b. cond b None (finmap.get m x)) h ∙ sym (kill_taken n r extent x ∙ ap (λ b. cond b None (finmap.get n x)) h)
wrote_agree (Merge a b) answer own m n reading owned x h = by_test (not (ref_eq a b)) (is_under a x) (finmap.contains_key m (moved b a x)) refl refl h
  where
    by_test : (d u c : Bool) → is_under a x ≡ u → finmap.contains_key m (moved b a x) ≡ c → ((d && (u && c)) || false) ≡ true → Agree (data_after (Merge a b) m) (data_after (Merge a b) n) x
    by_test true true true u c h =
        merge_subtree m a b x
        ∙ ap (λ w. cond w (option_or (finmap.get m (moved b a x)) (finmap.get m x)) (finmap.get m x)) u
        ∙ first_there (finmap.get m (moved b a x)) (finmap.get m x) (finmap.get n x) c
        ∙ ap (λ o. option_or o (finmap.get n x)) (reading (moved b a x) (under_moved b a x))
        ∙ sym (merge_subtree n a b x ∙ ap (λ w. cond w (option_or (finmap.get n (moved b a x)) (finmap.get n x)) (finmap.get n x)) u)
    by_test true true false u c h = absurd (cc)
    by_test true false c u e h = absurd (cc)
    by_test false u c e f h = absurd (cc)
wrote_agree (Increment r k) answer own m n reading owned x h = by_test (ref_eq x r) refl h
  where
    by_test : (b : Bool) → ref_eq x r ≡ b → (b || false) ≡ true → Agree (data_after (Increment r k) m) (data_after (Increment r k) n) x
    by_test true is h =
        increment_one m r k x ∙ ap (λ b. cond b (Some (sum_at r k m)) (finmap.get m x)) is ∙ ap Some (same_sum r k m n (got r own m n reading owned))
        ∙ sym (increment_one n r k x ∙ ap (λ b. cond b (Some (sum_at r k n)) (finmap.get n x)) is)
    by_test false is h = absurd (cc)
wrote_agree (Look look) answer own m n reading owned x h = absurd (cc)

pub own_agree : (c : DataCommand) (answer : Answer) (own : Reference → Bool) (m n : Database) → ((y : Reference) → read_set c answer own y ≡ true → Agree m n y) → ((y : Reference) → own y ≡ true → Agree m n y) → (x : Reference) → own_after c m own x ≡ true → Agree (data_after c m) (data_after c n) x
own_agree c answer own m n reading owned x h = elim (either (own x) (sets c m x || kills c x) h) [
  | inl o ↦ agree_after c answer own m n reading x (owned x o)
  | inr w ↦ wrote_agree c answer own m n reading owned x w
]

-- ---- what a command is answered

sought : (p : Spot) (direction : Direction) (own : Reference → Bool) (o : Option (Reference × List ℕ)) (x : Reference) → follows (is_forward direction) p x ≡ true → not_farther (is_forward direction) o x ≡ true → look_read (Query p direction) (found_reply (option_map (λ (e : Reference × List ℕ). e.0) o)) own x ≡ true
sought p direction own None x f near = f
sought p direction own (Some e) x f near = and_from _ _ f near

-- of two databases that agree on what $ORDER of names reads, the name found is the same
named_so : (start : Option (List ℕ)) (direction : Direction) (own : Reference → Bool) (o : Option (Reference × List ℕ)) (x : Reference) → is_name_beyond (is_forward direction) start x.name ≡ true → not_past_name (is_forward direction) o x ≡ true
    → look_read (Name start direction) (found_reply (option_map bare (option_map (λ (e : Reference × List ℕ). e.0.name) o))) own x ≡ true
named_so start direction own None x f near = f
named_so start direction own (Some e) x f near = and_from _ _ f near

-- where two databases agree on what a command that looks reads, it has the same answer on both
looks_again : (look : LookCommand) (answer : Answer) (own : Reference → Bool) (m n : Database) → ((y : Reference) → look_read look answer own y ≡ true → Agree m n y) → ((y : Reference) → own y ≡ true → Agree m n y) → answer ≡ look_reply look m → answer ≡ look_reply look n
looks_again (Data r) answer own m n reading owned is = is ∙ ap Number (same_data r m n reading)
looks_again (Get r default) answer own m n reading owned is = is ∙ ap (λ o. Value (unwrap_or o (unwrap_or default []))) (got r own m n reading owned)
looks_again (Order p direction) answer own m n reading owned is =
    let answered = subst (λ a. (y : Reference) → look_read (Order p direction) a own y ≡ true → Agree m n y) is reading in
    is ∙ ap Value (same_order (is_forward direction) p m n answered)
looks_again (Query p direction) answer own m n reading owned is =
    let found = ap found_reply (query_is (is_forward direction) p m) in
    let answered = subst (λ a. (y : Reference) → look_read (Query p direction) a own y ≡ true → Agree m n y) (is ∙ found) reading in
    is ∙ ap found_reply (same_query (is_forward direction) p m n (λ x f near. answered x (sought p direction own (nearest_entry (is_forward direction) (follows (is_forward direction) p) m) x f near)))
looks_again (Name start direction) answer own m n reading owned is =
    let found = ap (λ o. found_reply (option_map bare o)) (name_is (is_forward direction) start m) in
    let answered = subst (λ a. (y : Reference) → look_read (Name start direction) a own y ≡ true → Agree m n y) (is ∙ found) reading in
    is ∙ ap (λ o. found_reply (option_map bare o)) (same_name (is_forward direction) start m n (λ x f near. answered x (named_so start direction own (nearest_entry (is_forward direction) (λ y. is_name_beyond (is_forward direction) start y.name) m) x f near)))

-- where two databases agree on what a command reads, it is right on the second too
right_again : (c : DataCommand) (answer : Answer) (own : Reference → Bool) (m n : Database) → ((y : Reference) → read_set c answer own y ≡ true → Agree m n y) → ((y : Reference) → own y ≡ true → Agree m n y) → IsRight c answer m → IsRight c answer n
right_again (Set r v) answer own m n reading owned h = h
right_again (Kill r extent) answer own m n reading owned h = h
right_again (Merge a b) answer own m n reading owned h =
    (ap (λ d. cond (overlap a b) (Some MergeOverlap) (cond d (Some TooManySubscripts) None)) (sym (same_depth a b m n reading)) ∙ h.0, h.1)
right_again (Increment r k) answer own m n reading owned h =
    let same = same_sum r k m n (got r own m n reading owned) in
    (ap (λ s. cond (nat_lt most_value_bytes (length s)) (Some SumTooLong) None) (sym same) ∙ h.0, h.1 ∙ ap Value same)
right_again (Look look) answer own m n reading owned h = (h.0, looks_again look answer own m n reading owned h.1)

-- ---- the whole transaction

pub right_on_both : (es : List Exchange) (own : Reference → Bool) (m n : Database) → ((x : Reference) → own x ≡ true → Agree m n x) → ((x : Reference) → is_read es m own x ≡ true → Agree m n x) → AreRight es m → AreRight es n
right_on_both [] own m n owned reading h = tt
right_on_both (e ∷ es) own m n owned reading h =
    let now : (x : Reference) → read_set e.command e.answer own x ≡ true → Agree m n x = λ x r. reading x (or_left (read_set e.command e.answer own x) _ r) in
    let later : (x : Reference) → is_read es (data_after e.command m) (own_after e.command m own) x ≡ true → Agree m n x = λ x r. reading x (or_right (read_set e.command e.answer own x) (is_read es (data_after e.command m) (own_after e.command m own) x) r) in (
      right_again e.command e.answer own m n now owned h.0,
      right_on_both es (own_after e.command m own) (data_after e.command m) (data_after e.command n)
          (own_agree e.command e.answer own m n now owned)
          (λ x r. agree_after e.command e.answer own m n now x (later x r))
          h.1,
    )
