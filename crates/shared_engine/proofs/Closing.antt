-- What the passes add up to.
use Rattle.std.proofs.Common.{◌≡◌, ℕ, ◌+◌, Bool, true, false, List, [], ◌∷◌, ◌++◌, refl, sym, ap, ◌∙◌, arith}
use Rattle.std.specs.Prelude.{if◌then◌else◌, not}
use Rattle.std.specs.List.{All, filter}
use Rattle.std.proofs.lemmas.List.Elements.{All-nil, All-cons, All-head, All-tail, All-push, All-append, All-filter}
use Rattle.std.proofs.lemmas.List.Sums.{sum_by-append, sum_by_push, sum_by-cons}
use mathlib.Core.Bool.{cond}
use Rattle.journal.specs.declared.unit.Unit.{Unit as JournalUnit}
use Rattle.journal.specs.Kept.{Claim, job_of}
use Rattle.pin_board.specs.Tally.{Tallied, tallied}
use Rattle.pin_board.specs.Slips.{IsInJournal, AreInJournal, IsBeginning, weigh}
use Rattle.shared_engine.specs.Receipts.{Book, book, of_receipts, IsOwn, RisesFrom, gives, gives_none, receipts_in, others_in, seen_in, IsBook}
use Rattle.shared_engine.specs.Engines.{receipts_weigh, units_weigh, HasSeenOf, IsDue}
use Rattle.shared_engine.proofs.Booking.{in_journal_receipts, in_journal_others}

all_left : {X : Type 0} (P : X → Type 0) (xs ys : List X) → All P (xs ++ ys) → All P xs
all_left P [] ys a = All-nil P
all_left P (x ∷ xs) ys a = All-cons P x xs (All-head P x (xs ++ ys) a) (all_left P xs ys (All-tail P x (xs ++ ys) a))

all_right : {X : Type 0} (P : X → Type 0) (xs ys : List X) → All P (xs ++ ys) → All P ys
all_right P [] ys a = a
all_right P (x ∷ xs) ys a = all_right P xs ys (All-tail P x (xs ++ ys) a)

weigh_cond : (weight : Claim → ℕ) (b : Bool) (x : Claim) (xs : List Claim) (n : ℕ) → n ≡ weigh weight xs → (if b then weight x else 0) + n ≡ weigh weight (cond b (x ∷ xs) xs)
weigh_cond weight true x xs n e = let s = sum_by-cons weight x xs in omega arith
weigh_cond weight false x xs n e = omega arith

-- of units on a slip those that give receipts weigh what the receipts do
receipts_weight : (weight : Claim → ℕ) (mine : List Claim) → weigh (of_receipts weight) mine ≡ weigh weight (receipts_in mine)
unfolding receipts_in
receipts_weight weight [] = refl
receipts_weight weight (x ∷ xs) =
    sum_by-cons (of_receipts weight) x xs ∙ weigh_cond weight (gives x) x (filter gives xs) (weigh (of_receipts weight) xs) (receipts_weight weight xs)

-- a weight of units, of those that give no receipt alone
abbrev of_others : (Claim → ℕ) → Claim → ℕ
of_others weight c = if gives c then 0 else weight c

weigh_not : (weight : Claim → ℕ) (b : Bool) (x : Claim) (xs : List Claim) (n : ℕ) → n ≡ weigh weight xs → (if b then 0 else weight x) + n ≡ weigh weight (cond (not b) (x ∷ xs) xs)
weigh_not weight true x xs n e = omega arith
weigh_not weight false x xs n e = let s = sum_by-cons weight x xs in omega arith

-- those that give none weigh what the others do
others_weight : (weight : Claim → ℕ) (mine : List Claim) → weigh (of_others weight) mine ≡ weigh weight (others_in mine)
unfolding others_in
others_weight weight [] = refl
others_weight weight (x ∷ xs) =
    sum_by-cons (of_others weight) x xs ∙ weigh_not weight (gives x) x (filter gives_none xs) (weigh (of_others weight) xs) (others_weight weight xs)

split_by : (b : Bool) (w n m k : ℕ) → n ≡ m + k → w + n ≡ ((if b then w else 0) + m) + ((if b then 0 else w) + k)
split_by true w n m k e = omega arith
split_by false w n m k e = omega arith

split_weight : (weight : Claim → ℕ) (mine : List Claim) → weigh weight mine ≡ weigh (of_receipts weight) mine + weigh (of_others weight) mine
split_weight weight [] = refl
split_weight weight (x ∷ xs) =
    let all = sum_by-cons weight x xs in
    let receipts = sum_by-cons (of_receipts weight) x xs in
    let others = sum_by-cons (of_others weight) x xs in
    all ∙ (split_by (gives x) (weight x) (weigh weight xs) (weigh (of_receipts weight) xs) (weigh (of_others weight) xs) (split_weight weight xs) ∙ sym (λ i. receipts i + others i))

-- the receipts and the others together weigh what all of them do
units_weight : (weight : Claim → ℕ) (mine : List Claim) → weigh weight mine ≡ weigh weight (receipts_in mine) + weigh weight (others_in mine)
units_weight weight mine = split_weight weight mine ∙ (λ i. receipts_weight weight mine i + others_weight weight mine i)

own_receipts : (job : ℕ) (mine : List Claim) → All (λ (c : Claim). job_of c.unit ≡ job) mine → All (λ (c : Claim). job_of c.unit ≡ job) (receipts_in mine)
unfolding receipts_in
own_receipts job mine own = All-filter gives (λ (c : Claim). job_of c.unit ≡ job) mine own

own_others : (job : ℕ) (mine : List Claim) → All (λ (c : Claim). job_of c.unit ≡ job) mine → All (λ (c : Claim). job_of c.unit ≡ job) (others_in mine)
unfolding others_in
own_others job mine own = All-filter gives_none (λ (c : Claim). job_of c.unit ≡ job) mine own

own_units : (job : ℕ) (mine : List Claim) (seen : List JournalUnit) → All (λ (c : Claim). job_of c.unit ≡ job) mine → IsOwn (book job (receipts_in mine) (others_in mine) seen)
own_units job mine seen own = All-append (λ (c : Claim). job_of c.unit ≡ job) (receipts_in mine) (others_in mine) (own_receipts job mine own) (own_others job mine own)

pub due_all : (all : List Book) → IsDue all all [] []
due_all all = record { count = λ weight. omega arith; units = λ weight. omega arith; own = λ a. a; in_journal = λ log s a. a; others = λ log s a. a; rising = λ a. a; seen = λ log k a. a }

-- the first of the beginnings on a slip
first_seen : (log : List JournalUnit) (known : List (List JournalUnit)) → All (IsBeginning log) known → IsBeginning log (seen_in known)
first_seen log [] all = record { within = omega arith; is = refl }
first_seen log (seen ∷ more) all = All-head (IsBeginning log) seen more all

pub due_step : (all rest : List Book) (job : ℕ) (ns : List ℕ) (back mine : List Claim) (known more : List (List JournalUnit)) → IsBook job ns mine → IsDue all (rest ++ book job (receipts_in mine) (others_in mine) (seen_in more) ∷ []) back known → IsDue all rest (back ++ mine) (known ++ more)
due_step all rest job ns back mine known more k d = let b : Book = book job (receipts_in mine) (others_in mine) (seen_in more) in record {
  count = λ weight.
      let f : Book → ℕ = λ p. weigh weight p.receipts in
      let one : weigh (of_receipts weight) (back ++ mine) ≡ weigh (of_receipts weight) back + weigh (of_receipts weight) mine = sum_by-append (of_receipts weight) back mine in
      let two : receipts_weigh weight (rest ++ b ∷ []) ≡ receipts_weigh weight rest + f b = sum_by_push f rest b in
      let three : weigh (of_receipts weight) mine ≡ f b = receipts_weight weight mine in
      let four = d.count weight in omega arith;
  units = λ weight.
      let f : Book → ℕ = λ p. weigh weight p.receipts + weigh weight p.others in
      let one : weigh weight (back ++ mine) ≡ weigh weight back + weigh weight mine = sum_by-append weight back mine in
      let two : units_weigh weight (rest ++ b ∷ []) ≡ units_weigh weight rest + f b = sum_by_push f rest b in
      let three : weigh weight mine ≡ f b = units_weight weight mine in
      let four = d.units weight in omega arith;
  own = λ a. d.own (All-push IsOwn rest b a (own_units job mine (seen_in more) k.own));
  in_journal = λ log s a. d.in_journal log (record { each = all_left (IsInJournal log) back mine s.each })
      (All-push (λ (p : Book). AreInJournal log p.receipts) rest b a (in_journal_receipts log mine (record { each = all_right (IsInJournal log) back mine s.each })));
  others = λ log s a. d.others log (record { each = all_left (IsInJournal log) back mine s.each })
      (All-push (λ (p : Book). AreInJournal log p.others) rest b a (in_journal_others log mine (record { each = all_right (IsInJournal log) back mine s.each })));
  rising = λ a. d.rising (All-push (λ (p : Book). RisesFrom 0 p.receipts) rest b a k.rising);
  seen = λ log s a. d.seen log (all_left (IsBeginning log) known more s) (All-push (HasSeenOf log) rest b a (first_seen log more (all_right (IsBeginning log) known more s)));
}

-- the tally knows the journal
pub units_told : (log units : List JournalUnit) (given returned : ℕ) (before now : Tallied) → now ≡ tallied before.units before.given returned now.back now.known → before ≡ tallied log given 0 [] [] → log ≡ units → now.units ≡ units
units_told log units given returned before now gathered begun same = ap (λ (t : Tallied). t.units) gathered ∙ (ap (λ (t : Tallied). t.units) begun ∙ same)
