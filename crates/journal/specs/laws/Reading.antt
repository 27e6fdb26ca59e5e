-- What was written reads back, whatever follows it.
use Rattle.std.proofs.Common.{◌≡◌, ℕ, ◌+◌, ◌-◌, ◌*◌, ◌/◌, ◌%◌, ◌≤◌, ◌<◌, ◌^◌, ◌⊎◌, inl, inr, Bool, List, [], ◌∷◌, ◌++◌, length, take, drop, true, false, refl, ap, sym, ◌∙◌, arith, append_assoc, length-append, take-append-drop, Option, Some, None}
use Rattle.std.proofs.lemmas.Bool.Decides.{nat_tests}
use Rattle.std.proofs.lemmas.List.{take_at, drop_at, append_cancel_left}
use Rattle.std.proofs.lemmas.Nat.{from_be_bytes-to_be_bytes_2, from_be_bytes-to_be_bytes_8}
use Rattle.std.specs.Prelude.{◌==◌, nat_eq, nat_lt, nat_le, ◌&&◌, is_none}
use Rattle.std.specs.List.{flat_map}
use Rattle.std.specs.Int.{w16, w64, to_be_bytes}
use Rattle.collation.specs.Reference.{Reference, Resource}
use Rattle.collation.specs.Database.{is_under}
use Rattle.key_codec.specs.Key.{key_of, long_form, subscripts_key, IsFaultless}
use Rattle.key_codec.specs.Back.{reference_of}
use Rattle.key_codec.specs.laws.Back.{reference_of_key}
use Rattle.key_codec.specs.laws.Key.{long_form_is, fits_long, has_tag, begins_under, under_begins}
use Rattle.key_codec.specs.Kept.{Keeps}
use Rattle.std.specs.Cmp.Lexicographic.{pointwise, bytes_decides}
use Rattle.std.specs.Cmp.{first_so, second_so}
use Rattle.std.proofs.lemmas.Bool.{and_from}
use Rattle.collation.specs.Name.{is_name}
use Rattle.collation.specs.Faults.{reference_fault}
use Rattle.refusal.specs.declared.Refusal.{Refusal}
use Rattle.collation.specs.declared.direction.Direction.{Direction}
use Rattle.collation.specs.declared.direction.Direction.TheVariants.{Forward, Backward}
use Rattle.command.specs.declared.access.Extent.{Extent}
use Rattle.command.specs.declared.access.Extent.TheVariants.{All, Value as ValueAlone, Below}
use Rattle.command.specs.declared.access.DataCommand.{DataCommand}
use Rattle.command.specs.declared.access.DataCommand.TheVariants.{Set, Kill, Merge, Increment, Look}
use Rattle.command.specs.declared.access.Look.{Look as LookCommand}
use Rattle.command.specs.declared.access.Look.TheVariants.{Data, Get, Order, Query, Name}
use Rattle.command.specs.declared.access.Answer.{Answer}
use Rattle.command.specs.declared.access.Answer.TheVariants.{Done, Value, Number, Found}
use Rattle.lock_name.specs.declared.lock.LockCommand.{LockCommand}
use Rattle.lock_name.specs.declared.lock.LockCommand.TheVariants.{Release, Only, More, Fewer}
use Rattle.journal.specs.declared.unit.Exchange.{Exchange}
use Rattle.journal.specs.declared.unit.Unit.{Unit as JournalUnit}
use Rattle.journal.specs.declared.unit.Unit.TheVariants.{Lone, Whole, Lock, Back, End}
use Rattle.journal.specs.Format.{number_bytes, string_bytes, has_end, without_end, reference_bytes, caret_byte, name_bytes, names_bytes, order_kind, query_kind, name_kind, start_bytes, look_kind, look_bytes, kill_kind, command_kind, command_bytes, answer_kind, answer_bytes, exchange_bytes, lock_flags, lock_kind, lock_bytes, deed_bytes, unit_bytes}
use Rattle.journal.specs.Reading.{at_least, number_at, wide_at, bytes_at, string_at, is_key, key_at, endless_at, ended_at, reference_at, name_at, list_at, names_at, named_at, looks_at, looking_at, data_command_at, answer_at, answered_at, exchange_at, lock_command_at, exchanges_at, deed_at, deed_of, unit_at, is_inside, has_had}
use Rattle.collation.specs.Limits.{is_job}
use Rattle.journal.specs.Kept.{job_of}
use Rattle.journal.specs.Stored.{FitsNumber, FitsString, FitsReference, FitsName, Each, FitNames, FitsLook, FitsCommand, FitsAnswer, FitsExchange, FitExchanges, FitsLock, FitsDeed, FitsUnit}

-- a number in so many bytes
wide_back : (bs t : List ℕ) (k : ℕ) → length bs ≡ k → nat_le k (length (bs ++ t)) ≡ true
wide_back bs t k e = let l = length-append bs t in grind (arith, nat_tests)

least_back : (least n : ℕ) (t : List ℕ) → least ≤ n → at_least least n t ≡ Some (n, t)
least_back least n t h = let some : nat_le least n ≡ true = grind (arith, nat_tests) in rw some refl

two_back : (n : ℕ) (t : List ℕ) → 254 ≤ n → n < 65536 → wide_at w16 254 (to_be_bytes w16 n ++ t) ≡ Some (n, t)
two_back n t some h =
    let room : nat_le 2 (length (to_be_bytes w16 n ++ t)) ≡ true = wide_back (to_be_bytes w16 n) t 2 refl in
    rw room (ap (λ m. at_least 254 m t) (from_be_bytes-to_be_bytes_2 n h) ∙ least_back 254 n t some)

eight_back : (n : ℕ) (t : List ℕ) → 65536 ≤ n → n < 2 ^ 64 → wide_at w64 65536 (to_be_bytes w64 n ++ t) ≡ Some (n, t)
eight_back n t some h =
    let room : nat_le 8 (length (to_be_bytes w64 n ++ t)) ≡ true = wide_back (to_be_bytes w64 n) t 8 refl in
    rw room (ap (λ m. at_least 65536 m t) (from_be_bytes-to_be_bytes_8 n h) ∙ least_back 65536 n t some)

number_back_by : (n : ℕ) (t : List ℕ) → n < 2 ^ 64 → (b c : Bool) → nat_lt n 254 ≡ b → nat_lt n 65536 ≡ c → number_at (number_bytes n ++ t) ≡ Some (n, t)
unfolding number_at number_bytes
number_back_by n t h true c e f = simp e
number_back_by n t h false true e f = simp (e, f) (two_back n t (grind (arith, nat_tests)) (grind (arith, nat_tests)))
number_back_by n t h false false e f = simp (e, f) (eight_back n t (grind (arith, nat_tests)) h)

pub number_back : (n : ℕ) (t : List ℕ) → FitsNumber n → number_at (number_bytes n ++ t) ≡ Some (n, t)
number_back n t h = number_back_by n t h.fits (nat_lt n 254) (nat_lt n 65536) refl refl

-- so many bytes
pub part_back : (s t : List ℕ) → bytes_at (length s) (s ++ t) ≡ Some (s, t)
part_back s t =
    let room : nat_le (length s) (length (s ++ t)) ≡ true = wide_back s t (length s) refl in
    rw room (ap (λ x. Some (x, drop (length s) (s ++ t))) (take_at s t (length s) refl) ∙ ap (λ x. Some (s, x)) (drop_at s t (length s) refl))

pub string_back : (s t : List ℕ) → FitsString s → string_at (string_bytes s ++ t) ≡ Some (s, t)
unfolding string_at
string_back s t h =
    let number : number_at (number_bytes (length s) ++ (s ++ t)) ≡ Some (length s, s ++ t) = number_back (length s) (s ++ t) (record { fits = h.fits }) in
    rw append_assoc (rw number (part_back s t))

-- ---- references

is_none_from : (o : Option Refusal) → o ≡ None → is_none o ≡ true
is_none_from o e = rw e refl

none_from : (o : Option Refusal) → is_none o ≡ true → o ≡ None
none_from None e = refl
none_from (Some r) e = cc

-- a key is known as one
pub key_back : (r : Reference) → IsFaultless r → key_at (key_of r) ≡ Some r
unfolding key_at is_key
key_back r is =
    let same : pointwise nat_eq (key_of r) (key_of r) ≡ true = (bytes_decides (key_of r) (key_of r)).1 refl in
    simp (reference_of_key r is, is.name, is_none_from _ is.subscripts, same)

pub key_known : (bytes : List ℕ) (r : Reference) → IsFaultless r → key_of r ≡ bytes → key_at bytes ≡ Some r
key_known bytes r is e = ap key_at (sym e) ∙ key_back r is

-- what a known key says
pub key_means : (bytes : List ℕ) → is_key bytes ≡ true → IsFaultless (reference_of bytes) × (bytes ≡ key_of (reference_of bytes))
unfolding is_key
key_means bytes e =
    let both : (is_name (reference_of bytes).name && is_none (reference_fault (reference_of bytes).subscripts)) ≡ true = first_so _ _ e in (
      record { name = first_so _ _ both; subscripts = none_from _ (second_so (is_name (reference_of bytes).name) _ both) },
      sym ((bytes_decides (key_of (reference_of bytes)) bytes).0 (second_so (is_name (reference_of bytes).name && is_none (reference_fault (reference_of bytes).subscripts)) _ e)),
    )

key_unknown_by : (bytes : List ℕ) (b : Bool) → is_key bytes ≡ b → ((x : Reference) → IsFaultless x → bytes ≡ key_of x → ⊥) → key_at bytes ≡ None
unfolding key_at
key_unknown_by bytes true e none = absurd (none (reference_of bytes) (key_means bytes e).0 (key_means bytes e).1)
key_unknown_by bytes false e none = rw e refl

pub key_unknown : (bytes : List ℕ) → ((x : Reference) → IsFaultless x → bytes ≡ key_of x → ⊥) → key_at bytes ≡ None
key_unknown bytes none = key_unknown_by bytes (is_key bytes) refl none

key_keeps_by : (bytes : List ℕ) (r : Reference) (b : Bool) → is_key bytes ≡ b → key_at bytes ≡ Some r → Keeps bytes (reference_of bytes) × (key_at bytes ≡ Some (reference_of bytes))
unfolding key_at
key_keeps_by bytes r true e known = (record { key = (key_means bytes e).1; form = (key_means bytes e).0 }, rw e refl)
key_keeps_by bytes r false e known = let unknown : key_at bytes ≡ None = rw e refl in cc

-- bytes that are known to be a key
pub key_keeps : (bytes : List ℕ) (r : Reference) → key_at bytes ≡ Some r → Keeps bytes (reference_of bytes)
key_keeps bytes r known = (key_keeps_by bytes r (is_key bytes) refl known).0

-- read as what they keep
pub key_again : (bytes : List ℕ) (r x : Reference) → key_at bytes ≡ Some r → x ≡ reference_of bytes → key_at bytes ≡ Some x
key_again bytes r x known e = (key_keeps_by bytes r (is_key bytes) refl known).1 ∙ ap (λ y. Some y) (sym e)

-- bytes in front of an end byte
front_size : (xs : List ℕ) → length (xs ++ 0 ∷ []) - 1 ≡ length xs
front_size xs = let l = length-append xs (0 ∷ []) in omega (arith, l)

front_ends : (xs : List ℕ) → has_end (xs ++ 0 ∷ []) ≡ true
front_ends xs = (bytes_decides (0 ∷ []) _).1 (sym (ap (λ n. drop n (xs ++ 0 ∷ [])) (front_size xs) ∙ drop_at xs (0 ∷ []) (length xs) refl))

pub without_back : (xs : List ℕ) → without_end (xs ++ 0 ∷ []) ≡ xs
unfolding without_end
without_back xs = rw (front_ends xs) (ap (λ n. take n (xs ++ 0 ∷ [])) (front_size xs) ∙ take_at xs (0 ∷ []) (length xs) refl)

-- a key with the end byte is what stands without it, and the end byte
end_back : (bytes : List ℕ) → has_end bytes ≡ true → without_end bytes ++ 0 ∷ [] ≡ bytes
unfolding without_end
end_back bytes e =
    let last : 0 ∷ [] ≡ drop (length bytes - 1) bytes = (bytes_decides (0 ∷ []) (drop (length bytes - 1) bytes)).0 e in
    rw e (ap (λ t. take (length bytes - 1) bytes ++ t) last ∙ take-append-drop (length bytes - 1) bytes)

pub endless_back : (bytes : List ℕ) → has_end bytes ≡ false → without_end bytes ≡ bytes
unfolding without_end
endless_back bytes e = rw e refl

-- no key is another one and a 0
head_is : (a b : ℕ) (xs ys : List ℕ) → a ∷ xs ≡ b ∷ ys → a ≡ b
head_is a b xs ys e = cc

tag_of : (more : List (List ℕ)) → 0 ∷ [] ≡ subscripts_key long_form more → ⊥
tag_of [] e = cc
tag_of (s ∷ ss) e =
    let t = has_tag long_form s in
    let first : 0 ≡ t.tag = head_is 0 t.tag [] (t.rest ++ subscripts_key long_form ss) (e ∙ ap (λ k. k ++ subscripts_key long_form ss) t.is) in
    omega (arith, first, t.low)

no_longer : (r x : Reference) → IsFaultless r → IsFaultless x → key_of r ++ 0 ∷ [] ≡ key_of x → ⊥
no_longer r x a b e =
    let under : is_under r x ≡ true = begins_under long_form long_form_is r x (0 ∷ []) (fits_long r a) (fits_long x b) (sym e) in
    let on = under_begins long_form r x under in
    tag_of on.more (append_cancel_left (key_of r) (0 ∷ []) (subscripts_key long_form on.more) (e ∙ on.is))

ended_back_by : (r : Reference) (b : Bool) → IsFaultless r → has_end (key_of r) ≡ b → ended_at (without_end (key_of r)) ≡ Some r
unfolding ended_at endless_at
ended_back_by r true is e =
    let known : key_at (without_end (key_of r) ++ 0 ∷ []) ≡ Some r = key_known _ r is (sym (end_back (key_of r) e)) in
    rw known refl
ended_back_by r false is e =
    let unknown : key_at (key_of r ++ 0 ∷ []) ≡ None = key_unknown (key_of r ++ 0 ∷ []) (λ x form same. no_longer r x is form same) in
    ap ended_at (endless_back (key_of r) e) ∙ rw (unknown, e) (key_back r is)

-- a key reads back without its end
pub ended_back : (r : Reference) → IsFaultless r → ended_at (without_end (key_of r)) ≡ Some r
ended_back r is = ended_back_by r (has_end (key_of r)) is refl

pub reference_back : (r : Reference) (t : List ℕ) → FitsReference r → reference_at (reference_bytes r ++ t) ≡ Some (r, t)
unfolding reference_at
reference_back r t h =
    let string : string_at (string_bytes (without_end (key_of r)) ++ t) ≡ Some (without_end (key_of r), t) = string_back (without_end (key_of r)) t (record { fits = h.fits }) in
    rw string (rw (ended_back r h.form) refl)

-- ---- lists

pub list_back : {A : Type 0} (f : List ℕ → Option (A × List ℕ)) (g : A → List ℕ) (P : A → Type 0) → ((x : A) (t : List ℕ) → P x → f (g x ++ t) ≡ Some (x, t)) →
    (xs : List A) (t : List ℕ) → Each P xs → list_at f (length xs) (flat_map g xs ++ t) ≡ Some (xs, t)
list_back f g P back [] t h = refl
list_back f g P back (x ∷ xs) t h =
    let first : f (g x ++ (flat_map g xs ++ t)) ≡ Some (x, flat_map g xs ++ t) = back x (flat_map g xs ++ t) h.0 in
    let rest : list_at f (length xs) (flat_map g xs ++ t) ≡ Some (xs, t) = list_back f g P back xs t h.1 in
    rw append_assoc (rw first (rw rest refl))

-- ---- lock names

caret_back : (b : Bool) → (caret_byte b == 1) ≡ b
caret_back true = refl
caret_back false = refl

caret_low : (b : Bool) → nat_le (caret_byte b) 1 ≡ true
caret_low true = refl
caret_low false = refl

pub name_back : (n : Resource) (t : List ℕ) → FitsName n → name_at (name_bytes n ++ t) ≡ Some (n, t)
unfolding name_at
name_back n t h =
    let r : reference_at (reference_bytes n.reference ++ t) ≡ Some (n.reference, t) = reference_back n.reference t h.reference in
    rw (caret_low n.has_caret, r) (ap (λ b. Some (record { has_caret = b; reference = n.reference }, t)) (caret_back n.has_caret))

pub names_back : (ns : List Resource) (t : List ℕ) → FitNames ns → names_at (names_bytes ns ++ t) ≡ Some (ns, t)
unfolding names_at
names_back ns t h =
    let number : number_at (number_bytes (length ns) ++ (flat_map name_bytes ns ++ t)) ≡ Some (length ns, flat_map name_bytes ns ++ t) = number_back _ _ (record { fits = h.count }) in
    rw append_assoc (rw number (list_back name_at name_bytes FitsName name_back ns t h.each))

-- ---- data commands and answers

order_back : (b : Bool) (d : Direction) (r : Reference) (t : List ℕ) → FitsReference r → looks_at (order_kind b d) (reference_bytes r ++ t) ≡ Some (Order (record { reference = r; is_open = b }) d, t)
unfolding looks_at
order_back false Forward r t h = rw (reference_back r t h) refl
order_back false Backward r t h = rw (reference_back r t h) refl
order_back true Forward r t h = rw (reference_back r t h) refl
order_back true Backward r t h = rw (reference_back r t h) refl

query_back : (b : Bool) (d : Direction) (r : Reference) (t : List ℕ) → FitsReference r → looks_at (query_kind b d) (reference_bytes r ++ t) ≡ Some (Query (record { reference = r; is_open = b }) d, t)
unfolding looks_at
query_back false Forward r t h = rw (reference_back r t h) refl
query_back false Backward r t h = rw (reference_back r t h) refl
query_back true Forward r t h = rw (reference_back r t h) refl
query_back true Backward r t h = rw (reference_back r t h) refl

named_back : (n t : List ℕ) → FitsString n → is_name n ≡ true → named_at (string_bytes n ++ t) ≡ Some (n, t)
unfolding named_at
named_back n t h is = rw (string_back n t h) (rw is refl)

next_name_back : (start : Option (List ℕ)) (d : Direction) (t : List ℕ) → FitsLook (Name start d) → looks_at (name_kind start d) (start_bytes start ++ t) ≡ Some (Name start d, t)
unfolding looks_at
next_name_back (Some n) Forward t h = rw (named_back n t h.0 h.1) refl
next_name_back (Some n) Backward t h = rw (named_back n t h.0 h.1) refl
next_name_back None Forward t h = refl
next_name_back None Backward t h = refl

look_back : (l : LookCommand) (t : List ℕ) → FitsLook l → looks_at (look_kind l) (look_bytes l ++ t) ≡ Some (l, t)
unfolding looks_at
look_back (Data r) t h = rw (reference_back r t h) refl
look_back (Get r None) t h = rw (reference_back r t h) refl
look_back (Get r (Some d)) t h = rw (append_assoc (reference_bytes r) (string_bytes d) t, reference_back r (string_bytes d ++ t) h.0) (rw (string_back d t h.1) refl)
look_back (Order p d) t h = order_back p.is_open d p.reference t h
look_back (Query p d) t h = query_back p.is_open d p.reference t h
look_back (Name start d) t h = next_name_back start d t h

-- a look's kind is from 3 to 13, or from 22 on
abbrev IsLookKind : ℕ → Type 0
IsLookKind k = ((3 ≤ k) × (k ≤ 13)) ⊎ (22 ≤ k)

order_kinds : (b : Bool) (d : Direction) → IsLookKind (order_kind b d)
order_kinds false Forward = inl (omega arith, omega arith)
order_kinds false Backward = inl (omega arith, omega arith)
order_kinds true Forward = inl (omega arith, omega arith)
order_kinds true Backward = inl (omega arith, omega arith)

query_kinds : (b : Bool) (d : Direction) → IsLookKind (query_kind b d)
query_kinds false Forward = inl (omega arith, omega arith)
query_kinds false Backward = inl (omega arith, omega arith)
query_kinds true Forward = inl (omega arith, omega arith)
query_kinds true Backward = inl (omega arith, omega arith)

name_kinds : (start : Option (List ℕ)) (d : Direction) → IsLookKind (name_kind start d)
name_kinds (Some n) Forward = inr (omega arith)
name_kinds (Some n) Backward = inr (omega arith)
name_kinds None Forward = inr (omega arith)
name_kinds None Backward = inr (omega arith)

look_kinds : (l : LookCommand) → IsLookKind (look_kind l)
look_kinds (Data r) = inl (omega arith, omega arith)
look_kinds (Get r None) = inl (omega arith, omega arith)
look_kinds (Get r (Some d)) = inl (omega arith, omega arith)
look_kinds (Order p d) = order_kinds p.is_open d
look_kinds (Query p d) = query_kinds p.is_open d
look_kinds (Name start d) = name_kinds start d

past_low : (k : ℕ) (bytes : List ℕ) → 3 ≤ k → k ≤ 13 → data_command_at k bytes ≡ looking_at k bytes
unfolding data_command_at
past_low k bytes low high =
    let not_set : (k == 0) ≡ false = grind (arith, nat_tests) in
    let not_kill : (k == 1) ≡ false = grind (arith, nat_tests) in
    let not_merge : (k == 2) ≡ false = grind (arith, nat_tests) in
    let not_value : (k == 19) ≡ false = grind (arith, nat_tests) in
    let not_below : (k == 20) ≡ false = grind (arith, nat_tests) in
    let not_increment : (k == 21) ≡ false = grind (arith, nat_tests) in
    rw (not_set, not_kill, not_merge, not_value, not_below, not_increment) refl

past_high : (k : ℕ) (bytes : List ℕ) → 22 ≤ k → data_command_at k bytes ≡ looking_at k bytes
unfolding data_command_at
past_high k bytes high =
    let not_set : (k == 0) ≡ false = grind (arith, nat_tests) in
    let not_kill : (k == 1) ≡ false = grind (arith, nat_tests) in
    let not_merge : (k == 2) ≡ false = grind (arith, nat_tests) in
    let not_value : (k == 19) ≡ false = grind (arith, nat_tests) in
    let not_below : (k == 20) ≡ false = grind (arith, nat_tests) in
    let not_increment : (k == 21) ≡ false = grind (arith, nat_tests) in
    rw (not_set, not_kill, not_merge, not_value, not_below, not_increment) refl

past_others : (k : ℕ) (bytes : List ℕ) → IsLookKind k → data_command_at k bytes ≡ looking_at k bytes
past_others k bytes (inl h) = past_low k bytes h.0 h.1
past_others k bytes (inr h) = past_high k bytes h

looking_back : (l : LookCommand) (t : List ℕ) → FitsLook l → data_command_at (look_kind l) (look_bytes l ++ t) ≡ Some (Look l, t)
looking_back l t h = past_others (look_kind l) (look_bytes l ++ t) (look_kinds l) ∙ rw (look_back l t h) refl

kill_back : (r : Reference) (extent : Extent) (t : List ℕ) → FitsReference r → data_command_at (kill_kind extent) (reference_bytes r ++ t) ≡ Some (Kill r extent, t)
unfolding data_command_at
kill_back r All t h = rw (reference_back r t h) refl
kill_back r ValueAlone t h = rw (reference_back r t h) refl
kill_back r Below t h = rw (reference_back r t h) refl

pub command_back : (c : DataCommand) (t : List ℕ) → FitsCommand c → data_command_at (command_kind c) (command_bytes c ++ t) ≡ Some (c, t)
unfolding data_command_at
command_back (Set r v) t h = rw (append_assoc (reference_bytes r) (string_bytes v) t, reference_back r (string_bytes v ++ t) h.0) (rw (string_back v t h.1) refl)
command_back (Kill r extent) t h = kill_back r extent t h
command_back (Merge a b) t h = rw (append_assoc (reference_bytes a) (reference_bytes b) t, reference_back a (reference_bytes b ++ t) h.0) (rw (reference_back b t h.1) refl)
command_back (Increment r n) t h = rw (append_assoc (reference_bytes r) (string_bytes n) t, reference_back r (string_bytes n ++ t) h.0) (rw (string_back n t h.1) refl)
command_back (Look l) t h = looking_back l t h

pub answer_back : (a : Answer) (t : List ℕ) → FitsAnswer a → answer_at (answer_kind a) (answer_bytes a ++ t) ≡ Some (a, t)
unfolding answer_at
answer_back Done t h = refl
answer_back (Value s) t h = rw (string_back s t h) refl
answer_back (Number n) t h = rw (number_back n t h) refl
answer_back (Found r) t h = rw (reference_back r t h) refl

order_low : (b : Bool) (d : Direction) → order_kind b d ≤ 25
order_low false Forward = omega arith
order_low false Backward = omega arith
order_low true Forward = omega arith
order_low true Backward = omega arith

query_low : (b : Bool) (d : Direction) → query_kind b d ≤ 25
query_low false Forward = omega arith
query_low false Backward = omega arith
query_low true Forward = omega arith
query_low true Backward = omega arith

pub look_low : (l : LookCommand) → look_kind l ≤ 25
look_low (Data r) = omega arith
look_low (Get r None) = omega arith
look_low (Get r (Some d)) = omega arith
look_low (Order p d) = order_low p.is_open d
look_low (Query p d) = query_low p.is_open d
look_low (Name (Some n) Forward) = omega arith
look_low (Name (Some n) Backward) = omega arith
look_low (Name None Forward) = omega arith
look_low (Name None Backward) = omega arith

-- a command's kind is up to 13, or from 19 on
apart_look : (k : ℕ) → IsLookKind k → (k ≤ 13) ⊎ (19 ≤ k)
apart_look k (inl h) = inl h.1
apart_look k (inr h) = inr (omega (arith, h))

kind_apart : (c : DataCommand) → (command_kind c ≤ 13) ⊎ (19 ≤ command_kind c)
kind_apart (Set r v) = inl (omega arith)
kind_apart (Kill r All) = inl (omega arith)
kind_apart (Kill r ValueAlone) = inr (omega arith)
kind_apart (Kill r Below) = inr (omega arith)
kind_apart (Merge a b) = inl (omega arith)
kind_apart (Increment r n) = inr (omega arith)
kind_apart (Look l) = apart_look (look_kind l) (look_kinds l)

pub answer_low : (a : Answer) → answer_kind a ≤ 3
answer_low Done = omega arith
answer_low (Value s) = omega arith
answer_low (Number n) = omega arith
answer_low (Found r) = omega arith

-- a tag's two parts
pub tag_high : (k a : ℕ) → a ≤ 3 → (4 * k + a) / 4 ≡ k
tag_high k a h = omega arith

pub tag_low : (k a : ℕ) → a ≤ 3 → (4 * k + a) % 4 ≡ a
tag_low k a h = omega arith

pub answered_back : (c : DataCommand) (a : Answer) (t : List ℕ) → FitsCommand c → FitsAnswer a →
    answered_at (4 * command_kind c + answer_kind a) ((command_bytes c ++ answer_bytes a) ++ t) ≡ Some (record { command = c; answer = a }, t)
unfolding answered_at
answered_back c a t h k =
    let high : (4 * command_kind c + answer_kind a) / 4 ≡ command_kind c = tag_high _ _ (answer_low a) in
    let low : (4 * command_kind c + answer_kind a) % 4 ≡ answer_kind a = tag_low _ _ (answer_low a) in
    let first : data_command_at (command_kind c) (command_bytes c ++ (answer_bytes a ++ t)) ≡ Some (c, answer_bytes a ++ t) = command_back c (answer_bytes a ++ t) h in
    rw (high, low, append_assoc (command_bytes c) (answer_bytes a) t, first) (rw (answer_back a t k) refl)

pub exchange_back : (e : Exchange) (t : List ℕ) → FitsExchange e → exchange_at (exchange_bytes e ++ t) ≡ Some (e, t)
unfolding exchange_at
exchange_back e t h = answered_back e.command e.answer t h.command h.answer

pub exchanges_back : (es : List Exchange) (t : List ℕ) → FitExchanges es → exchanges_at ((number_bytes (length es) ++ flat_map exchange_bytes es) ++ t) ≡ Some (es, t)
unfolding exchanges_at
exchanges_back es t h =
    let number : number_at (number_bytes (length es) ++ (flat_map exchange_bytes es ++ t)) ≡ Some (length es, flat_map exchange_bytes es ++ t) = number_back _ _ (record { fits = h.count }) in
    rw append_assoc (rw number (list_back exchange_at exchange_bytes FitsExchange exchange_back es t h.each))

-- ---- locks

pub lock_back : (l : LockCommand) (t : List ℕ) → FitsLock l → lock_command_at (lock_kind l) (lock_bytes l ++ t) ≡ Some (l, t)
unfolding lock_command_at
lock_back Release t h = refl
lock_back (Only ns) t h = rw (names_back ns t h) refl
lock_back (More ns) t h = rw (names_back ns t h) refl
lock_back (Fewer ns) t h = rw (names_back ns t h) refl

flags_low : (inside had : Bool) → lock_flags inside had ≤ 3
flags_low false false = omega arith
flags_low false true = omega arith
flags_low true false = omega arith
flags_low true true = omega arith

inside_back : (inside had : Bool) → is_inside (lock_flags inside had) ≡ inside
inside_back false false = refl
inside_back false true = refl
inside_back true false = refl
inside_back true true = refl

had_back : (inside had : Bool) → has_had (lock_flags inside had) ≡ had
had_back false false = refl
had_back false true = refl
had_back true false = refl
had_back true true = refl

lock_high : (l : LockCommand) → 15 ≤ lock_kind l
lock_high Release = omega arith
lock_high (Only ns) = omega arith
lock_high (More ns) = omega arith
lock_high (Fewer ns) = omega arith

lock_low : (l : LockCommand) → lock_kind l ≤ 18
lock_low Release = omega arith
lock_low (Only ns) = omega arith
lock_low (More ns) = omega arith
lock_low (Fewer ns) = omega arith

-- ---- units

locked_back : (job : ℕ) (inside had : Bool) (l : LockCommand) (t : List ℕ) → FitsLock l → deed_at job (4 * lock_kind l + lock_flags inside had) (lock_bytes l ++ t) ≡ Some (Lock job inside l had, t)
unfolding deed_at
locked_back job inside had l t h =
    let flags = lock_flags inside had in
    let few : flags ≤ 3 = flags_low inside had in
    let above : 15 ≤ lock_kind l = lock_high l in
    let below : lock_kind l ≤ 18 = lock_low l in
    let lock : nat_lt (4 * lock_kind l + flags) 76 ≡ true = grind (arith, nat_tests) in
    let not_lone : nat_lt (4 * lock_kind l + flags) 56 ≡ false = grind (arith, nat_tests) in
    let not_whole : ((4 * lock_kind l + flags) == 56) ≡ false = grind (arith, nat_tests) in
    let not_back : ((4 * lock_kind l + flags) == 57) ≡ false = grind (arith, nat_tests) in
    let not_end : ((4 * lock_kind l + flags) == 58) ≡ false = grind (arith, nat_tests) in
    let high : (4 * lock_kind l + flags) / 4 ≡ lock_kind l = tag_high _ _ few in
    let low : (4 * lock_kind l + flags) % 4 ≡ flags = tag_low _ _ few in
    simp (not_lone, not_whole, not_back, not_end, lock, high, low, lock_back l t h, inside_back inside had, had_back inside had)

lone_back_by : (job : ℕ) (c : DataCommand) (a : Answer) (t : List ℕ) → (command_kind c ≤ 13) ⊎ (19 ≤ command_kind c) → FitsCommand c → FitsAnswer a → deed_at job (4 * command_kind c + answer_kind a) ((command_bytes c ++ answer_bytes a) ++ t) ≡ Some (Lone job c a, t)
unfolding deed_at
lone_back_by job c a t (inl some) h k =
    let few : answer_kind a ≤ 3 = answer_low a in
    let lone : nat_lt (4 * command_kind c + answer_kind a) 56 ≡ true = grind (arith, nat_tests) in
    rw lone (rw (answered_back c a t h k) refl)
lone_back_by job c a t (inr some) h k =
    let not_low : nat_lt (4 * command_kind c + answer_kind a) 56 ≡ false = grind (arith, nat_tests) in
    let not_whole : ((4 * command_kind c + answer_kind a) == 56) ≡ false = grind (arith, nat_tests) in
    let not_back : ((4 * command_kind c + answer_kind a) == 57) ≡ false = grind (arith, nat_tests) in
    let not_end : ((4 * command_kind c + answer_kind a) == 58) ≡ false = grind (arith, nat_tests) in
    let not_lock : nat_lt (4 * command_kind c + answer_kind a) 76 ≡ false = grind (arith, nat_tests) in
    rw (not_low, not_whole, not_back, not_end, not_lock) (rw (answered_back c a t h k) refl)

lone_back : (job : ℕ) (c : DataCommand) (a : Answer) (t : List ℕ) → FitsCommand c → FitsAnswer a → deed_at job (4 * command_kind c + answer_kind a) ((command_bytes c ++ answer_bytes a) ++ t) ≡ Some (Lone job c a, t)
lone_back job c a t h k = lone_back_by job c a t (kind_apart c) h k

deed_back : (u : JournalUnit) (t : List ℕ) → FitsDeed u → deed_of (job_of u) (deed_bytes u ++ t) ≡ Some (u, t)
unfolding deed_of deed_at
deed_back (Lone job c a) t h = lone_back job c a t h.0 h.1
deed_back (Whole job es) t h = rw (exchanges_back es t h) refl
deed_back (Lock job inside l had) t h = locked_back job inside had l t h
deed_back (Back job) t h = refl
deed_back (End job) t h = refl

pub unit_back : (u : JournalUnit) (t : List ℕ) → FitsUnit u → unit_at (unit_bytes u ++ t) ≡ Some (u, t)
unfolding unit_at
unit_back u t h =
    let low : 1 ≤ job_of u = h.low in
    let high : job_of u ≤ 4096 = h.high in
    let number : number_at (number_bytes (job_of u) ++ (deed_bytes u ++ t)) ≡ Some (job_of u, deed_bytes u ++ t) = number_back _ _ (record { fits = omega arith }) in
    let job : is_job (job_of u) ≡ true = and_from (nat_le 1 (job_of u)) _ (grind (arith, nat_tests)) (grind (arith, nat_tests)) in
    rw append_assoc (rw number (rw job (deed_back u t h.deed)))
