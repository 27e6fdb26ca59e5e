-- A list in which changes are made from its front on.
use Rattle.std.proofs.Common.{◌≡◌, ℕ, ◌+◌, ◌-◌, ◌≤◌, ◌<◌, ◌⊎◌, inl, inr, List, [], ◌∷◌, ◌++◌, length, take, drop, false, refl, sym, ap, subst, ◌∙◌, arith, append_assoc, append-nil, suc}
use Rattle.std.specs.Prelude.{nat_lt, slice_index_or, slice_set}
use Rattle.std.proofs.lemmas.List.{drop_more, length-drop, take_more_set, take-set, take-set-le, drop-set-lt, drop-set, length-set}
use Rattle.std.proofs.lemmas.Bool.{cases_lt, ltb-false}
use Rattle.collation.specs.Reference.{Reference}
use Rattle.journal.specs.Merging.{Parted, parted, KeepsPlaces, IsKept, IsSet, IsPassed}

abbrev Node : Type 0
Node = Reference × List ℕ

-- ---- lists

-- what is left begins with the element at its place
pub first_left : {X : Type 0} (xs : List X) (n : ℕ) (e : X) (rest : List X) → drop n xs ≡ e ∷ rest → (n < length xs) × (((d : X) → slice_index_or xs n d ≡ e) × (drop (n + 1) xs ≡ rest))
first_left xs n e rest h =
    let l : length xs - n ≡ suc (length rest) = sym (length-drop n xs) ∙ ap length h in
    let lt : n < length xs = omega arith in
    (lt, ((λ d. (let b : slice_index_or xs n d ∷ drop (n + 1) xs ≡ e ∷ rest = sym (drop_more xs n d lt) ∙ h in cc)), (let b : slice_index_or xs n e ∷ drop (n + 1) xs ≡ e ∷ rest = sym (drop_more xs n e lt) ∙ h in cc)))

pub none_waits : (q : List Node) → nat_lt 0 (length q) ≡ false → q ≡ []
none_waits [] h = refl
none_waits (x ∷ q) h = let l : length (x ∷ q) ≤ 0 = ltb-false 0 (length (x ∷ q)) h in absurd (omega arith)

moved_at : {X : Type 0} (ns : List X) (done next : ℕ) (e b : X) → done ≤ next → next < length ns → (done ≡ next → b ≡ e) → take (done + 1) (slice_set (slice_set ns done e) next b) ≡ take done ns ++ e ∷ []
moved_at ns done next e b between lt same = elim (cases_lt done next) [
  | inl before ↦ take-set-le (done + 1) (slice_set ns done e) next b (omega arith) ∙ take_more_set ns done e (omega arith)
  | inr after ↦
      let here : done ≡ next = omega arith in
      ap (λ n. take (n + 1) (slice_set (slice_set ns done e) next b)) here ∙ take_more_set (slice_set ns done e) next b (subst (λ n. next < n) (sym (length-set ns done e)) lt)
      ∙ ap (λ n. take next (slice_set ns n e) ++ b ∷ []) here ∙ ap (λ xs. xs ++ b ∷ []) (take-set ns next e) ∙ ap (λ n. take n ns ++ b ∷ []) (sym here) ∙ ap (λ x. take done ns ++ x ∷ []) (same here)
]

-- ---- the steps

pub kept_back : (old : Parted) (ns ms q : List Node) (done next room places seats : ℕ) → parted ns q done next room ≡ old → KeepsPlaces ns q done next room places seats → old.waits ≡ false →
    ((d : Node) → ms ≡ slice_set (slice_set ns done (slice_index_or ns next d)) next (slice_index_or ns done d)) → IsKept old (parted ms q (done + 1) (next + 1) room)
kept_back old ns ms q done next room places seats is k none made = subst (λ (o : Parted). o.waits ≡ false → IsKept o (parted ms q (done + 1) (next + 1) room)) is (λ w. (
  refl,
  λ e rest first.
      let f = first_left ns next e rest first in
      let empty : q ≡ [] = none_waits q w in
      let now : ms ≡ slice_set (slice_set ns done e) next (slice_index_or ns done e) = made e ∙ ap (λ x. slice_set (slice_set ns done x) next (slice_index_or ns done e)) (f.1.0 e) in
      let front : take (done + 1) ms ≡ take done ns ++ e ∷ [] = ap (take (done + 1)) now ∙ moved_at ns done next e (slice_index_or ns done e) k.between f.0 (λ here. ap (λ n. slice_index_or ns n e) here ∙ f.1.0 e) in
      let behind : drop (next + 1) ms ≡ drop (next + 1) ns = ap (drop (next + 1)) now ∙ drop-set-lt (next + 1) (slice_set ns done e) next (slice_index_or ns done e) (omega arith) ∙ drop-set-lt (next + 1) ns done e (omega (arith, k.between)) in
      (ap (λ xs. take (done + 1) ms ++ xs) empty ∙ append-nil (take (done + 1) ms) ∙ front ∙ ap (λ xs. xs ++ e ∷ []) (sym (ap (λ xs. take done ns ++ xs) empty ∙ append-nil (take done ns))), behind ∙ f.1.1),
)) none

-- a place further
pub places_back : (ns ms q : List Node) (done next room places seats new_places : ℕ) → KeepsPlaces ns q done next room places seats → nat_lt 0 (length q) ≡ false → next < length ns → length ms ≡ length ns → new_places ≡ places → KeepsPlaces ms q (done + 1) (next + 1) room new_places seats
places_back ns ms q done next room places seats new_places k none some e p =
    let b = k.between in let l = k.places_left in record { between = omega arith; within = omega arith; waits = inl (none_waits q none); places_left = omega arith; seats_left = k.seats_left }

waits_there : (q : List Node) (done next : ℕ) (x : Node) (r : List Node) → (q ≡ []) ⊎ (done ≡ next) → q ≡ x ∷ r → done ≡ next
waits_there q done next x r (inl none) is = let e : [] ≡ x ∷ r = sym none ∙ is in absurd (cc)
waits_there q done next x r (inr e) is = e

pub kept_behind : (old : Parted) (ns ms q r last : List Node) (x y : Node) (done next room places seats : ℕ) → parted ns q done next room ≡ old → KeepsPlaces ns q done next room places seats → q ≡ x ∷ r →
    ((d : Node) → y ≡ slice_index_or ns next d) → ms ≡ slice_set ns next x → last ≡ r ++ y ∷ [] → IsKept old (parted ms last (done + 1) (next + 1) room)
kept_behind old ns ms q r last x y done next room places seats is k waits there made pushed = subst (λ (o : Parted). IsKept o (parted ms last (done + 1) (next + 1) room)) is (
  refl,
  λ e rest first.
      let f = first_left ns next e rest first in
      let here : done ≡ next = waits_there q done next x r k.waits waits in
      let front : take (done + 1) ms ≡ take done ns ++ x ∷ [] = ap (take (done + 1)) made ∙ ap (λ n. take (done + 1) (slice_set ns n x)) (sym here) ∙ take_more_set ns done x (omega (arith, f.0, here)) in
      let at : y ≡ e = there e ∙ f.1.0 e in (
        ap (λ xs. xs ++ last) front ∙ ap (λ xs. (take done ns ++ x ∷ []) ++ xs) (pushed ∙ ap (λ z. r ++ z ∷ []) at) ∙ append_assoc (take done ns) (x ∷ []) (r ++ e ∷ []) ∙ sym (append_assoc (take done ns) (x ∷ r) (e ∷ [])) ∙ ap (λ xs. (take done ns ++ xs) ++ e ∷ []) (sym waits),
        ap (drop (next + 1)) made ∙ drop-set-lt (next + 1) ns next x (omega arith) ∙ f.1.1,
      ),
)

pub passed_behind : (old : Parted) (ns ms q r : List Node) (x : Node) (done next room places seats : ℕ) → parted ns q done next room ≡ old → KeepsPlaces ns q done next room places seats → q ≡ x ∷ r → next < length ns → ms ≡ slice_set ns next x → IsPassed old (parted ms r (done + 1) (next + 1) room)
passed_behind old ns ms q r x done next room places seats is k waits some made = subst (λ (o : Parted). IsPassed o (parted ms r (done + 1) (next + 1) room)) is
    (let here : done ≡ next = waits_there q done next x r k.waits waits in
    let front : take (done + 1) ms ≡ take done ns ++ x ∷ [] = ap (take (done + 1)) made ∙ ap (λ n. take (done + 1) (slice_set ns n x)) (sym here) ∙ take_more_set ns done x (omega (arith, some, here)) in (
      refl,
      (
        ap (λ xs. xs ++ r) front ∙ append_assoc (take done ns) (x ∷ []) r ∙ ap (λ xs. take done ns ++ xs) (sym waits),
        λ e rest first. ap (drop (next + 1)) made ∙ drop-set-lt (next + 1) ns next x (omega arith) ∙ (first_left ns next e rest first).1.1,
      ),
    ))

pub passed_by : (old : Parted) (ns q : List Node) (done next room : ℕ) → parted ns q done next room ≡ old → IsPassed old (parted ns q done (next + 1) room)
passed_by old ns q done next room is = subst (λ (o : Parted). IsPassed o (parted ns q done (next + 1) room)) is (refl, (refl, λ e rest first. (first_left ns next e rest first).1.1))

pub set_there : (old new : Parted) (ns ms q : List Node) (v : List ℕ) (done next room : ℕ) → parted ns q done next room ≡ old → ((d : Node) → ms ≡ slice_set ns next ((slice_index_or ns next d).0, v)) → done ≤ next → IsKept (parted ms q done next room) new → IsSet v old new
set_there old new ns ms q v done next room is made between kept = subst (λ (o : Parted). IsSet v o new) is (
  kept.0,
  λ e rest first.
      let f = first_left ns next e rest first in
      let now : ms ≡ slice_set ns next (e.0, v) = made e ∙ ap (λ (x : Node). slice_set ns next (x.0, v)) (f.1.0 e) in
      let there : drop next ms ≡ (e.0, v) ∷ rest = ap (drop next) now ∙ drop-set ns next (e.0, v) f.0 ∙ ap (λ xs. (e.0, v) ∷ xs) f.1.1 in
      let k = kept.1 (e.0, v) rest there in
      (k.0 ∙ ap (λ xs. (xs ++ q) ++ (e.0, v) ∷ []) (ap (take done) now ∙ take-set-le done ns next (e.0, v) between), k.1),
)

pub set_places : (ns ms q : List Node) (done next room places seats new_places : ℕ) (x : Node) → KeepsPlaces ns q done next room places seats → ms ≡ slice_set ns next x → new_places ≡ places → KeepsPlaces ms q done next room new_places seats
set_places ns ms q done next room places seats new_places x k made p =
    let e : length ms ≡ length ns = ap length made ∙ length-set ns next x in
    let w = k.within in let l = k.places_left in record { between = k.between; within = omega arith; waits = k.waits; places_left = omega arith; seats_left = k.seats_left }

pub some_left : (ns ms : List Node) (next : ℕ) (x : Node) → ms ≡ slice_set ns next x → 0 < length (drop next ns) → 0 < length (drop next ms)
some_left ns ms next x made some =
    let a = length-drop next ns in let b = length-drop next ms in let e : length ms ≡ length ns = ap length made ∙ length-set ns next x in omega arith

pub next_there : (old : Parted) (ns q : List Node) (done next room : ℕ) → parted ns q done next room ≡ old → 0 < length old.left → next < length ns
next_there old ns q done next room is some =
    let l : length (drop next ns) ≡ length ns - next = length-drop next ns in
    let same : length (drop next ns) ≡ length old.left = ap (λ (o : Parted). length o.left) is in
    omega arith

pub back_length : (ns ms : List Node) (done next : ℕ) → next < length ns → ((d : Node) → ms ≡ slice_set (slice_set ns done (slice_index_or ns next d)) next (slice_index_or ns done d)) → length ms ≡ length ns
back_length [] ms done next some made = absurd (omega arith)
back_length (x ∷ ns) ms done next some made =
    ap length (made x) ∙ length-set (slice_set (x ∷ ns) done (slice_index_or (x ∷ ns) next x)) next (slice_index_or (x ∷ ns) done x) ∙ length-set (x ∷ ns) done (slice_index_or (x ∷ ns) next x)

pub set_at : (ns ms : List Node) (next : ℕ) (v : List ℕ) → 0 < length (drop next ns) → ((d : Node) → ms ≡ slice_set ns next ((slice_index_or ns next d).0, v)) → (x : Node) × (ms ≡ slice_set ns next x)
set_at ns ms next v some made = by_first (drop next ns) refl some
  where
    by_first : (xs : List Node) → drop next ns ≡ xs → 0 < length xs → (x : Node) × (ms ≡ slice_set ns next x)
    by_first [] is h = absurd (omega arith)
    by_first (e ∷ rest) is h = (((slice_index_or ns next e).0, v), made e)
