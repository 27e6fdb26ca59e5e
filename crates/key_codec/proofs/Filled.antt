-- What is after a string in an array, and after two of them, is zeros.
use Rattle.std.proofs.Common.{◌≡◌, ℕ, ◌+◌, ◌-◌, ◌≤◌, List, ◌++◌, length, take, drop, ap, ◌∙◌, sym, arith}
use Rattle.std.specs.Prelude.{replicate}
use Rattle.std.proofs.Math.Seq.{drop-append-add}
use Rattle.std.proofs.lemmas.List.{drop-replicate, length-take-le, length-append}
use Rattle.std.proofs.lemmas.Slice.{drop-append-drop}
use borrow.Rule.Slice.PartMut.{post_of}

past_both : (xs ys zs : List ℕ) (m n : ℕ) → length xs ≡ m → length ys ≡ n → drop (m + n) (xs ++ (ys ++ zs)) ≡ zs
past_both xs ys zs m n long wide =
    let n_is : n ≡ length ys + 0 = omega (arith, wide) in
    ap (λ k. drop (k + n) (xs ++ (ys ++ zs))) (sym long) ∙ drop-append-add xs (ys ++ zs) n ∙ ap (λ k. drop k (ys ++ zs)) n_is ∙ drop-append-add ys zs 0

zeros_left : (m n room : ℕ) → m + n ≤ room → drop {A = ℕ} (m + n - m) (drop m (replicate room 0)) ≡ replicate (room - (m + n)) 0
zeros_left m n room fits =
    let none : ℕ = 0 in
    let left : room - m - (m + n - m) ≡ room - (m + n) = omega (arith, fits) in
    ap (drop (m + n - m)) (drop-replicate m room none) ∙ drop-replicate (m + n - m) (room - m) none ∙ ap (λ k. replicate k none) left

-- what is after them is as it was: the rest of the zeros
pub rest_filled : (f s one two : List ℕ) (room : ℕ) → one ≡ f → two ≡ s → length f + length s ≤ room
    → drop (length f + length s) (take (length f) (one ++ drop (length f) (replicate room 0)) ++ (two ++ post_of (length f) (length f + length s - length f) (one ++ drop (length f) (replicate room 0)))) ≡ replicate (room - (length f + length s)) 0
rest_filled f s one two room is is_too fits = behind (replicate room 0)
    ∙ ap (drop (length f + length s - length f)) (drop-append-drop (length f) (replicate room 0) one (length f) (omega arith) (ap length is))
    ∙ zeros_left (length f) (length s) room fits
  where
    behind : (zeros : List ℕ) → drop (length f + length s) (take (length f) (one ++ drop (length f) zeros) ++ (two ++ post_of (length f) (length f + length s - length f) (one ++ drop (length f) zeros))) ≡ post_of (length f) (length f + length s - length f) (one ++ drop (length f) zeros)
    behind zeros =
        let long = length-append one (drop (length f) zeros) in
        let one_is : length one ≡ length f = ap length is in
        past_both (take (length f) (one ++ drop (length f) zeros)) two (post_of (length f) (length f + length s - length f) (one ++ drop (length f) zeros)) (length f) (length s)
        (length-take-le (length f) (one ++ drop (length f) zeros) (omega (arith, long, one_is))) (ap length is_too)

-- one alone
pub one_filled : (f one : List ℕ) (room : ℕ) → one ≡ f → drop (length f) (one ++ drop (length f) (replicate room 0)) ≡ replicate (room - length f) 0
one_filled f one room is =
    let none : ℕ = 0 in
    drop-append-drop (length f) (replicate room 0) one (length f) (omega arith) (ap length is) ∙ drop-replicate (length f) room none
