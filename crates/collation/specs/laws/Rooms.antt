-- Two strings in an array, one after the other: so many bytes of it are the two.
use Rattle.std.proofs.Common.{◌≡◌, ℕ, ◌+◌, List, ◌++◌, length, take, ap, ◌∙◌, arith}
use Rattle.std.proofs.Math.Seq.{take-append-add}
use Rattle.std.proofs.lemmas.List.{take_all, take-append-le}

front : (f more : List ℕ) → take (length f) (f ++ more) ≡ f
front f more = take-append-le (length f) f more (omega arith) ∙ take_all (length f) f (omega arith)

pub filled : (f s one two d e : List ℕ) → one ≡ f → two ≡ s → take (length f + length s) (take (length f) (one ++ d) ++ (two ++ e)) ≡ f ++ s
filled f s one two d e is is_too =
    ap (λ t. take (length f + length s) (take (length f) (t ++ d) ++ (two ++ e))) is
    ∙ ap (λ t. take (length f + length s) (take (length f) (f ++ d) ++ (t ++ e))) is_too
    ∙ ap (λ t. take (length f + length s) (t ++ (s ++ e))) (front f d)
    ∙ take-append-add f (s ++ e) (length s) ∙ ap (λ t. f ++ t) (front s e)
