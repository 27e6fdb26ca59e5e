-- What was read, piece after piece.
use Rattle.std.proofs.Common.{◌≡◌, ℕ, List, [], ◌++◌, sym, ap, ◌∙◌, append_assoc, append-nil, take, refl, subst, Option, Some, None, IfSome}
use Rattle.std.specs.Io.KnownBytes.{Consumes, IsAtEnd}

pub consumes_more : (a b c : Option (List ℕ)) (x y : List ℕ) → Consumes a b x → Consumes b c y → Consumes a c (x ++ y)
consumes_more None b c x y h k = tt
consumes_more (Some xs) None c x y h k = absurd h
consumes_more (Some xs) (Some bs) None x y h k = absurd k
consumes_more (Some xs) (Some bs) (Some cs) x y h k = h ∙ ap (λ (l : List ℕ). x ++ l) k ∙ sym (append_assoc x y cs)

pub consumes_none : (a : Option (List ℕ)) → Consumes a a []
consumes_none None = tt
consumes_none (Some xs) = refl

pub consumed_all : (a b : Option (List ℕ)) (x : List ℕ) → Consumes a b x → IsAtEnd b → IfSome a (λ (bytes : List ℕ). x ≡ bytes)
consumed_all None b x h e = tt
consumed_all (Some xs) None x h e = absurd h
consumed_all (Some xs) (Some ys) x h e = sym (h ∙ ap (λ (l : List ℕ). x ++ l) e ∙ append-nil x)

-- all was read, once nothing comes
pub ended : (a b c : Option (List ℕ)) (x p : List ℕ) (n : ℕ) → Consumes a b x → Consumes b c (take n p) → n ≡ 0 → IsAtEnd c → IfSome a (λ (bytes : List ℕ). x ≡ bytes)
ended a b c x p n h k z e = consumed_all a c x (subst (λ (t : List ℕ). Consumes a c t) (ap (λ m. x ++ take m p) z ∙ append-nil x) (consumes_more a b c x (take n p) h k)) e
