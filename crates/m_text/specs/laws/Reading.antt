-- What is read with more before it.
use Rattle.std.proofs.Common.{◌≡◌, ℕ, List, [], ◌++◌, Option, Some, None, refl, sym, ap, append_assoc}
use Rattle.refusal.specs.declared.Refusal.{Refusal}
use Rattle.refusal.specs.declared.Refusal.TheVariants.{BadLine, OutOfMemory}
use Rattle.m_text.specs.Reading.{with_front, rest_of, IsUnread, IsRefusedAlways}

pub with_front-nil : {A : Type 0} → (read : Option (List A × List ℕ)) → with_front [] read ≡ read
with_front-nil None = refl
with_front-nil (Some x) = refl

pub with_front-append : {A : Type 0} → (a b : List A) (read : Option (List A × List ℕ)) → with_front a (with_front b read) ≡ with_front (a ++ b) read
with_front-append a b None = refl
with_front-append a b (Some x) = ap (λ xs. Some (xs, x.1)) (sym (append_assoc a b x.0))

pub rest_of-front : {A : Type 0} → (a : List A) (read : Option (List A × List ℕ)) → rest_of (with_front a read) ≡ rest_of read
rest_of-front a None = refl
rest_of-front a (Some x) = refl

-- where nothing is read of one thing, and so nothing of another, the refusal is that of both
pub refused_too : {Y Z : Type 0} → (refusal : Refusal) (a : Option Y) (b : Option Z) → (a ≡ None → b ≡ None) → IsUnread refusal a → IsUnread refusal b
refused_too BadLine a b f h = f h
refused_too OutOfMemory a b f h = tt
refused_too refusal a b f h = absurd h

pub refused_always_too : {Y Z : Type 0} → (refusal : Refusal) (a : Option Y) (b : Option Z) → (a ≡ None → b ≡ None) → IsRefusedAlways refusal a → IsRefusedAlways refusal b
refused_always_too BadLine a b f h = f h
refused_always_too refusal a b f h = absurd h
