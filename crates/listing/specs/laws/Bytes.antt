-- What was written, piece after piece.
use Rattle.std.proofs.Common.{◌≡◌, ℕ, ◌+◌, ◌-◌, ◌≤◌, List, [], ◌++◌, length, take, drop, refl, sym, ap, subst, ◌∙◌, arith, append_assoc, append-nil, length-drop, length-append, Option, Some, None, Result, Ok, Err, OnErr}
use Rattle.std.proofs.Math.Seq.{take-add, take-append-add}
use Rattle.std.proofs.lemmas.List.{take_all, take-append-le}
use Rattle.std.specs.Io.KnownBytes.{Appends}
use Rattle.listing.specs.Bytes.{WritesBeginning, WritesFront}

-- nothing more was written
pub Appends-nothing : (a : Option (List ℕ)) → Appends a a []
Appends-nothing None = tt
Appends-nothing (Some xs) = sym (append-nil xs)

-- two texts, one after the other
pub Appends-more : (a b c : Option (List ℕ)) (x y : List ℕ) → Appends a b x → Appends b c y → Appends a c (x ++ y)
Appends-more None b c x y h k = tt
Appends-more (Some xs) None c x y h k = absurd h
Appends-more (Some xs) (Some bs) None x y h k = absurd k
Appends-more (Some xs) (Some bs) (Some cs) x y h k = k ∙ ap (λ l. l ++ y) h ∙ append_assoc xs x y

-- what is left of a text from place n on
pub rest_of : (text : List ℕ) (n : ℕ) → take (length text - n) (drop n text) ≡ drop n text
rest_of text n = take_all (length text - n) (drop n text) (omega (arith, length-drop n text))

-- a piece more of a text was written
pub written_more : (a b c : Option (List ℕ)) (text piece : List ℕ) (i n : ℕ) → Appends a b (take i text) → Appends b c (take n piece) → piece ≡ take (length text - i) (drop i text) → n ≤ length piece → Appends a c (take (i + n) text)
written_more a b c text piece i n h k e l = subst (Appends a c) (joined text piece i n e l) (Appends-more a b c _ _ h k)
  where
    joined : (text piece : List ℕ) (i n : ℕ) → piece ≡ take (length text - i) (drop i text) → n ≤ length piece → take i text ++ take n piece ≡ take (i + n) text
    joined text piece i n e l = ap (λ p. take i text ++ take n p) (e ∙ rest_of text i) ∙ sym (take-add i n text)

-- a text is a beginning of itself
pub WritesBeginning-all : (a c : Option (List ℕ)) (x : List ℕ) → Appends a c x → WritesBeginning a c x
WritesBeginning-all a c x h = record { count = length x; in_range = omega arith; bytes = subst (Appends a c) (sym (take_all (length x) x (omega arith))) h }

-- a beginning of a text is one of each that goes on from it
pub WritesBeginning-longer : (a c : Option (List ℕ)) (x y : List ℕ) → WritesBeginning a c x → WritesBeginning a c (x ++ y)
WritesBeginning-longer a c x y h = record { count = h.count; in_range = omega (arith, h.in_range, length-append x y); bytes = subst (Appends a c) (sym (take-append-le h.count x y h.in_range)) h.bytes }

-- a text and then a beginning of the next
pub WritesBeginning-then : (a b c : Option (List ℕ)) (x y : List ℕ) → Appends a b x → WritesBeginning b c y → WritesBeginning a c (x ++ y)
WritesBeginning-then a b c x y h k = record {
  count = length x + k.count;
  in_range = omega (arith, k.in_range, length-append x y);
  bytes = subst (Appends a c) (sym (take-append-add x y k.count)) (Appends-more a b c x (take k.count y) h k.bytes);
}

-- what holds anyhow holds at an error
pub on_err : {T E : Type 0} (r : Result T E) (P : Type 0) → P → OnErr r P
on_err (Ok x) P p = tt
on_err (Err e) P p = p

-- nothing was written, and all is gathered still
pub Passes-none : (a : Option (List ℕ)) (x : List ℕ) → WritesFront a a x x
Passes-none a x = record { written = []; appended = Appends-nothing a; rest = refl }

-- all was written
pub Passes-all : (a b : Option (List ℕ)) (x y : List ℕ) → Appends a b x → y ≡ [] → WritesFront a b x y
Passes-all a b x y h e = record { written = x; appended = h; rest = sym (append-nil x) ∙ ap (λ (l : List ℕ). x ++ l) (sym e) }

-- more was gathered
pub Passes-more : (a b : Option (List ℕ)) (x y more : List ℕ) → WritesFront a b x y → WritesFront a b (x ++ more) (y ++ more)
Passes-more a b x y more h = record {
  written = h.written;
  appended = h.appended;
  rest = ap (λ (l : List ℕ). l ++ more) h.rest ∙ append_assoc h.written y more;
}

-- and of what is gathered more was written
pub Passes-then : (a b c : Option (List ℕ)) (x y z : List ℕ) → WritesFront a b x y → WritesFront b c y z → WritesFront a c x z
Passes-then a b c x y z h k = record {
  written = h.written ++ k.written;
  appended = Appends-more a b c h.written k.written h.appended k.appended;
  rest = h.rest ∙ ap (λ (l : List ℕ). h.written ++ l) k.rest ∙ sym (append_assoc h.written k.written z);
}

-- all was written in the end
pub Passes-Appends : (a b c : Option (List ℕ)) (x y : List ℕ) → WritesFront a b x y → Appends b c y → Appends a c x
Passes-Appends a b c x y h k = subst (Appends a c) (sym h.rest) (Appends-more a b c h.written y h.appended k)

-- a beginning of what was gathered was written
pub Passes-begun : (a b c : Option (List ℕ)) (x y : List ℕ) → WritesFront a b x y → WritesBeginning b c y → WritesBeginning a c x
Passes-begun a b c x y h k = subst (WritesBeginning a c) (sym h.rest) (WritesBeginning-then a b c h.written y h.appended k)
