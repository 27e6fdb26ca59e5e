-- What stood in a buffer stays there, write after write.
use Rattle.std.proofs.Common.{◌≡◌, ℕ, List, [], ◌++◌, length, take, Result, Ok, Err, OnOk, OnErr, sym, ap, ◌∙◌, append_assoc}
use Rattle.std.proofs.lemmas.List.{append-nil, take_at}
use Rattle.key_codec.specs.Grown.{GoesOnFrom}

-- nothing was written
pub goes_on_none : (old new : List ℕ) → new ≡ old → GoesOnFrom old new
goes_on_none old new e = record { more = []; split = e ∙ sym (append-nil old) }

-- a text was written
pub goes_on_more : (old new text : List ℕ) → new ≡ old ++ text → GoesOnFrom old new
goes_on_more old new text e = record { more = text; split = e }

-- and then more
pub goes_on_then : (old mid new : List ℕ) → GoesOnFrom old mid → GoesOnFrom mid new → GoesOnFrom old new
goes_on_then old mid new h k = record { more = h.more ++ k.more; split = k.split ∙ ap (λ (t : List ℕ). t ++ k.more) h.split ∙ append_assoc old h.more k.more }

-- a text was written, or nothing
pub goes_on_either : {T E : Type 0} (r : Result T E) (old new text : List ℕ) → OnOk r (new ≡ old ++ text) → OnErr r (new ≡ old) → GoesOnFrom old new
goes_on_either (Ok x) old new text h k = goes_on_more old new text h
goes_on_either (Err e) old new text h k = goes_on_none old new k

-- what was added is taken away again
pub back_to : (old mid new : List ℕ) (n : ℕ) → GoesOnFrom old mid → n ≡ length old → new ≡ take n mid → new ≡ old
back_to old mid new n h e f = f ∙ ap (take n) h.split ∙ take_at old h.more n (sym e)

pub ruleset goes_on = (goes_on_none, goes_on_more, goes_on_then)
