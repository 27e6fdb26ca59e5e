-- What was written, one text after the other.
use Rattle.std.proofs.Common.{List, ℕ, ◌≡◌, ◌++◌, take, sym, ◌∙◌, subst, Option, Some, None, IfSome, Result, Ok, Err, OnErr}
use Rattle.std.specs.Prelude.{IsErrOf}
use Rattle.std.specs.Result.{IsErrAnd}
use Rattle.std.specs.Io.KnownBytes.{Appends}
use Rattle.listing.specs.Bytes.{WritesBeginning}
use Rattle.listing.specs.laws.Bytes.{Appends-more, WritesBeginning-then}
use Rattle.job_server.specs.declared.fault.JobsFault.{JobsFault}

-- a text was written, and then at most a beginning of the next
pub begun_then : {T E : Type 0} (r : Result T E) (a b c : Option (List ℕ)) (x w y : List ℕ) → x ≡ w → Appends a b x → OnErr r (WritesBeginning b c y) → OnErr r (WritesBeginning a c (w ++ y))
begun_then (Ok v) a b c x w y e h k = tt
begun_then (Err v) a b c x w y e h k = subst (λ (t : List ℕ). WritesBeginning a c (t ++ y)) e (WritesBeginning-then a b c x y h k)

-- the same of a want of memory for the next: the text stands whole, and something behind it
pub whole_then : {T E : Type 0} (r : Result T E) (m : E) (a b c : Option (List ℕ)) (x w y : List ℕ) → x ≡ w → Appends a b x → OnErr r (WritesBeginning b c y) → IsErrOf r m → (behind : List ℕ) × Appends a c (w ++ behind)
whole_then (Ok v) m a b c x w y e h k is = absurd (cc is)
whole_then (Err v) m a b c x w y e h k is = (take k.count y, subst (λ (t : List ℕ). Appends a c (t ++ take k.count y)) e (Appends-more a b c x (take k.count y) h k.bytes))

-- what holds of all that was read
pub if_read : (o : Option (List ℕ)) (text : List ℕ) (P : List ℕ → Type 0) → IfSome o (λ bytes. text ≡ bytes) → P text → IfSome o P
if_read None text P is h = tt
if_read (Some bytes) text P is h = subst P is h

-- what holds of any text
pub if_any : (o : Option (List ℕ)) (P : List ℕ → Type 0) → ((text : List ℕ) → P text) → IfSome o P
if_any None P h = tt
if_any (Some bytes) P h = h bytes

pub error_is : {T E : Type 0} (f m : E) → IsErrOf {T = T} (Err f) m → f ≡ m
error_is f m k = cc

pub is_error : {T E : Type 0} (f m : E) → f ≡ m → IsErrOf {T = T} (Err f) m
is_error f m h = cc

-- a fault that is passed on is the callee's
pub passed_on : {T U : Type 0} (r : Result T JobsFault) (e m : JobsFault) → IsErrAnd r (λ f. f ≡ e) → IsErrOf r m → IsErrOf {T = U} (Err e) m
passed_on (Ok x) e m h k = absurd h
passed_on {T = T} (Err f) e m h k = is_error e m (sym h ∙ error_is {T = T} f m k)
