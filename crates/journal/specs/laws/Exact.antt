-- What reads as a unit is what is written of it.
use Rattle.std.proofs.Common.{◌≡◌, ℕ, ◌+◌, ◌*◌, ◌/◌, ◌%◌, ◌≤◌, ◌<◌, ◌^◌, ◌⊎◌, inl, inr, Bool, List, [], ◌∷◌, ◌++◌, length, true, false, zero, suc, refl, ap, sym, subst, ◌∙◌, arith, Option, Some, None, eqb-true, leb-true}
use Rattle.std.proofs.lemmas.Bool.Decides.{nat_tests}
use Rattle.std.proofs.lemmas.Option.{option_and_then_some, none-some, same_Some}
use Rattle.std.specs.Prelude.{◌==◌, nat_lt, nat_le, ◌&&◌, if◌then◌else◌}
use Rattle.std.specs.Cmp.{first_so, second_so}
use Rattle.std.specs.List.{flat_map}
use Rattle.collation.specs.Limits.{is_job, most_jobs}
use Rattle.collation.specs.Name.{is_name}
use Rattle.collation.specs.Reference.{Reference, Resource}
use Rattle.collation.specs.declared.direction.Direction.{Direction}
use Rattle.collation.specs.declared.direction.Direction.TheVariants.{Forward, Backward}
use Rattle.lock_name.specs.declared.lock.LockCommand.{LockCommand}
use Rattle.lock_name.specs.declared.lock.LockCommand.TheVariants.{Release, Only, More, Fewer}
use Rattle.command.specs.declared.access.Extent.{Extent}
use Rattle.command.specs.declared.access.Extent.TheVariants.{All, Value as ValueAlone, Below}
use Rattle.command.specs.declared.access.DataCommand.TheVariants.{Set, Kill, Merge, Increment, Look}
use Rattle.command.specs.declared.access.Look.{Look as LookCommand}
use Rattle.command.specs.declared.access.Look.TheVariants.{Data, Get, Order, Query, Name}
use Rattle.command.specs.declared.access.Answer.{Answer}
use Rattle.command.specs.declared.access.Answer.TheVariants.{Done, Value, Number, Found}
use Rattle.journal.specs.declared.unit.Exchange.{Exchange}
use Rattle.journal.specs.declared.unit.Unit.{Unit as JournalUnit}
use Rattle.journal.specs.declared.unit.Unit.TheVariants.{Lone, Whole, Lock, Back, End}
use Rattle.journal.specs.Statements.{AreBytes, UnitsAreReadExactly}
use Rattle.journal.specs.Format.{number_bytes, string_bytes, reference_bytes, caret_byte, name_bytes, names_bytes, order_kind, query_kind, name_kind, start_bytes, look_kind, look_bytes, kill_kind, command_kind, command_bytes, answer_kind, answer_bytes, exchange_bytes, lock_flags, lock_kind, lock_bytes, deed_bytes, unit_bytes}
use Rattle.journal.specs.Kept.{job_of}
use Rattle.journal.specs.Reading.{◌>>=◌, number_at, string_at, reference_at, caret_of, name_at, names_at, set_at, kill_at, merge_at, data_at, get_at, get_else_at, increment_at, order_at, query_at, named_at, name_from_at, end_name_at, next_name_at, traversal_at, looks_at, looking_at, later_command_at, data_command_at, value_answer_at, count_at, found_at, answer_at, answered_at, exchange_at, named_lock_at, lock_command_at, exchanges_at, lone_at, whole_at, locked_at, deed_at, deed_of, unit_at, is_inside, has_had}
use Rattle.journal.specs.Stored.{FitsNumber, FitsString, FitsReference, FitsName, FitNames, FitsLook, FitsCommand, FitsAnswer, FitsExchange, FitExchanges, FitsLock, FitsDeed, FitsUnit}
use Rattle.journal.specs.laws.ExactParts.{IsRead, IsExact, HasNumber, either_way, if_so, as_found, in_turn, at_number, other_bytes, number_exact, string_exact, reference_exact, list_exact}

-- ---- lock names

caret_by : (b : ℕ) (c : Bool) → (b == 1) ≡ c → b ≤ 1 → caret_byte c ≡ b
caret_by b true e h = sym (eqb-true b 1 e)
caret_by b false e h = grind (arith, nat_tests)

caret_exact : (b : ℕ) → b ≤ 1 → caret_byte (caret_of b) ≡ b
caret_exact b h = caret_by b (caret_of b) refl h

name_read : (b : ℕ) (bytes rest : List ℕ) (r : Reference) → b ≤ 1 → IsRead reference_bytes FitsReference bytes r rest → IsRead name_bytes FitsName (b ∷ bytes) (record { has_caret = caret_of b; reference = r }) rest
name_read b bytes rest r low h =
    record {
      written = ap (λ t. b ∷ t) h.written ∙ ap (λ c. c ∷ (reference_bytes r ++ rest)) (sym (caret_exact b low));
      fits = record { reference = h.fits };
      others = h.others;
    }

name_exact : IsExact name_at name_bytes FitsName
unfolding name_at
name_exact [] rest x h e = absurd (none-some _ e)
name_exact (b ∷ bytes) rest x h e =
    if_so (nat_le b 1) _ _ e λ low given.
    option_and_then_some _ (reference_at bytes) _ given λ r reference found.
    as_found name_bytes FitsName (b ∷ bytes) (record { has_caret = caret_of b; reference = r.0 }) x r.1 rest found (name_read b bytes r.1 r.0 (leb-true _ _ low) (reference_exact bytes r.1 r.0 (other_bytes b bytes h) reference))

names_exact : IsExact names_at names_bytes FitNames
unfolding names_at
names_exact bytes rest ns h e =
    option_and_then_some _ (number_at bytes) _ e λ n number found.
    let a = number_exact bytes n.1 n.0 h number in
    let b = list_exact name_at name_bytes FitsName name_exact n.0 n.1 rest ns a.others found in
    record {
      written = in_turn bytes (number_bytes (length ns)) n.1 (flat_map name_bytes ns) rest (a.written ∙ ap (λ m. number_bytes m ++ n.1) b.fits.is) b.written;
      fits = record { count = subst (λ m. m < 2 ^ 64) b.fits.is a.fits.fits; each = b.fits.fits };
      others = b.others;
    }

-- ---- data commands and answers

-- one reference, and what is made of it
by_reference : {A : Type 0} (write : A → List ℕ) (Fits : A → Type 0) (make : Reference → A) → ((r : Reference) → write (make r) ≡ reference_bytes r) → ((r : Reference) → FitsReference r → Fits (make r)) →
    IsExact (λ bytes. reference_at bytes >>= λ r. Some (make r.0, r.1)) write Fits
by_reference write Fits make writes fits bytes rest x h e =
    option_and_then_some _ (reference_at bytes) _ e λ r reference found.
    let a = reference_exact bytes r.1 r.0 h reference in
    as_found write Fits bytes (make r.0) x r.1 rest found (record { written = a.written ∙ ap (λ t. t ++ r.1) (sym (writes r.0)); fits = fits r.0 a.fits; others = a.others })

-- a reference and a string
by_string : {A : Type 0} (write : A → List ℕ) (Fits : A → Type 0) (make : Reference → List ℕ → A) →
    ((r : Reference) (s : List ℕ) → write (make r s) ≡ reference_bytes r ++ string_bytes s) → ((r : Reference) (s : List ℕ) → FitsReference r → FitsString s → Fits (make r s)) →
    IsExact (λ bytes. reference_at bytes >>= λ r. string_at r.1 >>= λ v. Some (make r.0 v.0, v.1)) write Fits
by_string write Fits make writes fits bytes rest x h e =
    option_and_then_some _ (reference_at bytes) _ e λ r reference given.
    option_and_then_some _ (string_at r.1) _ given λ v string found.
    let a = reference_exact bytes r.1 r.0 h reference in
    let b = string_exact r.1 v.1 v.0 a.others string in
    as_found write Fits bytes (make r.0 v.0) x v.1 rest found (record {
      written = in_turn bytes (reference_bytes r.0) r.1 (string_bytes v.0) v.1 a.written b.written ∙ ap (λ t. t ++ v.1) (sym (writes r.0 v.0));
      fits = fits r.0 v.0 a.fits b.fits;
      others = b.others;
    })

set_exact : IsExact set_at command_bytes (HasNumber 0 command_kind FitsCommand)
set_exact = by_string command_bytes (HasNumber 0 command_kind FitsCommand) Set (λ r s. refl) λ r s h k. record { is = refl; fits = (h, k) }

kill_exact : (extent : Extent) → IsExact (kill_at extent) command_bytes (HasNumber (kill_kind extent) command_kind FitsCommand)
kill_exact extent = by_reference command_bytes (HasNumber (kill_kind extent) command_kind FitsCommand) (λ r. Kill r extent) (λ r. refl) λ r h. record { is = refl; fits = h }

increment_exact : IsExact increment_at command_bytes (HasNumber 21 command_kind FitsCommand)
increment_exact = by_string command_bytes (HasNumber 21 command_kind FitsCommand) Increment (λ r s. refl) λ r s h k. record { is = refl; fits = (h, k) }

merge_exact : IsExact merge_at command_bytes (HasNumber 2 command_kind FitsCommand)
merge_exact bytes rest c h e =
    option_and_then_some _ (reference_at bytes) _ e λ r first given.
    option_and_then_some _ (reference_at r.1) _ given λ s second found.
    let a = reference_exact bytes r.1 r.0 h first in
    let b = reference_exact r.1 s.1 s.0 a.others second in
    as_found command_bytes (HasNumber 2 command_kind FitsCommand) bytes (Merge r.0 s.0) c s.1 rest found (record {
      written = in_turn bytes (reference_bytes r.0) r.1 (reference_bytes s.0) s.1 a.written b.written;
      fits = record { is = refl; fits = (a.fits, b.fits) };
      others = b.others;
    })

-- a look of this kind
abbrev IsLook : ℕ → LookCommand → Type 0
IsLook kind = HasNumber kind look_kind FitsLook

data_exact : IsExact data_at look_bytes (IsLook 3)
data_exact = by_reference look_bytes (IsLook 3) Data (λ r. refl) λ r h. record { is = refl; fits = h }

get_exact : IsExact get_at look_bytes (IsLook 4)
get_exact = by_reference look_bytes (IsLook 4) (λ r. Get r None) (λ r. refl) λ r h. record { is = refl; fits = h }

get_else_exact : IsExact get_else_at look_bytes (IsLook 5)
get_else_exact = by_string look_bytes (IsLook 5) (λ r s. Get r (Some s)) (λ r s. refl) λ r s h k. record { is = refl; fits = (h, k) }

order_exact : (b : Bool) (d : Direction) → IsExact (order_at b d) look_bytes (IsLook (order_kind b d))
order_exact b d = by_reference look_bytes (IsLook (order_kind b d)) (λ r. Order (record { reference = r; is_open = b }) d) (λ r. refl) λ r h. record { is = refl; fits = h }

query_exact : (b : Bool) (d : Direction) → IsExact (query_at b d) look_bytes (IsLook (query_kind b d))
query_exact b d = by_reference look_bytes (IsLook (query_kind b d)) (λ r. Query (record { reference = r; is_open = b }) d) (λ r. refl) λ r h. record { is = refl; fits = h }

-- a string that is a name
named_exact_if : (s : List ℕ × List ℕ) (b : Bool) (x : List ℕ × List ℕ) → is_name s.0 ≡ b → ◌≡◌ {A = Option (List ℕ × List ℕ)} (if b then Some s else None) (Some x) → (s ≡ x) × (is_name s.0 ≡ true)
named_exact_if s true x is e = (same_Some _ _ e, is)
named_exact_if s false x is e = absurd (none-some _ e)

name_from_exact : (d : Direction) (n : ℕ) → ((s : List ℕ) → n ≡ name_kind (Some s) d) → IsExact (name_from_at d) look_bytes (IsLook n)
unfolding named_at
name_from_exact d n is bytes rest l h e =
    option_and_then_some _ (named_at bytes) _ e λ x named found.
    option_and_then_some _ (string_at bytes) _ named λ s string given.
    let parts = named_exact_if s (is_name s.0) x refl given in
    let a = string_exact bytes s.1 s.0 h string in
    let read : IsRead look_bytes (IsLook n) bytes (Name (Some s.0) d) s.1 = record { written = a.written; fits = record { is = is s.0; fits = (a.fits, parts.1) }; others = a.others } in
    as_found look_bytes (IsLook n) bytes (Name (Some x.0) d) l x.1 rest found (subst (λ (y : List ℕ × List ℕ). IsRead look_bytes (IsLook n) bytes (Name (Some y.0) d) y.1) parts.0 read)

end_name_exact : (d : Direction) → IsExact (end_name_at d) look_bytes (IsLook (name_kind None d))
end_name_exact d bytes rest l h e = as_found look_bytes (IsLook (name_kind None d)) bytes (Name None d) l bytes rest e (record { written = refl; fits = record { is = refl; fits = tt }; others = h })

-- a reader chosen by the kind, or one of those after it
by_kind : {A : Type 0} (kind k : ℕ) (read others : List ℕ → Option (A × List ℕ)) (write : A → List ℕ) (kind_of : A → ℕ) (Fits : A → Type 0) →
    IsExact read write (HasNumber k kind_of Fits) → IsExact others write (HasNumber kind kind_of Fits) →
    IsExact (λ bytes. if kind == k then read bytes else others bytes) write (HasNumber kind kind_of Fits)
by_kind kind k read others write kind_of Fits exact rest_exact bytes rest x h e =
    either_way (kind == k) _ _ _ e
    (λ is found. at_number kind k kind_of write Fits bytes x rest (eqb-true kind k is) (exact bytes rest x h found))
    λ other found. rest_exact bytes rest x h found

no_reader : {A : Type 0} (write : A → List ℕ) (Fits : A → Type 0) → IsExact (λ bytes. None) write Fits
no_reader write Fits bytes rest x h e = absurd (none-some _ e)

name_backward_exact : (kind : ℕ) → IsExact (λ bytes. if kind == 25 then end_name_at Backward bytes else None) look_bytes (IsLook kind)
name_backward_exact kind = by_kind kind 25 (end_name_at Backward) (λ bytes. None) look_bytes look_kind FitsLook (end_name_exact Backward) (no_reader look_bytes (IsLook kind))

next_name_exact : (kind : ℕ) → IsExact (next_name_at kind) look_bytes (IsLook kind)
next_name_exact kind =
    by_kind kind 22 (name_from_at Forward) _ look_bytes look_kind FitsLook (name_from_exact Forward 22 (λ s. refl))
    (by_kind kind 23 (name_from_at Backward) _ look_bytes look_kind FitsLook (name_from_exact Backward 23 (λ s. refl))
    (by_kind kind 24 (end_name_at Forward) _ look_bytes look_kind FitsLook (end_name_exact Forward)
    (name_backward_exact kind)))

traversal_exact : (kind : ℕ) → IsExact (traversal_at kind) look_bytes (IsLook kind)
traversal_exact kind =
    by_kind kind 6 (order_at false Forward) _ look_bytes look_kind FitsLook (order_exact false Forward)
    (by_kind kind 7 (order_at false Backward) _ look_bytes look_kind FitsLook (order_exact false Backward)
    (by_kind kind 8 (order_at true Forward) _ look_bytes look_kind FitsLook (order_exact true Forward)
    (by_kind kind 9 (order_at true Backward) _ look_bytes look_kind FitsLook (order_exact true Backward)
    (by_kind kind 10 (query_at false Forward) _ look_bytes look_kind FitsLook (query_exact false Forward)
    (by_kind kind 11 (query_at false Backward) _ look_bytes look_kind FitsLook (query_exact false Backward)
    (by_kind kind 12 (query_at true Forward) _ look_bytes look_kind FitsLook (query_exact true Forward)
    (by_kind kind 13 (query_at true Backward) (next_name_at kind) look_bytes look_kind FitsLook (query_exact true Backward) (next_name_exact kind))))))))

looks_exact : (kind : ℕ) → IsExact (looks_at kind) look_bytes (IsLook kind)
unfolding looks_at
looks_exact kind =
    by_kind kind 3 data_at _ look_bytes look_kind FitsLook data_exact
    (by_kind kind 4 get_at _ look_bytes look_kind FitsLook get_exact
    (by_kind kind 5 get_else_at (traversal_at kind) look_bytes look_kind FitsLook get_else_exact (traversal_exact kind)))

looking_exact : (kind : ℕ) → IsExact (looking_at kind) command_bytes (HasNumber kind command_kind FitsCommand)
looking_exact kind bytes rest c h e =
    option_and_then_some _ (looks_at kind bytes) _ e λ l look found.
    let a = looks_exact kind bytes l.1 l.0 h look in
    as_found command_bytes (HasNumber kind command_kind FitsCommand) bytes (Look l.0) c l.1 rest found (record { written = a.written; fits = record { is = a.fits.is; fits = a.fits.fits }; others = a.others })

later_exact : (kind : ℕ) → IsExact (later_command_at kind) command_bytes (HasNumber kind command_kind FitsCommand)
later_exact kind =
    by_kind kind 19 (kill_at ValueAlone) _ command_bytes command_kind FitsCommand (kill_exact ValueAlone)
    (by_kind kind 20 (kill_at Below) _ command_bytes command_kind FitsCommand (kill_exact Below)
    (by_kind kind 21 increment_at (looking_at kind) command_bytes command_kind FitsCommand increment_exact (looking_exact kind)))

command_exact : (kind : ℕ) → IsExact (data_command_at kind) command_bytes (HasNumber kind command_kind FitsCommand)
unfolding data_command_at
command_exact kind =
    by_kind kind 0 set_at _ command_bytes command_kind FitsCommand set_exact
    (by_kind kind 1 (kill_at All) _ command_bytes command_kind FitsCommand (kill_exact All)
    (by_kind kind 2 merge_at (later_command_at kind) command_bytes command_kind FitsCommand merge_exact (later_exact kind)))

-- an answer of this kind
abbrev IsAnswer : ℕ → Answer → Type 0
IsAnswer kind = HasNumber kind answer_kind FitsAnswer

done_exact : IsExact (λ bytes. Some (Done, bytes)) answer_bytes (IsAnswer 0)
done_exact bytes rest x h e = as_found answer_bytes (IsAnswer 0) bytes Done x bytes rest e (record { written = refl; fits = record { is = refl; fits = tt }; others = h })

value_exact : IsExact value_answer_at answer_bytes (IsAnswer 1)
value_exact bytes rest x h e =
    option_and_then_some _ (string_at bytes) _ e λ t string found.
    let a = string_exact bytes t.1 t.0 h string in
    as_found answer_bytes (IsAnswer 1) bytes (Value t.0) x t.1 rest found (record { written = a.written; fits = record { is = refl; fits = a.fits }; others = a.others })

count_exact : IsExact count_at answer_bytes (IsAnswer 2)
count_exact bytes rest x h e =
    option_and_then_some _ (number_at bytes) _ e λ n number found.
    let a = number_exact bytes n.1 n.0 h number in
    as_found answer_bytes (IsAnswer 2) bytes (Number n.0) x n.1 rest found (record { written = a.written; fits = record { is = refl; fits = a.fits }; others = a.others })

found_exact : IsExact found_at answer_bytes (IsAnswer 3)
found_exact = by_reference answer_bytes (IsAnswer 3) Found (λ r. refl) λ r h. record { is = refl; fits = h }

-- by its kind, of which there are four
answer_exact : (kind : ℕ) → kind < 4 → IsExact (answer_at kind) answer_bytes (IsAnswer kind)
unfolding answer_at
answer_exact zero low = done_exact
answer_exact (suc zero) low = value_exact
answer_exact (suc (suc zero)) low = count_exact
answer_exact (suc (suc (suc zero))) low = found_exact
answer_exact (suc (suc (suc (suc kind)))) low = absurd (omega arith)

tag_is : (tag k a : ℕ) → tag / 4 ≡ k → tag % 4 ≡ a → tag ≡ 4 * k + a
tag_is tag k a e f = omega arith

-- a command with its answer, behind their tag
answered_exact : (tag : ℕ) (bytes rest : List ℕ) (x : Exchange) → AreBytes bytes → answered_at tag bytes ≡ Some (x, rest) → IsRead exchange_bytes FitsExchange (tag ∷ bytes) x rest
unfolding answered_at
answered_exact tag bytes rest x h e =
    option_and_then_some _ (data_command_at (tag / 4) bytes) _ e λ c first given.
    option_and_then_some _ (answer_at (tag % 4) c.1) _ given λ a second found.
    let p = command_exact (tag / 4) bytes c.1 c.0 h first in
    let q = answer_exact (tag % 4) (omega arith) c.1 a.1 a.0 p.others second in
    let parts : bytes ≡ (command_bytes c.0 ++ answer_bytes a.0) ++ a.1 = in_turn bytes (command_bytes c.0) c.1 (answer_bytes a.0) a.1 p.written q.written in
    as_found exchange_bytes FitsExchange (tag ∷ bytes) (record { command = c.0; answer = a.0 }) x a.1 rest found (record {
      written = ap (λ t. tag ∷ t) parts ∙ ap (λ n. n ∷ ((command_bytes c.0 ++ answer_bytes a.0) ++ a.1)) (tag_is tag (command_kind c.0) (answer_kind a.0) p.fits.is q.fits.is);
      fits = record { command = p.fits.fits; answer = q.fits.fits };
      others = q.others;
    })

exchange_exact : IsExact exchange_at exchange_bytes FitsExchange
unfolding exchange_at
exchange_exact [] rest x h e = absurd (none-some _ e)
exchange_exact (tag ∷ bytes) rest x h e = answered_exact tag bytes rest x (other_bytes tag bytes h) e

-- how many exchanges, and each
exchanges_bytes : List Exchange → List ℕ
exchanges_bytes es = number_bytes (length es) ++ flat_map exchange_bytes es

exchanges_exact : IsExact exchanges_at exchanges_bytes FitExchanges
unfolding exchanges_at exchanges_bytes
exchanges_exact bytes rest es h e =
    option_and_then_some _ (number_at bytes) _ e λ n number found.
    let a = number_exact bytes n.1 n.0 h number in
    let b = list_exact exchange_at exchange_bytes FitsExchange exchange_exact n.0 n.1 rest es a.others found in
    record {
      written = in_turn bytes (number_bytes (length es)) n.1 (flat_map exchange_bytes es) rest (a.written ∙ ap (λ m. number_bytes m ++ n.1) b.fits.is) b.written;
      fits = record { count = subst (λ m. m < 2 ^ 64) b.fits.is a.fits.fits; each = b.fits.fits };
      others = b.others;
    }

-- ---- locks

-- a lock of this kind
abbrev IsLock : ℕ → LockCommand → Type 0
IsLock kind = HasNumber kind lock_kind FitsLock

named_exact : (kind : ℕ) (make : List Resource → LockCommand) → ((ns : List Resource) → kind ≡ lock_kind (make ns)) → ((ns : List Resource) → names_bytes ns ≡ lock_bytes (make ns)) → ((ns : List Resource) → FitNames ns → FitsLock (make ns)) →
    IsExact (λ bytes. names_at bytes >>= λ ns. Some (make ns.0, ns.1)) lock_bytes (IsLock kind)
named_exact kind make is writes fits bytes rest l h e =
    option_and_then_some _ (names_at bytes) _ e λ ns names found.
    let a = names_exact bytes ns.1 ns.0 h names in
    as_found lock_bytes (IsLock kind) bytes (make ns.0) l ns.1 rest found (record {
      written = a.written ∙ ap (λ t. t ++ ns.1) (writes ns.0);
      fits = record { is = is ns.0; fits = fits ns.0 a.fits };
      others = a.others;
    })

only_exact : IsExact (named_lock_at 16) lock_bytes (IsLock 16)
only_exact = named_exact 16 Only (λ ns. refl) (λ ns. refl) λ ns h. h

more_exact : IsExact (named_lock_at 17) lock_bytes (IsLock 17)
more_exact = named_exact 17 More (λ ns. refl) (λ ns. refl) λ ns h. h

fewer_exact : IsExact (named_lock_at 18) lock_bytes (IsLock 18)
fewer_exact = named_exact 18 Fewer (λ ns. refl) (λ ns. refl) λ ns h. h

-- the three kinds with names
which_kind : (kind : ℕ) → 16 ≤ kind → kind ≤ 18 → (kind ≡ 16) ⊎ ((kind ≡ 17) ⊎ (kind ≡ 18))
which_kind kind low high = grind arith

named_lock_by : (kind : ℕ) → (kind ≡ 16) ⊎ ((kind ≡ 17) ⊎ (kind ≡ 18)) → IsExact (named_lock_at kind) lock_bytes (IsLock kind)
named_lock_by kind (inl e) = subst (λ k. IsExact (named_lock_at k) lock_bytes (IsLock k)) (sym e) only_exact
named_lock_by kind (inr (inl e)) = subst (λ k. IsExact (named_lock_at k) lock_bytes (IsLock k)) (sym e) more_exact
named_lock_by kind (inr (inr e)) = subst (λ k. IsExact (named_lock_at k) lock_bytes (IsLock k)) (sym e) fewer_exact

release_exact : IsExact (λ bytes. Some (Release, bytes)) lock_bytes (IsLock 15)
release_exact bytes rest l h e = as_found lock_bytes (IsLock 15) bytes Release l bytes rest e (record { written = refl; fits = record { is = refl; fits = tt }; others = h })

with_names_exact : (kind : ℕ) → IsExact (λ bytes. if nat_le 16 kind && nat_le kind 18 then named_lock_at kind bytes else None) lock_bytes (IsLock kind)
with_names_exact kind bytes rest l h e =
    if_so (nat_le 16 kind && nat_le kind 18) _ _ e λ both found.
    named_lock_by kind (which_kind kind (leb-true _ _ (first_so (nat_le 16 kind) _ both)) (leb-true _ _ (second_so (nat_le 16 kind) _ both))) bytes rest l h found

lock_exact : (kind : ℕ) → IsExact (lock_command_at kind) lock_bytes (IsLock kind)
unfolding lock_command_at
lock_exact kind = by_kind kind 15 (λ bytes. Some (Release, bytes)) _ lock_bytes lock_kind FitsLock release_exact (with_names_exact kind)

-- a LOCK's two flags are what is left of its tag
flags_exact : (flags : ℕ) → flags < 4 → flags ≡ lock_flags (is_inside flags) (has_had flags)
flags_exact zero low = refl
flags_exact (suc zero) low = refl
flags_exact (suc (suc zero)) low = refl
flags_exact (suc (suc (suc zero))) low = refl
flags_exact (suc (suc (suc (suc flags)))) low = absurd (omega arith)

-- ---- units

-- a unit of this job
abbrev IsDeed : ℕ → JournalUnit → Type 0
IsDeed job = HasNumber job job_of FitsDeed

lone_exact : (job tag : ℕ) (bytes rest : List ℕ) (u : JournalUnit) → AreBytes bytes → lone_at job tag bytes ≡ Some (u, rest) → IsRead deed_bytes (IsDeed job) (tag ∷ bytes) u rest
lone_exact job tag bytes rest u h e =
    option_and_then_some _ (answered_at tag bytes) _ e λ x answered found.
    let a = answered_exact tag bytes x.1 x.0 h answered in
    as_found deed_bytes (IsDeed job) (tag ∷ bytes) (Lone job (x.0).command (x.0).answer) u x.1 rest found (record {
      written = a.written;
      fits = record { is = refl; fits = (a.fits.command, a.fits.answer) };
      others = a.others;
    })

whole_exact : (job : ℕ) (bytes rest : List ℕ) (u : JournalUnit) → AreBytes bytes → whole_at job bytes ≡ Some (u, rest) → IsRead deed_bytes (IsDeed job) (56 ∷ bytes) u rest
unfolding exchanges_bytes
whole_exact job bytes rest u h e =
    option_and_then_some _ (exchanges_at bytes) _ e λ es exchanges found.
    let a = exchanges_exact bytes es.1 es.0 h exchanges in
    as_found deed_bytes (IsDeed job) (56 ∷ bytes) (Whole job es.0) u es.1 rest found (record {
      written = ap (λ t. 56 ∷ t) a.written;
      fits = record { is = refl; fits = a.fits };
      others = a.others;
    })

locked_exact : (job tag : ℕ) (bytes rest : List ℕ) (u : JournalUnit) → AreBytes bytes → locked_at job tag bytes ≡ Some (u, rest) → IsRead deed_bytes (IsDeed job) (tag ∷ bytes) u rest
locked_exact job tag bytes rest u h e =
    option_and_then_some _ (lock_command_at (tag / 4) bytes) _ e λ l lock found.
    let flags = tag % 4 in
    let a = lock_exact (tag / 4) bytes l.1 l.0 h lock in
    let is : tag ≡ 4 * lock_kind l.0 + lock_flags (is_inside flags) (has_had flags) = tag_is tag (lock_kind l.0) _ a.fits.is (flags_exact flags (omega arith)) in
    as_found deed_bytes (IsDeed job) (tag ∷ bytes) (Lock job (is_inside flags) l.0 (has_had flags)) u l.1 rest found (record {
      written = ap (λ t. tag ∷ t) a.written ∙ ap (λ n. n ∷ (lock_bytes l.0 ++ l.1)) is;
      fits = record { is = refl; fits = a.fits.fits };
      others = a.others;
    })

back_exact : (job : ℕ) (bytes rest : List ℕ) (u : JournalUnit) → AreBytes bytes → ◌≡◌ {A = Option (JournalUnit × List ℕ)} (Some (Back job, bytes)) (Some (u, rest)) → IsRead deed_bytes (IsDeed job) (57 ∷ bytes) u rest
back_exact job bytes rest u h e = as_found deed_bytes (IsDeed job) (57 ∷ bytes) (Back job) u bytes rest e (record { written = refl; fits = record { is = refl; fits = tt }; others = h })

end_exact : (job : ℕ) (bytes rest : List ℕ) (u : JournalUnit) → AreBytes bytes → ◌≡◌ {A = Option (JournalUnit × List ℕ)} (Some (End job, bytes)) (Some (u, rest)) → IsRead deed_bytes (IsDeed job) (58 ∷ bytes) u rest
end_exact job bytes rest u h e = as_found deed_bytes (IsDeed job) (58 ∷ bytes) (End job) u bytes rest e (record { written = refl; fits = record { is = refl; fits = tt }; others = h })

-- the same behind a tag that is this one
at_tag : (job tag n : ℕ) (bytes rest : List ℕ) (u : JournalUnit) → (tag == n) ≡ true → IsRead deed_bytes (IsDeed job) (n ∷ bytes) u rest → IsRead deed_bytes (IsDeed job) (tag ∷ bytes) u rest
at_tag job tag n bytes rest u e h = subst (λ t. IsRead deed_bytes (IsDeed job) (t ∷ bytes) u rest) (sym (eqb-true tag n e)) h

tagged_exact : (job tag : ℕ) (bytes rest : List ℕ) (u : JournalUnit) → AreBytes bytes → deed_at job tag bytes ≡ Some (u, rest) → IsRead deed_bytes (IsDeed job) (tag ∷ bytes) u rest
unfolding deed_at
tagged_exact job tag bytes rest u h e =
    either_way (nat_lt tag 56) _ _ _ e (λ low found. lone_exact job tag bytes rest u h found)
    λ high e1. either_way (tag == 56) _ _ _ e1 (λ is found. at_tag job tag 56 bytes rest u is (whole_exact job bytes rest u h found))
    λ no_whole e2. either_way (tag == 57) _ _ _ e2 (λ is found. at_tag job tag 57 bytes rest u is (back_exact job bytes rest u h found))
    λ no_back e3. either_way (tag == 58) _ _ _ e3 (λ is found. at_tag job tag 58 bytes rest u is (end_exact job bytes rest u h found))
    λ no_end e4. either_way (nat_lt tag 76) _ _ _ e4 (λ lock found. locked_exact job tag bytes rest u h found)
    λ no_lock found. lone_exact job tag bytes rest u h found

deed_exact : (job : ℕ) → IsExact (deed_of job) deed_bytes (IsDeed job)
unfolding deed_of
deed_exact job [] rest u h e = absurd (none-some _ e)
deed_exact job (tag ∷ bytes) rest u h e = tagged_exact job tag bytes rest u (other_bytes tag bytes h) e

unit_read : (job : ℕ) (bytes middle rest : List ℕ) (u : JournalUnit) → is_job job ≡ true → IsRead number_bytes FitsNumber bytes job middle → IsRead deed_bytes (IsDeed job) middle u rest → IsRead unit_bytes FitsUnit bytes u rest
unit_read job bytes middle rest u is a b =
    let low : 1 ≤ job = leb-true _ _ (first_so (nat_le 1 job) _ is) in
    let high : job ≤ most_jobs = leb-true _ _ (second_so (nat_le 1 job) _ is) in
    record {
      written = in_turn bytes (number_bytes (job_of u)) middle (deed_bytes u) rest (a.written ∙ ap (λ n. number_bytes n ++ middle) b.fits.is) b.written;
      fits = record { low = subst (λ n. 1 ≤ n) b.fits.is low; high = subst (λ n. n ≤ most_jobs) b.fits.is high; deed = b.fits.fits };
      others = b.others;
    }

pub unit_exact : IsExact unit_at unit_bytes FitsUnit
unfolding unit_at
unit_exact bytes rest u h e =
    option_and_then_some _ (number_at bytes) _ e λ n number given.
    if_so (is_job n.0) _ _ given λ is found.
    unit_read n.0 bytes n.1 rest u is (number_exact bytes n.1 n.0 h number) (deed_exact n.0 n.1 rest u (number_exact bytes n.1 n.0 h number).others found)

pub units_exact : UnitsAreReadExactly
units_exact bytes rest u h e =
    let a = unit_exact bytes rest u h e in
    (a.written, a.fits)
