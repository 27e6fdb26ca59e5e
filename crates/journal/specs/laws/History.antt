-- Histories, one after another; and what each unit of a legal one is at its place.
use Rattle.std.specs.Prelude.{◌≡◌, ℕ, List, [], ◌∷◌, ◌++◌}
use Rattle.std.proofs.Common.{refl, sym, ap, subst, ◌∙◌}
use Rattle.collation.specs.Database.{Database}
use Rattle.lock_name.specs.Locks.{locks_after_commit}
use Rattle.command.specs.Data.{data_after}
use Rattle.journal.specs.declared.unit.Exchange.{Exchange}
use Rattle.journal.specs.declared.unit.Unit.{Unit as JournalUnit}
use Rattle.journal.specs.declared.unit.Unit.TheVariants.{Whole}
use Rattle.journal.specs.History.{State, all_after, after, after_unit, IsRight, AreRight, IsLegal, IsLegalUnit}

-- units joined leave what the second leave after the first
pub after-append : (us vs : List JournalUnit) (s : State) → after (us ++ vs) s ≡ after vs (after us s)
after-append [] vs s = refl
after-append (u ∷ us) vs s = after-append us vs (after_unit u s)

-- legal units joined are legal, the second from where the first end
pub IsLegal-append : (us vs : List JournalUnit) (s : State) → IsLegal us s → IsLegal vs (after us s) → IsLegal (us ++ vs) s
IsLegal-append [] vs s h k = k
IsLegal-append (u ∷ us) vs s h k = (h.0, IsLegal-append us vs (after_unit u s) h.1 k)

-- a beginning of legal units is legal
pub IsLegal-first : (us vs : List JournalUnit) (s : State) → IsLegal (us ++ vs) s → IsLegal us s
IsLegal-first [] vs s h = tt
IsLegal-first (u ∷ us) vs s h = (h.0, IsLegal-first us vs (after_unit u s) h.1)

-- and so is what follows it, from where it ends
pub IsLegal-rest : (us vs : List JournalUnit) (s : State) → IsLegal (us ++ vs) s → IsLegal vs (after us s)
IsLegal-rest [] vs s h = h
IsLegal-rest (u ∷ us) vs s h = IsLegal-rest us vs (after_unit u s) h.1

-- a unit after others, with more after it, is legal at its place
pub IsLegal-unit : (us vs : List JournalUnit) (u : JournalUnit) (s : State) → IsLegal (us ++ u ∷ vs) s → IsLegalUnit u (after us s)
IsLegal-unit us vs u s h = (IsLegal-rest us (u ∷ vs) s h).0

-- commands joined leave what the second leave after the first
pub all_after-append : (es fs : List Exchange) (m : Database) → all_after (es ++ fs) m ≡ all_after fs (all_after es m)
all_after-append [] fs m = refl
all_after-append (e ∷ es) fs m = all_after-append es fs (data_after e.command m)

-- commands that are right after others are right from where those end
pub AreRight-rest : (es fs : List Exchange) (m : Database) → AreRight (es ++ fs) m → AreRight fs (all_after es m)
AreRight-rest [] fs m h = h
AreRight-rest (e ∷ es) fs m h = AreRight-rest es fs (data_after e.command m) h.1

-- a unit after others leaves what it leaves after them
pub after-unit : (us : List JournalUnit) (u : JournalUnit) (s : State) → after (us ++ u ∷ []) s ≡ after_unit u (after us s)
after-unit us u s = after-append us (u ∷ []) s

-- a command of a legal transaction is right where the units before and the transaction's commands before it end
pub IsRight-inside : (us vs : List JournalUnit) (s : State) (job : ℕ) (es later : List Exchange) (e : Exchange) → IsLegal (us ++ Whole job (es ++ e ∷ later) ∷ vs) s
    → IsRight e.command e.answer (after (us ++ Whole job es ∷ []) s).map
IsRight-inside us vs s job es later e h =
    subst (λ n. IsRight e.command e.answer n) (ap (λ t. t.map) (sym (after-unit us (Whole job es) s)))
    (AreRight-rest es (e ∷ later) (after us s).map (IsLegal-unit us vs (Whole job (es ++ e ∷ later)) s h)).0

-- a transaction with one command more leaves what that leaves after it
pub after-inside : (us : List JournalUnit) (s : State) (job : ℕ) (es : List Exchange) (e : Exchange)
    → after (us ++ Whole job (es ++ e ∷ []) ∷ []) s
    ≡ record { map = data_after e.command (after (us ++ Whole job es ∷ []) s).map; locks = (after (us ++ Whole job es ∷ []) s).locks }
after-inside us s job es e =
    after-unit us (Whole job (es ++ e ∷ [])) s
    ∙ ap (λ m. record { map = m; locks = locks_after_commit job (after us s).locks }) (all_after-append es (e ∷ []) (after us s).map)
    ∙ ap (λ t. record { map = data_after e.command t.map; locks = t.locks }) (sym (after-unit us (Whole job es) s))
