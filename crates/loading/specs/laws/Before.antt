-- Settings before what the next lines ask for.
use Rattle.std.proofs.Common.{◌≡◌, List, [], ◌∷◌, ◌++◌, Result, Ok, Err, refl, sym, ap, subst, ◌∙◌, append_assoc}
use Rattle.std.proofs.lemmas.List.{append-nil}
use Rattle.loading.specs.Settings.{Setting, TextFault, before}
use Rattle.loading.specs.Loaded.{IsFaultOf}
use Rattle.loading.specs.declared.fault.LoadFault.{LoadFault}
use Rattle.loading.specs.declared.fault.LoadFault.TheVariants as faults

pub before_none : (r : Result (List Setting) TextFault) → r ≡ before [] r
before_none (Ok ss) = refl
before_none (Err fault) = refl

before_more : (xs ys : List Setting) (r : Result (List Setting) TextFault) → before xs (before ys r) ≡ before (xs ++ ys) r
before_more xs ys (Ok ss) = ap (λ (l : List Setting). Ok l) (sym (append_assoc xs ys ss))
before_more xs ys (Err fault) = refl

-- one more was read
pub before_next : (so_far : List Setting) (s : Setting) (asked old new : Result (List Setting) TextFault) → asked ≡ before so_far old → old ≡ before (s ∷ []) new → asked ≡ before (so_far ++ s ∷ []) new
before_next so_far s asked old new is next = is ∙ ap (before so_far) next ∙ before_more so_far (s ∷ []) new

-- none is left
pub before_end : (so_far : List Setting) (asked left : Result (List Setting) TextFault) → asked ≡ before so_far left → left ≡ Ok [] → asked ≡ Ok so_far
before_end so_far asked left is none = is ∙ ap (before so_far) none ∙ ap (λ (ss : List Setting). Ok ss) (append-nil so_far)

fault_behind : (so_far : List Setting) (left : Result (List Setting) TextFault) (fault : LoadFault) → IsFaultOf left fault → IsFaultOf (before so_far left) fault
fault_behind so_far left (faults.Line fault) h = record { first = h.first; is = ap (before so_far) h.is; number = h.number; refusal = h.refusal; low = h.low; high = h.high; rule = h.rule }
fault_behind so_far left faults.Memory h = tt

-- the fault of what is left is that of the whole
pub fault_before : (so_far : List Setting) (asked left : Result (List Setting) TextFault) (fault : LoadFault) → asked ≡ before so_far left → IsFaultOf left fault → IsFaultOf asked fault
fault_before so_far asked left fault is h = subst (λ (r : Result (List Setting) TextFault). IsFaultOf r fault) (sym is) (fault_behind so_far left fault h)
