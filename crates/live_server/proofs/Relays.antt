-- Both ends of a ring, once the thread that reads is over.
use Rattle.std.proofs.Common.{◌≡◌, ℕ, Bool, List, [], ◌++◌, Option, None, Some, Result, Ok, Err, IfSome, IfOk, OnErr, IsErrOf, inl, inr, refl, sym, ap, subst, ◌∙◌, append_assoc}
use Rattle.std.specs.Prelude.{◌⊎◌}
use Rattle.std.specs.declared.alloc.Global.{Global}
use Rattle.rtrb.specs.declared.producer.Producer.{Producer}
use Rattle.rtrb.specs.declared.AnyItems.{AnyItems}
use Rattle.rtrb.specs.Ring.{SameProducer}
use Rattle.journal.specs.Story.{Machine}
use Rattle.script_run.specs.Lines.{lines_of}
use Rattle.live_server.specs.Desks.{DeskShown}
use Rattle.live_server.specs.Live.{Wrote, IsBegun, HasAnswered, HasRead}
use Rattle.live_server.specs.Relays.{IsFrontOf, HasBegun, HasReadFront, HasAnsweredFront}
use Rattle.live_server.specs.declared.fault.LiveFault.{LiveFault}
use Rattle.live_server.specs.declared.fault.LiveFault.TheVariants.{Read, Stuck}
use Rattle.live_server.proofs.Begins.{not_begun, begun_whole}
use Rattle.script_run.specs.declared.outcome.Outcome.{Outcome}

-- the same end of a ring, after one call and another
pub ring_then : (a b c : Producer ℕ Global AnyItems) → SameProducer a b → SameProducer b c → SameProducer a c
ring_then a b c h k = ((k.0.0 ∙ h.0.0, k.0.1 ∙ h.0.1, k.0.2 ∙ h.0.2, k.0.3 ∙ h.0.3), k.1 ∙ h.1)

begun_at : {E : Type 0} (s : Machine) (listed : Bool) (bytes : List ℕ) (r : Result Outcome E) (p q : Option (List ℕ)) → IfOk r (λ o. Wrote s listed bytes o p q) → OnErr r (IsBegun s listed bytes p q) → IsBegun s listed bytes p q
begun_at s listed bytes (Ok o) p q w b = begun_whole s listed bytes o p q w
begun_at s listed bytes (Err e) p q w b = b

-- any run wrote a beginning, for a front of it
pub broke : {E : Type 0} (a : Option (List ℕ)) (s : Machine) (listed : Bool) (got put : List ℕ) (r : Result Outcome E) (p q : Option (List ℕ)) → IfOk r (λ o. Wrote s listed got o p q) → OnErr r (IsBegun s listed got p q) → IsFrontOf got put
    → IfSome a (IsFrontOf put) → IfSome a (λ bytes. HasBegun s listed bytes p q)
broke None s listed got put r p q w b f g = tt
broke (Some x) s listed got put r p q w b f g = record {
  front = got;
  of = (f.0 ++ g.0, sym (append_assoc got f.0 g.0) ∙ ap (λ (l : List ℕ). l ++ g.0) f.1 ∙ g.1);
  begun = begun_at s listed got r p q w b;
}

-- nothing was taken
pub broke_first : (a : Option (List ℕ)) (s : Machine) (listed : Bool) (p : Option (List ℕ)) → IfSome a (λ bytes. HasBegun s listed bytes p p)
broke_first None s listed p = tt
broke_first (Some x) s listed p = record { front = []; of = (x, refl); begun = not_begun s listed [] p }

-- ---- where it stopped

front_then : (got put all : List ℕ) → IsFrontOf got put → IsFrontOf put all → IsFrontOf got all
front_then got put all f g = (f.0 ++ g.0, sym (append_assoc got f.0 g.0) ∙ ap (λ (l : List ℕ). l ++ g.0) f.1 ∙ g.1)

read_as : (s now : Machine) (desks : List DeskShown) (listed : Bool) (got : List ℕ) (r : Result Outcome LiveFault) (p q : Option (List ℕ)) → IfOk r (λ o. Wrote s listed got o p q) → (IsErrOf r Read → HasRead s now desks got p q) → (r ≡ Err Read) ⊎ ((o : Outcome) × (r ≡ Ok o))
    → HasRead s now desks got p q ⊎ ((o : Outcome) × Wrote s listed got o p q)
read_as s now desks listed got r p q w h (inl failed) = inl (h failed)
read_as s now desks listed got r p q w h (inr ended) = inr (ended.0, subst (λ (x : Result Outcome LiveFault). IfOk x (λ o. Wrote s listed got o p q)) ended.1 w)

-- a read failed
pub read_front : (a : Option (List ℕ)) (s now : Machine) (desks : List DeskShown) (listed : Bool) (got put : List ℕ) (r : Result Outcome LiveFault) (p q : Option (List ℕ)) → IfOk r (λ o. Wrote s listed got o p q) → (IsErrOf r Read → HasRead s now desks got p q) → IsFrontOf got put
    → IfSome a (IsFrontOf put) → (r ≡ Err Read) ⊎ ((o : Outcome) × (r ≡ Ok o)) → IfSome a (λ bytes. HasReadFront s now desks listed bytes p q)
read_front None s now desks listed got put r p q w h f g e = tt
read_front (Some x) s now desks listed got put r p q w h f g e = record { front = got; of = front_then got put x f g; read = read_as s now desks listed got r p q w h e }

-- the last jobs wait for ever
pub answered_front : (a : Option (List ℕ)) (s now : Machine) (desks : List DeskShown) (got put : List ℕ) (r : Result Outcome LiveFault) (p q : Option (List ℕ)) → (IsErrOf r Stuck → HasAnswered s now desks (lines_of got) p q) → IsFrontOf got put → IfSome a (IsFrontOf put) → IsErrOf r Stuck
    → IfSome a (λ bytes. HasAnsweredFront s now desks bytes p q)
answered_front None s now desks got put r p q h f g e = tt
answered_front (Some x) s now desks got put r p q h f g e = record { front = got; of = front_then got put x f g; answered = h e }
