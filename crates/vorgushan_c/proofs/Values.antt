-- The machine values of a `Loose` and of a `VgEngine`. Assumes `Logic`.
use Rattle.std.proofs.Common.{◌≡◌, ℕ, List, [], ◌∷◌, ◌++◌, refl, subst}
use mathlib.Core.Bool.{Bool, true, false, ◌&&◌}
use lib.Dec.{T, lit<}
use seplogic.Ra.Ura.{Ura}
use mir.Syntax.{impl, tnil, dnil}
use mir.Raw.{raw as bare}
use mir.Val.{Val, vptr, vstruct, vcons, vnil, of_list, has_ty, WT}
use base.Fraction.{full_share}
use base.Fml.{ffalse}
use base.Logic.{SProp, ent, guard, guard_i, id⊢, via, never, fst∗, snd∗}
use contract.Monad.{fact_use}
use types.Logic.{Logic, sem}
use types.Kit.{Item, Goal, Seq, Step, step, ‵, ◌$◌, given, learn, use1, move, drop, fsplit, fjoin, fpick, fpack, feq_i, feq_l}
use denote.RattleType.{RattleType, Valss}
use denote.Builtin.{RawPtr}
use denote.Memory.{lone}
use denote.RawPtr.{Ptr, block_ptr, null_ptr, ptr_val, in_a_block, lies_at, Testable}
use denote.Steps.{nothing}
use denote.Param.{layout}
use denote.Param.Laws.{Laws}
use denote.Struct.Struct.{within}
use denote.Struct.Owning.{shape, to}
use Rattle.std.specs.declared.alloc.Allocator.{Ghosts}
use Rattle.std.proofs.alloc.Calls.{Al, handle_tells}
use Rattle.std.proofs.cell.Inside.{Good, one}
use Rattle.std.specs.Box.Ownership.{box_owns}
use Rattle.std.proofs.ResultValues.{and_tt}
use Rattle.std.specs.declared.alloc.Global.{Global}
use Rattle.std.specs.contracts.alloc.Global as heap
use Rattle.std.proofs.alloc.Global.TheLaws as heap_laws
use Rattle.std.specs.contracts.impls.GlobalAllocator.TheImpl.{ghosts}
use Rattle.std.proofs.GlobalToken.{dealloc_token-Testable}
use Rattle.std.specs.declared.option.Option.{Option}
use Rattle.std.specs.declared.option.Option.TheVariants.{None, Some}
use Rattle.vorgushan_c.specs.Held.{held}
use Rattle.embedded.specs.contracts.engine.Embedded as embedded
use Rattle.vorgushan_c.specs.contracts.loose.Loose as loose
use Rattle.vorgushan_c.specs.contracts.handle.VgEngine as engine

abbrev pub both : Val → Val → Val
both v w = vstruct (vcons v (vcons w vnil))

pub both_tt : (x y : Bool) → T x → T y → T (x && (y && true))
both_tt true true s t = tt
both_tt true false s t = absurd t
both_tt false y s t = absurd s

module _ (R Z : RattleType) (L : Laws Z) (g : Ghosts Z.Denot) where
  abbrev pub Loose : RattleType
  Loose = loose.the_row R Z g

  abbrev al : Al
  al = record { row = Z; laws = L; g = g; d = impl [] tnil dnil; drops = impl [] tnil dnil }

  pub loose_good : (b o : ℕ) (h : Val) → Good (layout Z) h → T (has_ty (layout Z) h && true) × WT (both (vptr b o) h)
  loose_good b o h fits = (and_tt (has_ty (layout Z) h) fits.0, (tt, (fits.1, tt)))

  module _ {M : Type 1} {𝓤 : Ura M} {𝓛 : Logic 𝓤} {K : Type 0} {Γ : List (Item 𝓤)} {G : Goal 𝓤 𝓛.H} where
    pub loose_out : K → (d : Loose.Denot) (vs : List Val)
        → ((b o : ℕ) (h : Val) → d.at ≡ block_ptr b o → vs ≡ both (vptr b o) h ∷ [] → Good (layout Z) h → Seq K 𝓛 (‵ (box_owns (g.dealloc_token d.alloc) R (block_ptr b o) d.value) ∷ ‵ (Z.own_val d.alloc (h ∷ [])) ∷ Γ) G)
        → Seq K 𝓛 (‵ (Loose.own_val d vs) ∷ Γ) G
    loose_out t d vs k =
        fsplit t $ fpick t (λ vss. fsplit t $ feq_l t (λ ev. fsplit t $ feq_l t (λ ep. fsplit t $ handle_tells al t d.alloc vss.1.0 (λ h ea fits. move t (1 ∷ []) $ drop t $ move t (1 ∷ []) $
        in_a_block t d.at (λ p. box_owns (g.dealloc_token d.alloc) R p d.value) (fst∗ 𝓤 (never 𝓤) (sem 𝓛 (g.dealloc_token d.alloc (bare (lone R.mir)) null_ptr))) (λ b o e. k b o h e
        (subst (λ (p : Ptr). vs ≡ vstruct (of_list (ptr_val p ∷ h ∷ [])) ∷ []) e
        (subst (λ (ws : List Val). vs ≡ vstruct (of_list (ptr_val d.at ∷ (ws ++ []))) ∷ []) ea (subst (λ (ps : List Val). vs ≡ vstruct (of_list (ps ++ (vss.1.0 ++ []))) ∷ []) ep ev))) fits)))))

    pub loose_in : K → (b o : ℕ) (h : Val) (a : Z.Denot) (x : R.Denot)
        → Step K 𝓛 (‵ (Loose.own_val (record { at = block_ptr b o; alloc = a; value = x }) (both (vptr b o) h ∷ [])) ∷ Γ) G (‵ (box_owns (g.dealloc_token a) R (block_ptr b o) x) ∷ ‵ (Z.own_val a (h ∷ [])) ∷ Γ) G
    loose_in t b o h a x = step (λ s. let v : Val = both (vptr b o) h in
        nothing t $ move t (2 ∷ 0 ∷ []) $ fjoin t $ feq_i t (List Val) (vptr b o ∷ []) (vptr b o ∷ []) refl $ fjoin t $ feq_i t (List Val) (v ∷ []) (v ∷ []) refl $ fjoin t $
        fpack t (Valss (RawPtr ∷ Z ∷ [])) (within (shape (loose.the_type R Z g)) (block_ptr b o, (a, tt)) (v ∷ [])) (vptr b o ∷ [], (h ∷ [], tt)) $ fjoin t $ s)

abbrev IsNull : Ptr → Type 0
IsNull null_ptr = Unit {0}
IsNull (block_ptr b o) = ⊥

module _ {M : Type 1} {𝓤 : Ura M} (𝓛 : Logic 𝓤) (R : RattleType) (a : Global) where
  -- a pointer that may be freed may be compared with null
  pub tested : (p : Ptr) (x : R.Denot) → ent 𝓤 (sem 𝓛 (box_owns (ghosts.dealloc_token a) R p x)) (guard 𝓤 (Testable p) (sem 𝓛 (box_owns (ghosts.dealloc_token a) R p x)))
  tested p x = let B : SProp 𝓤 = sem 𝓛 (box_owns (ghosts.dealloc_token a) R p x) in
      fact_use 𝓤 (Testable p) (via 𝓤 _ (snd∗ 𝓤 (sem 𝓛 (lies_at R full_share p x)) (sem 𝓛 (ghosts.dealloc_token a (bare (lone R.mir)) p))) (dealloc_token-Testable 𝓛 a (bare (lone R.mir)) p)) (guard_i 𝓤 (Testable p) B)

module _ (R : RattleType) (a : Global) {M : Type 1} {𝓤 : Ura M} {𝓛 : Logic 𝓤} {K : Type 0} {Γ : List (Item 𝓤)} {G : Goal 𝓤 𝓛.H} where
  -- what is held: nothing at null, else the box
  pub either_held : K → (p : Ptr) (s : Option R.Denot) → (p ≡ null_ptr → s ≡ None → Seq K 𝓛 Γ G)
      → ((b o : ℕ) (x : R.Denot) → p ≡ block_ptr b o → s ≡ Some x → Testable (block_ptr b o) → Seq K 𝓛 (‵ (box_owns (ghosts.dealloc_token a) R (block_ptr b o) x) ∷ Γ) G)
      → Seq K 𝓛 (‵ (held R a p s) ∷ Γ) G
  either_held t null_ptr None none one = drop t $ none refl refl
  either_held t null_ptr (Some x) none one = in_a_block t null_ptr (λ p. ffalse) (id⊢ 𝓤 (never 𝓤)) (λ b o e. absurd (subst IsNull e tt))
  either_held t (block_ptr b o) None none one = in_a_block t null_ptr (λ p. ffalse) (id⊢ 𝓤 (never 𝓤)) (λ b o e. absurd (subst IsNull e tt))
  either_held t (block_ptr b o) (Some x) none one =
      use1 𝓛 (given (Testable (block_ptr b o)) (‵ (box_owns (ghosts.dealloc_token a) R (block_ptr b o) x))) (tested 𝓛 R a (block_ptr b o) x) $
      learn t (λ u. one b o x refl refl u)

abbrev S : RattleType
S = embedded.the_row

abbrev Z : RattleType
Z = heap.the_row

abbrev pub Engine : RattleType
Engine = engine.the_row

abbrev pub heap_al : Al
heap_al = record { row = Z; laws = heap_laws.the_row_laws; g = ghosts; d = impl [] tnil dnil; drops = impl [] tnil dnil }

pub none_good : (h : Val) → Good (layout Z) h → T (has_ty (layout Z) h && true) × WT (both (ptr_val null_ptr) h)
none_good h fits = (and_tt (has_ty (layout Z) h) fits.0, (record { fits = lit< tt }, (fits.1, tt)))

module _ {M : Type 1} {𝓤 : Ura M} {𝓛 : Logic 𝓤} {K : Type 0} {Γ : List (Item 𝓤)} {G : Goal 𝓤 𝓛.H} where
  pub engine_out : K → (d : Engine.Denot) (vs : List Val)
      → ((h : Val) → d.inside ≡ None → vs ≡ both (ptr_val null_ptr) h ∷ [] → Good (layout Z) h → Seq K 𝓛 (‵ (Z.own_val d.alloc (h ∷ [])) ∷ Γ) G)
      → ((b o : ℕ) (h : Val) (x : S.Denot) → d.inside ≡ Some x → vs ≡ both (vptr b o) h ∷ [] → Good (layout Z) h → Testable (block_ptr b o)
      → Seq K 𝓛 (‵ (box_owns (ghosts.dealloc_token d.alloc) S (block_ptr b o) x) ∷ ‵ (Z.own_val d.alloc (h ∷ [])) ∷ Γ) G)
      → Seq K 𝓛 (‵ (Engine.own_val d vs) ∷ Γ) G
  engine_out t d vs none one =
      fsplit t $ fpick t (λ vss. fsplit t $ feq_l t (λ ev. fsplit t $ feq_l t (λ ep. fsplit t $ handle_tells heap_al t d.alloc vss.1.0 (λ h ea fits. move t (1 ∷ []) $ drop t $ move t (1 ∷ []) $
      let told : vs ≡ both (ptr_val d.at) h ∷ [] =
      subst (λ (ws : List Val). vs ≡ vstruct (of_list (ptr_val d.at ∷ (ws ++ []))) ∷ []) ea (subst (λ (ps : List Val). vs ≡ vstruct (of_list (ps ++ (vss.1.0 ++ []))) ∷ []) ep ev) in
      either_held S d.alloc t d.at d.inside
      (λ is none_there. none h none_there (subst (λ (p : Ptr). vs ≡ both (ptr_val p) h ∷ []) is told) fits)
      (λ b o x is there u. one b o h x there (subst (λ (p : Ptr). vs ≡ both (ptr_val p) h ∷ []) is told) fits u)))))

  pub engine_in : K → (b o : ℕ) (h : Val) (a : Z.Denot) (x : S.Denot)
      → Step K 𝓛 (‵ (Engine.own_val (record { at = block_ptr b o; alloc = a; inside = Some x }) (both (vptr b o) h ∷ [])) ∷ Γ) G (‵ (box_owns (ghosts.dealloc_token a) S (block_ptr b o) x) ∷ ‵ (Z.own_val a (h ∷ [])) ∷ Γ) G
  engine_in t b o h a x = step (λ s. let v : Val = both (vptr b o) h in
      nothing t $ move t (2 ∷ 0 ∷ []) $ fjoin t $ feq_i t (List Val) (vptr b o ∷ []) (vptr b o ∷ []) refl $ fjoin t $ feq_i t (List Val) (v ∷ []) (v ∷ []) refl $ fjoin t $
      fpack t (Valss (RawPtr ∷ Z ∷ [])) (within (shape engine.the_type) (to engine.the_type (record { at = block_ptr b o; alloc = a; inside = Some x })) (v ∷ [])) (vptr b o ∷ [], (h ∷ [], tt)) $ fjoin t $ s)

  pub engine_none : K → (h : Val) (a : Z.Denot)
      → Step K 𝓛 (‵ (Engine.own_val (record { at = null_ptr; alloc = a; inside = None }) (both (ptr_val null_ptr) h ∷ [])) ∷ Γ) G (‵ (Z.own_val a (h ∷ [])) ∷ Γ) G
  engine_none t h a = step (λ s. let v : Val = both (ptr_val null_ptr) h in
      nothing t $ nothing t $ move t (2 ∷ 0 ∷ []) $ fjoin t $ feq_i t (List Val) (ptr_val null_ptr ∷ []) (ptr_val null_ptr ∷ []) refl $ fjoin t $ feq_i t (List Val) (v ∷ []) (v ∷ []) refl $ fjoin t $
      fpack t (Valss (RawPtr ∷ Z ∷ [])) (within (shape engine.the_type) (to engine.the_type (record { at = null_ptr; alloc = a; inside = None })) (v ∷ [])) (ptr_val null_ptr ∷ [], (h ∷ [], tt)) $ fjoin t $ s)
