-- The machine values of a `VgSession`. Assumes `Logic`.
use Rattle.std.proofs.Common.{◌≡◌, ℕ, List, [], ◌∷◌, ◌++◌, refl, subst}
use seplogic.Ra.Ura.{Ura}
use mir.Val.{Val, vptr, vstruct, of_list}
use types.Logic.{Logic}
use types.Kit.{Item, Goal, Seq, Step, step, ‵, ◌$◌, move, drop, fsplit, fjoin, fpick, fpack, feq_i, feq_l}
use denote.RattleType.{RattleType, Valss}
use denote.Builtin.{RawPtr}
use denote.RawPtr.{Ptr, block_ptr, null_ptr, ptr_val, Testable}
use denote.Steps.{nothing}
use denote.Param.{layout}
use denote.Struct.Struct.{within}
use denote.Struct.Owning.{shape, to}
use Rattle.std.proofs.alloc.Calls.{handle_tells}
use Rattle.std.proofs.cell.Inside.{Good, one}
use Rattle.std.specs.Box.Ownership.{box_owns}
use Rattle.std.specs.contracts.alloc.Global as heap
use Rattle.std.specs.contracts.impls.GlobalAllocator.TheImpl.{ghosts}
use Rattle.std.specs.declared.option.Option.TheVariants.{None, Some}
use Rattle.session_calls.specs.contracts.seat.Seat as seat
use Rattle.vorgushan_c.specs.contracts.seat_handle.VgSession as vg_seat
use Rattle.vorgushan_c.proofs.Values.{both, either_held, heap_al}

abbrev S : RattleType
S = seat.the_row

abbrev Z : RattleType
Z = heap.the_row

abbrev pub VgSession : RattleType
VgSession = vg_seat.the_row

module _ {M : Type 1} {𝓤 : Ura M} {𝓛 : Logic 𝓤} {K : Type 0} {Γ : List (Item 𝓤)} {G : Goal 𝓤 𝓛.H} where
  pub seat_out : K → (d : VgSession.Denot) (vs : List Val)
      → ((h : Val) → d.inside ≡ None → vs ≡ both (ptr_val null_ptr) h ∷ [] → Good (layout Z) h → Seq K 𝓛 (‵ (Z.own_val d.alloc (h ∷ [])) ∷ Γ) G)
      → ((b o : ℕ) (h : Val) (x : S.Denot) → d.inside ≡ Some x → vs ≡ both (vptr b o) h ∷ [] → Good (layout Z) h → Testable (block_ptr b o)
      → Seq K 𝓛 (‵ (box_owns (ghosts.dealloc_token d.alloc) S (block_ptr b o) x) ∷ ‵ (Z.own_val d.alloc (h ∷ [])) ∷ Γ) G)
      → Seq K 𝓛 (‵ (VgSession.own_val d vs) ∷ Γ) G
  seat_out t d vs none one =
      fsplit t $ fpick t (λ vss. fsplit t $ feq_l t (λ ev. fsplit t $ feq_l t (λ ep. fsplit t $ handle_tells heap_al t d.alloc vss.1.0 (λ h ea fits. move t (1 ∷ []) $ drop t $ move t (1 ∷ []) $
      let told : vs ≡ both (ptr_val d.at) h ∷ [] =
      subst (λ (ws : List Val). vs ≡ vstruct (of_list (ptr_val d.at ∷ (ws ++ []))) ∷ []) ea (subst (λ (ps : List Val). vs ≡ vstruct (of_list (ps ++ (vss.1.0 ++ []))) ∷ []) ep ev) in
      either_held S d.alloc t d.at d.inside
      (λ is none_there. none h none_there (subst (λ (p : Ptr). vs ≡ both (ptr_val p) h ∷ []) is told) fits)
      (λ b o x is there u. one b o h x there (subst (λ (p : Ptr). vs ≡ both (ptr_val p) h ∷ []) is told) fits u)))))

  pub seat_in : K → (b o : ℕ) (h : Val) (a : Z.Denot) (x : S.Denot)
      → Step K 𝓛 (‵ (VgSession.own_val (record { at = block_ptr b o; alloc = a; inside = Some x }) (both (vptr b o) h ∷ [])) ∷ Γ) G (‵ (box_owns (ghosts.dealloc_token a) S (block_ptr b o) x) ∷ ‵ (Z.own_val a (h ∷ [])) ∷ Γ) G
  seat_in t b o h a x = step (λ s. let v : Val = both (vptr b o) h in
      nothing t $ move t (2 ∷ 0 ∷ []) $ fjoin t $ feq_i t (List Val) (vptr b o ∷ []) (vptr b o ∷ []) refl $ fjoin t $ feq_i t (List Val) (v ∷ []) (v ∷ []) refl $ fjoin t $
      fpack t (Valss (RawPtr ∷ Z ∷ [])) (within (shape vg_seat.the_type) (to vg_seat.the_type (record { at = block_ptr b o; alloc = a; inside = Some x })) (v ∷ [])) (vptr b o ∷ [], (h ∷ [], tt)) $ fjoin t $ s)

  pub seat_none : K → (h : Val) (a : Z.Denot)
      → Step K 𝓛 (‵ (VgSession.own_val (record { at = null_ptr; alloc = a; inside = None }) (both (ptr_val null_ptr) h ∷ [])) ∷ Γ) G (‵ (Z.own_val a (h ∷ [])) ∷ Γ) G
  seat_none t h a = step (λ s. let v : Val = both (ptr_val null_ptr) h in
      nothing t $ nothing t $ move t (2 ∷ 0 ∷ []) $ fjoin t $ feq_i t (List Val) (ptr_val null_ptr ∷ []) (ptr_val null_ptr ∷ []) refl $ fjoin t $ feq_i t (List Val) (v ∷ []) (v ∷ []) refl $ fjoin t $
      fpack t (Valss (RawPtr ∷ Z ∷ [])) (within (shape vg_seat.the_type) (to vg_seat.the_type (record { at = null_ptr; alloc = a; inside = None })) (v ∷ [])) (ptr_val null_ptr ∷ [], (h ∷ [], tt)) $ fjoin t $ s)
