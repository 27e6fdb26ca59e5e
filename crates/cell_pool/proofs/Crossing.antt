-- The parts of a pool may cross threads as their values and their allocator may: none of their formulas names a thread.
use Rattle.std.specs.Prelude.{List, [], ◌∷◌}
use mir.Syntax.{Ty}
use base.Fraction.{full_share}
use base.Fml.{ftrue}
use base.Shift.{Keyless}
use denote.Exit.{Exit, unchanged, leaves, hidden, under}
use denote.RattleType.{RattleType}
use denote.RawPtr.{Ptr, RawPtr, block_ptr, null_ptr, block_of, count_of, lies_at, room_for, in_block}
use denote.Struct.Struct.{exits_of}
use denote.Struct.Owning.{shape, fields, to}
use denote.Struct.Lending.{lent_at}
use denote.Param.Send.{IsSend, IsSync, Frees, Quiet, Common, AllSend, part_keyless, owning_send, struct_send, struct_sync, sendable}
use Rattle.std.specs.declared.alloc.Allocator.{Ghosts}
use Rattle.std.proofs.marker.PhantomData.TheSendSync as marker
use Rattle.cell_pool.specs.Ownership.{CellPlace, two_rooms, frame, cell_owns, spare, spares, stock, value_place}
use Rattle.cell_pool.specs.contracts.cell.Cell as Cell
use Rattle.cell_pool.specs.contracts.free.Free as Free
use Rattle.cell_pool.specs.contracts.page.Lease as Lease
use Rattle.cell_pool.specs.contracts.page.Stock as Stock

quiet : {D X : Type 0} (f : D → X) (e : Exit X) → Quiet e → Quiet (hidden (under f e))
quiet f unchanged q = λ x w. tt
quiet f (leaves L l S s r₀) q = λ d. q (f d)

lies : (R : RattleType) → IsSend R → (p : Ptr) (x : R.Denot) → Keyless (lies_at R full_share p x)
lies R s (block_ptr b o) x = part_keyless R s full_share x b o
lies R s null_ptr x = tt

room : (τ : Ty) (p : Ptr) → Keyless (room_for τ p)
room τ (block_ptr b o) = tt
room τ null_ptr = tt

inside : (p : Ptr) → Keyless (in_block p ftrue)
inside (block_ptr b o) = tt
inside null_ptr = tt

seen : (R : RattleType) → IsSync R → (p : Ptr) (x : R.Denot) → Common (lent_at R p x)
seen R y p x κ = (inside p, y.shared x (block_of p) (count_of p) κ)

pointer_send : IsSend RawPtr
pointer_send = search sendable

pointer_sync : IsSync RawPtr
pointer_sync = search sendable

module _ (R : RattleType) where
  two_rooms-Keyless : (p : Ptr) → Keyless (two_rooms R p)
  two_rooms-Keyless p = (room _ _, room _ _)

  frame-Keyless : (page p : Ptr) → Keyless (frame R page p)
  frame-Keyless page p = λ _. (two_rooms-Keyless p, room _ p)

  spare-Keyless : (page p q : Ptr) → Keyless (spare R page p q)
  spare-Keyless page p q = (lies RawPtr pointer_send _ q, (room _ _, frame-Keyless page p))

  spares-Keyless : (head : Ptr) (cs : List CellPlace) → Keyless (spares R head cs)
  spares-Keyless head [] = tt
  spares-Keyless head (c ∷ cs) = λ _ q. (spare-Keyless c.1 c.0 q, spares-Keyless q cs)

  stock-Keyless : (ps : List Ptr) → Keyless (stock R ps)
  stock-Keyless [] = tt
  stock-Keyless (p ∷ ps) = ((λ _. room _ p), stock-Keyless ps)

  cell_owns-Keyless : IsSend R → (page p : Ptr) (x : R.Denot) → Keyless (cell_owns R page p x)
  cell_owns-Keyless s page p x = (lies R s _ x, (room _ _, frame-Keyless page p))

  pub Cell-send : IsSend R → IsSend (Cell.the_row R)
  Cell-send s =
      let O = Cell.the_type R in let all : AllSend (fields O) = (pointer_send, tt) in
      owning_send O all (λ d. cell_owns-Keyless s d.page d.ptr d.value) (λ k. quiet (to O) (exits_of k (fields O)) ((struct_send (shape O) all).leaving k))

  pub Cell-sync : IsSync R → IsSync (Cell.the_row R)
  Cell-sync y = let O = Cell.the_type R in record { shared = λ d b o κ. ((struct_sync (shape O) (pointer_sync, tt)).shared (to O d) b o κ, seen R y (value_place R d.ptr) d.value κ) }

  pub Free-send : IsSend (Free.the_row R)
  Free-send =
      let O = Free.the_type R in let all : AllSend (fields O) = (pointer_send, tt) in
      owning_send O all (λ d. spares-Keyless d.head d.spots) (λ k. quiet (to O) (exits_of k (fields O)) ((struct_send (shape O) all).leaving k))

  pub Free-sync : IsSync (Free.the_row R)
  Free-sync = record { shared = λ d b o κ q. part_keyless (Free.the_row R) Free-send q d b o }

  pub Stock-send : IsSend (Stock.the_row R)
  Stock-send =
      let O = Stock.the_type R in let all : AllSend (fields O) = (marker.the_field_send RawPtr, tt) in
      owning_send O all (λ d. stock-Keyless d.pages) (λ k. quiet (to O) (exits_of k (fields O)) ((struct_send (shape O) all).leaving k))

  pub Stock-sync : IsSync (Stock.the_row R)
  Stock-sync = record { shared = λ d b o κ q. part_keyless (Stock.the_row R) Stock-send q d b o }

  module _ (B : RattleType) (g : Ghosts B.Denot) where
    pub Lease-send : Frees g g.dealloc_token → IsSend (Lease.the_row R B g)
    Lease-send f =
        let O = Lease.the_type R B g in let all : AllSend (fields O) = (pointer_send, (marker.the_field_send B, tt)) in
        owning_send O all (λ d. f.frees d.alloc _ d.ptr) (λ k. quiet (to O) (exits_of k (fields O)) ((struct_send (shape O) all).leaving k))

    pub Lease-sync : Frees g g.dealloc_token → IsSync (Lease.the_row R B g)
    Lease-sync f = record { shared = λ d b o κ q. part_keyless (Lease.the_row R B g) (Lease-send f) q d b o }
