use Rattle.std.proofs.Common.{◌≡◌, length, refl, ◌∙◌, arith}
use Rattle.std.proofs.lemmas.Bool.Decides.{nat_tests}
use Rattle.script_run.proofs.Stands.{answered, begun_at, begun_piece, begun_end, wrote_all, left_all, stands_first, stands_next}
use Rattle.listing.specs.laws.Bytes.{on_err}
use Rattle.script_run.proofs.Stopped.{is_memory, gathered_at, gathered_piece, gathered_end}
use Rattle.script_run.proofs.run.run_pieces.Goals as goal

pub pieces-init : goal.pieces-init
pieces-init g c = record { stands = stands_first _ _ _ _ _ refl c.requires.jobs c.requires.out c.requires.outcome c.new-begun.ensures.items c.requires.good; reads = refl; writes = refl }

pub returns-in_err-piece-clause-begun : goal.returns-in_err-piece-clause-begun
returns-in_err-piece-clause-begun g c = on_err _ _ (begun_at _ _ _ _ _ _ _ _ c.pieces.invariant.stands)

pub returns-in_err-piece-clause-answered : goal.returns-in_err-piece-clause-answered
returns-in_err-piece-clause-answered g c = λ _. answered _ _ _ _ _ _ _ _ c.pieces.invariant.stands c.in_err-piece.ensures.err

pub returns-in_err-take_piece-clause-begun : goal.returns-in_err-take_piece-clause-begun
returns-in_err-take_piece-clause-begun g c = on_err _ _ (begun_piece _ _ _ _ _ _ _ _ _ _ _ c.pieces.invariant.stands c.in_ok-piece.ensures.read c.in_err-take_piece.ensures.err)

pub returns-clause-begun : goal.returns-clause-begun
returns-clause-begun g c = begun_at _ _ _ _ _ _ _ _ c.pieces.invariant.stands

pub returns-in_err-finish-clause-begun : goal.returns-in_err-finish-clause-begun
returns-in_err-finish-clause-begun g c =
    let none : length c.in_ok-piece.piece.now ≡ 0 = grind (arith, nat_tests, c.is_empty.ensures, c.if-is_empty.true) in
    let ended = rw c.deref.ensures.value at c.in_err-finish.ensures.err in
    on_err _ _ (begun_end _ _ _ _ _ _ _ _ _ _ _ c.pieces.invariant.stands c.in_ok-piece.ensures.read none ended)

pub returns-then-is_empty-clause-output : goal.returns-then-is_empty-clause-output
returns-then-is_empty-clause-output g c =
    let none : length c.in_ok-piece.piece.now ≡ 0 = grind (arith, nat_tests, c.is_empty.ensures, c.if-is_empty.true) in
    let ended = rw c.deref.ensures.value at c.in_ok-finish.ensures.ran in
    wrote_all _ _ _ _ _ _ _ _ _ _ _ _ c.pieces.invariant.stands c.in_ok-piece.ensures.read none ended

pub returns-then-is_empty-clause-left : goal.returns-then-is_empty-clause-left
returns-then-is_empty-clause-left g c =
    let none : length c.in_ok-piece.piece.now ≡ 0 = grind (arith, nat_tests, c.is_empty.ensures, c.if-is_empty.true) in
    let ended = rw c.deref.ensures.value at c.in_ok-finish.ensures.ran in
    left_all _ _ _ _ _ _ _ _ _ _ _ _ c.pieces.invariant.stands c.in_ok-piece.ensures.read none ended

pub returns-then-is_empty-clause-at_end : goal.returns-then-is_empty-clause-at_end
returns-then-is_empty-clause-at_end g c =
    let none : length c.in_ok-piece.piece.now ≡ 0 = grind (arith, nat_tests, c.is_empty.ensures, c.if-is_empty.true) in
    c.in_ok-piece.ensures.read.ended none

pub pieces-preserved : goal.pieces-preserved
pieces-preserved g c =
    let ran = c.in_ok-take_piece.ensures in
    record {
      stands = stands_next _ _ _ _ _ _ _ _ _ _ _ _ c.pieces.invariant.stands c.in_ok-piece.ensures.read ran.ran ran.begun ran.empty;
      reads = c.in_ok-piece.ensures.kept ∙ c.pieces.invariant.reads;
      writes = ran.counts ∙ c.pieces.invariant.writes;
    }

-- ---- where memory was refused

pub returns-clause-gathered : goal.returns-clause-gathered
returns-clause-gathered g c = λ _. gathered_at _ _ _ _ _ _ _ _ c.pieces.invariant.stands

pub returns-in_err-take_piece-clause-gathered : goal.returns-in_err-take_piece-clause-gathered
returns-in_err-take_piece-clause-gathered g c = λ memory. gathered_piece _ _ _ _ _ _ _ _ _ _ _ _ c.pieces.invariant.stands c.in_ok-piece.ensures.read (c.in_err-take_piece.ensures.stopped (is_memory _ _ c.from_residual-in_err-take_piece.ensures.1 memory))

pub returns-in_err-finish-clause-gathered : goal.returns-in_err-finish-clause-gathered
returns-in_err-finish-clause-gathered g c =
    let none : length c.in_ok-piece.piece.now ≡ 0 = grind (arith, nat_tests, c.is_empty.ensures, c.if-is_empty.true) in
    λ memory. gathered_end _ _ _ _ _ _ _ _ _ _ _ _ c.pieces.invariant.stands c.in_ok-piece.ensures.read none (rw c.deref.ensures.value at c.in_err-finish.ensures.stopped (is_memory _ _ c.from_residual-in_err-finish.ensures.1 memory))
