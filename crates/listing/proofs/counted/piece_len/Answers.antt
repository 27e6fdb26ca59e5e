use Rattle.std.proofs.Common.{◌≡◌, ◌+◌, ◌-◌, ℕ, get_or, refl, sym, subst, arith, inl, inr}
use Rattle.std.proofs.lemmas.List.{length-take-le}
use Rattle.listing.proofs.Pieces.{end_in_front, none_in_front}
use Rattle.listing.proofs.counted.piece_len.Goals as goal

less_one : (n : ℕ) → n ≡ n + 1 - 1
less_one n = omega arith

pub slice_bounds-rfind_byte-end : goal.slice_bounds-rfind_byte-end
slice_bounds-rfind_byte-end c = sym (length-take-le 4096 c.args.text.now (omega (arith, c.if-text-le-PIECE_BYTES.false)))

pub overflow_add-result : goal.overflow_add-result
overflow_add-result c =
    let e = end_in_front 4096 c.args.text.now c.in-Some.end (omega (arith, c.if-text-le-PIECE_BYTES.false)) c.in-Some.ensures in
    omega (arith, e.0)

pub returns-in-Some-clause-some : goal.returns-in-Some-clause-some
returns-in-Some-clause-some c =
    let e = end_in_front 4096 c.args.text.now c.in-Some.end (omega (arith, c.if-text-le-PIECE_BYTES.false)) c.in-Some.ensures in
    (omega arith, omega (arith, e.0, c.if-text-le-PIECE_BYTES.false))

pub returns-in-Some-clause-line : goal.returns-in-Some-clause-line
returns-in-Some-clause-line c =
    let e = end_in_front 4096 c.args.text.now c.in-Some.end (omega (arith, c.if-text-le-PIECE_BYTES.false)) c.in-Some.ensures in
    inr (inl (subst (λ (n : ℕ). get_or c.args.text.now n 0 ≡ 10) (less_one c.in-Some.end) e.1))

pub returns-in-Some-clause-few : goal.returns-in-Some-clause-few
returns-in-Some-clause-few c =
    let e = end_in_front 4096 c.args.text.now c.in-Some.end (omega (arith, c.if-text-le-PIECE_BYTES.false)) c.in-Some.ensures in
    omega (arith, e.0)

pub returns-in-None-clause-line : goal.returns-in-None-clause-line
returns-in-None-clause-line c = inr (inr (refl, none_in_front 4096 c.args.text.now (omega (arith, c.if-text-le-PIECE_BYTES.false)) c.in-None.ensures))
