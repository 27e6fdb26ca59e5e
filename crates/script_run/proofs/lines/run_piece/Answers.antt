use Rattle.std.proofs.Common.{◌≡◌, ◌+◌, ◌-◌, ◌++◌, suc, List, ℕ, length, take, drop, ap, ◌∙◌, add-one, refl}
use Rattle.std.specs.Io.BufRead.{strip_last}
use Rattle.script_run.proofs.Runs.{no_end_piece, joined_lines, joined_broke, joined_broke_first, RanFront-none, RanFront-is, BrokeFront-before, BrokeFront-after, nothing_begun}
use Rattle.listing.specs.laws.Bytes.{rest_of, on_err}
use Rattle.script_run.proofs.Stopped.{passed_on, StoppedFront-before, StoppedFront-after, joined_stopped, joined_stopped_first}
use Rattle.script_run.proofs.lines.run_piece.Goals as goal

pub returns-in_err-extend_line-clause-err : goal.returns-in_err-extend_line-clause-err
returns-in_err-extend_line-clause-err g c = on_err _ _ (BrokeFront-before _ _ _)

pub returns-in_default-clause-ran : goal.returns-in_default-clause-ran
returns-in_default-clause-ran g c = RanFront-is _ _ _ _ _ _ _ c.in_ok-extend_line.ensures (RanFront-none _ _ _ _ refl refl refl refl)

pub returns-in_default-clause-begun : goal.returns-in_default-clause-begun
returns-in_default-clause-begun g c = no_end_piece _ _ _ c.requires c.in_default.ensures c.in_ok-extend_line.ensures

pub returns-in_err-end_line-clause-err : goal.returns-in_err-end_line-clause-err
returns-in_err-end_line-clause-err g c =
    let begun : List ℕ = c.args.begun.now.items in
    let line-is = ap (λ (front : List ℕ). strip_last 13 (begun ++ front)) c.split_at.ensures.front in
    on_err _ _ (joined_broke_first begun c.args.piece.now _ c.in-Some.end _ _ _ c.requires c.in-Some.ensures line-is c.in_err-end_line.ensures.err)

pub returns-in_err-at-clause-err : goal.returns-in_err-at-clause-err
returns-in_err-at-clause-err g c =
    let begun : List ℕ = c.args.begun.now.items in
    let piece : List ℕ = c.args.piece.now in
    let end : ℕ = c.in-Some.end in
    let line-is = ap (λ (front : List ℕ). strip_last 13 (begun ++ front)) c.split_at.ensures.front in
    let rest-is : take (length piece - (end + 1)) (drop (end + 1) piece) ≡ drop (suc end) piece = rest_of piece (end + 1) ∙ ap (λ (n : ℕ). drop n piece) (add-one end) in
    on_err _ _ (joined_broke begun piece _ _ end _ _ _ _ _ c.requires c.in-Some.ensures line-is rest-is c.in_ok-end_line.ensures.ran c.in_err-at.ensures.err)

pub returns-in_err-extend_line-2-clause-err : goal.returns-in_err-extend_line-2-clause-err
returns-in_err-extend_line-2-clause-err g c =
    let begun : List ℕ = c.args.begun.now.items in
    let piece : List ℕ = c.args.piece.now in
    let end : ℕ = c.in-Some.end in
    let line-is = ap (λ (front : List ℕ). strip_last 13 (begun ++ front)) c.split_at.ensures.front in
    let rest-is : take (length piece - (end + 1)) (drop (end + 1) piece) ≡ drop (suc end) piece = rest_of piece (end + 1) ∙ ap (λ (n : ℕ). drop n piece) (add-one end) in
    on_err _ _ (BrokeFront-after _ _ _ _ _ _ _ (joined_lines begun piece _ _ _ end _ _ _ _ _ _ c.requires c.in-Some.ensures line-is rest-is c.in_ok-end_line.ensures.ran c.in_ok-at.ensures.ran) (nothing_begun _ _))

pub returns-clause-ran : goal.returns-clause-ran
returns-clause-ran g c =
    let begun : List ℕ = c.args.begun.now.items in
    let piece : List ℕ = c.args.piece.now in
    let end : ℕ = c.in-Some.end in
    let rest : List ℕ = take (length piece - (end + 1)) (drop (end + 1) piece) in
    let line-is = ap (λ (front : List ℕ). strip_last 13 (begun ++ front)) c.split_at.ensures.front in
    let rest-is : rest ≡ drop (suc end) piece = rest_of piece (end + 1) ∙ ap (λ (n : ℕ). drop n piece) (add-one end) in
    let after-is = c.in_ok-extend_line-2.ensures ∙ ap (λ (t : List ℕ). t ++ take (length rest - c.in_ok-at.at) (drop c.in_ok-at.at rest)) c.in_ok-end_line.ensures.begun ∙ rest_of rest c.in_ok-at.at in
    RanFront-is _ _ _ _ _ _ _ after-is
    (joined_lines begun piece _ rest _ end _ _ _ _ _ _ c.requires c.in-Some.ensures line-is rest-is c.in_ok-end_line.ensures.ran c.in_ok-at.ensures.ran)

-- ---- where memory was refused

pub returns-in_err-extend_line-clause-stopped : goal.returns-in_err-extend_line-clause-stopped
returns-in_err-extend_line-clause-stopped g c = λ _. StoppedFront-before _ _ _ _ refl refl

pub returns-in_err-end_line-clause-stopped : goal.returns-in_err-end_line-clause-stopped
returns-in_err-end_line-clause-stopped g c =
    let begun : List ℕ = c.args.begun.now.items in
    let line-is = ap (λ (front : List ℕ). strip_last 13 (begun ++ front)) c.split_at.ensures.front in
    λ memory. joined_stopped_first begun c.args.piece.now _ c.in-Some.end _ _ _ _ c.requires c.in-Some.ensures line-is (c.in_err-end_line.ensures.stopped (passed_on _ _ c.from_residual-in_err-end_line.ensures.1 memory))

pub returns-in_err-at-clause-stopped : goal.returns-in_err-at-clause-stopped
returns-in_err-at-clause-stopped g c =
    let begun : List ℕ = c.args.begun.now.items in
    let piece : List ℕ = c.args.piece.now in
    let end : ℕ = c.in-Some.end in
    let line-is = ap (λ (front : List ℕ). strip_last 13 (begun ++ front)) c.split_at.ensures.front in
    let rest-is : take (length piece - (end + 1)) (drop (end + 1) piece) ≡ drop (suc end) piece = rest_of piece (end + 1) ∙ ap (λ (n : ℕ). drop n piece) (add-one end) in
    λ memory. joined_stopped begun piece _ _ end _ _ _ _ _ _ c.requires c.in-Some.ensures line-is rest-is c.in_ok-end_line.ensures.ran (c.in_err-at.ensures.stopped (passed_on _ _ c.from_residual-in_err-at.ensures.1 memory))

pub returns-in_err-extend_line-2-clause-stopped : goal.returns-in_err-extend_line-2-clause-stopped
returns-in_err-extend_line-2-clause-stopped g c =
    let begun : List ℕ = c.args.begun.now.items in
    let piece : List ℕ = c.args.piece.now in
    let end : ℕ = c.in-Some.end in
    let line-is = ap (λ (front : List ℕ). strip_last 13 (begun ++ front)) c.split_at.ensures.front in
    let rest-is : take (length piece - (end + 1)) (drop (end + 1) piece) ≡ drop (suc end) piece = rest_of piece (end + 1) ∙ ap (λ (n : ℕ). drop n piece) (add-one end) in
    λ _. StoppedFront-after _ _ _ _ _ _ _ (joined_lines begun piece _ _ _ end _ _ _ _ _ _ c.requires c.in-Some.ensures line-is rest-is c.in_ok-end_line.ensures.ran c.in_ok-at.ensures.ran) refl refl

-- ---- what stays gathered

pub returns-clause-few : goal.returns-clause-few
returns-clause-few g c = λ few. c.in_ok-at.ensures.few (c.in_ok-end_line.ensures.few few)
