-- How far a draw has come.
use Rattle.std.proofs.Common.{◌≡◌, ℕ, ◌+◌, ◌≤◌, min, max, true, [], ◌∷◌, length, sym, refl, ap, ◌∙◌, arith}
use Rattle.std.proofs.lemmas.List.Sums.{fold-append}
use Rattle.std.specs.List.{fold}
use lib.ListN.{length-append}
use Rattle.pin_board.specs.declared.view.DeskView.{DeskView}
use Rattle.pin_board.proofs.StepLemmas.{fold_min_le}
use Rattle.pin_board.specs.Views.{passed, began, lifted}

-- the slots before this place are loaded, and this is the least so far
pub record IsDrawing (before now : DeskView) (place horizon : ℕ) : Type 0 where
  pub log : now.log ≡ before.log
  pub given : now.given ≡ before.given
  pub high : now.high ≡ before.high
  pub seats : now.seats ≡ before.seats
  pub dealt : now.dealt ≡ before.dealt
  pub raised : now.raised ≡ true
  pub floor : now.floor ≡ max before.floor (length before.log)
  pub clock : now.read ≡ length before.log
  pub count : length now.loaded ≡ place
  pub least_is : horizon ≡ fold min now.read now.loaded

pub drawing_first : (d : DeskView) (n : ℕ) → n ≡ length d.log → IsDrawing d (lifted (began d n)) 0 n
drawing_first d n now = record { log = refl; given = refl; high = refl; seats = refl; dealt = refl; raised = refl; floor = ap (λ (x : ℕ). max d.floor x) now; clock = now; count = refl; least_is = refl }

pub drawing_next : (before d : DeskView) (place horizon x : ℕ) → IsDrawing before d place horizon → IsDrawing before (passed d x) (place + 1) (min horizon x)
drawing_next before d place horizon x s = record {
  log = s.log;
  given = s.given;
  high = s.high;
  seats = s.seats;
  dealt = s.dealt;
  raised = s.raised;
  floor = s.floor;
  clock = s.clock;
  count = (let c = s.count in omega (arith, length-append d.loaded (x ∷ [])));
  least_is = ap (λ (h : ℕ). min h x) s.least_is ∙ sym (fold-append min d.read d.loaded (x ∷ []));
}

pub drawing_now : (before now : DeskView) (place horizon : ℕ) → IsDrawing before now place horizon → horizon ≤ length before.log
drawing_now before now place horizon s = let a = fold_min_le now.read now.loaded in let b = s.clock in let c = s.least_is in omega arith
