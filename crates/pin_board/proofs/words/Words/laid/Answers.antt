use Rattle.pin_board.proofs.StepLemmas.{opens_kept}
use Rattle.pin_board.proofs.words.Words.laid.Goals as goal

pub of_words-requires : goal.of_words-requires
of_words-requires c = rw c.as_slice.ensures.value (opens_kept _ _ c.in_ok-words.ensures.wide c.in_ok-words.ensures.clock c.in_ok-words.ensures.floor c.in_ok-words.ensures.empty)
