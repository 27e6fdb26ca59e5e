use Rattle.std.proofs.Common.{length}
use Rattle.m_text.proofs.front.+is_word.Given as goal

abbrev pub decreases-is_word : goal.decreases-is_word
decreases-is_word l = length l.word.now
