-- A block with a line more, and where it ends.
use Rattle.std.proofs.Common.{◌≡◌, ◌<◌, inl, inr, ℕ, List, [], ◌∷◌, ◌++◌, refl, sym, subst}
use Rattle.std.specs.Borrow.{Bor}
use Rattle.command.specs.declared.request.Command.{Command}
use Rattle.command.specs.declared.request.Command.TheVariants.{Halt}
use Rattle.job_scripts.specs.Lines.{lent_lines, Asks}
use Rattle.job_scripts.specs.Blocks.{level_after, level_behind, IsOneBlock, EndsBlock}

pub level_more : (level : ℕ) (cs : List Command) (c : Command) → level_behind level (cs ++ c ∷ []) ≡ level_after c (level_behind level cs)
level_more level [] c = refl
level_more level (x ∷ cs) c = level_more (level_after x level) cs c

pub one_more : (level : ℕ) (cs : List Command) (c : Command) → 0 < level_behind level cs → IsOneBlock level cs → IsOneBlock level (cs ++ c ∷ [])
one_more level [] c stays one = tt
one_more level (x ∷ []) c stays one = (stays, tt)
one_more level (x ∷ (y ∷ cs)) c stays one = (one.0, one_more (level_after x level) (y ∷ cs) c stays one.1)

pub one_same : (level : ℕ) (cs ds : List Command) → cs ≡ ds → IsOneBlock level ds → IsOneBlock level cs
one_same level cs ds same one = subst (λ (es : List Command). IsOneBlock level es) (sym same) one

-- no line is left
pub ends_at_the_end : (job : ℕ) (commands : List Command) (lines : List (Bor (List ℕ))) → lines ≡ [] → EndsBlock job commands (lent_lines lines)
ends_at_the_end job commands lines none = subst (λ (ls : List (Bor (List ℕ))). EndsBlock job commands (lent_lines ls)) (sym none) tt

-- the next line asks for HALT
pub ends_at_halt : (job : ℕ) (commands : List Command) (lines rest : List (List ℕ)) (line : List ℕ) → lines ≡ line ∷ rest → Asks job line Halt → EndsBlock job commands lines
ends_at_halt job commands lines rest line first asks = subst (λ (ls : List (List ℕ)). EndsBlock job commands ls) (sym first) (inr asks)

-- no transaction is open
pub ends_closed : (job : ℕ) (commands : List Command) (lines : List (List ℕ)) → level_behind 1 commands ≡ 0 → EndsBlock job commands lines
ends_closed job commands [] closed = tt
ends_closed job commands (line ∷ lines) closed = inl closed
