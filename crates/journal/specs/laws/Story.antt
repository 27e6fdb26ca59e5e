-- Stories, one after another.
use Rattle.std.specs.Prelude.{◌≡◌, ℕ, List, [], ◌∷◌, ◌++◌, length}
use Rattle.std.proofs.Common.{refl, arith}
use Rattle.command.specs.declared.request.Command.{Command}
use Rattle.command.specs.declared.request.Reply.{Reply}
use Rattle.journal.specs.Story.{Machine, told, story_of}

-- lists of steps joined tell their stories, the second from where the first ends
pub story_of-append : (steps more : List (ℕ × Command)) (replies others : List Reply) (s : Machine) → length replies ≡ length steps →
    story_of (steps ++ more) (replies ++ others) s ≡ story_of more others (story_of steps replies s)
story_of-append [] more [] others s e = refl
story_of-append [] more (r ∷ replies) others s e = absurd (omega arith)
story_of-append (x ∷ steps) more [] others s e = absurd (omega arith)
story_of-append (x ∷ steps) more (r ∷ replies) others s e = story_of-append steps more replies others (told x.0 x.1 r s) (omega arith)
