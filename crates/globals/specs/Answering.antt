-- What a data command has to be given before it changes a database, and why it is refused. Source: docs/RULES.md, "Refusals".
use Rattle.std.specs.Prelude.{◌≡◌, ◌⊎◌, ℕ, List, [], ◌∷◌, Option, Some, None, if◌then◌else◌}
use Rattle.refusal.specs.declared.Refusal.{Refusal}
use Rattle.refusal.specs.declared.Refusal.TheVariants.{OutOfMemory, MergeOverlap}
use Rattle.collation.specs.Reference.{Reference}
use Rattle.collation.specs.Database.{Database}
use Rattle.collation.specs.Levels.{overlap}
use Rattle.collation.specs.Answers.{merged}
use Rattle.command.specs.declared.access.DataCommand.{DataCommand}
use Rattle.command.specs.declared.access.DataCommand.TheVariants.{Set, Kill, Merge, Increment, Look}
use Rattle.command.specs.Data.{look_refusal, sum_at}

-- what MERGE and $INCREMENT set; the others set nothing but what they hold themselves
abbrev pub copies_of : DataCommand → Database → List (Reference × List ℕ)
copies_of (Set r v) m = []
copies_of (Kill r extent) m = []
copies_of (Merge a b) m = merged a b m
copies_of (Increment r n) m = (r, sum_at r n m) ∷ []
copies_of (Look look) m = []

-- the command's own rule refuses it, or memory was refused while the rule was looked at
abbrev pub IsRuleOrMemory : Refusal → Option Refusal → Type 0
IsRuleOrMemory refusal rule = (rule ≡ Some refusal) ⊎ (refusal ≡ OutOfMemory)

-- the refusal by a rule that is looked at before anything takes memory
abbrev pub early_refusal : DataCommand → Option Refusal
early_refusal (Merge a b) = if overlap a b then Some MergeOverlap else None
early_refusal (Look look) = look_refusal look
early_refusal change = None
