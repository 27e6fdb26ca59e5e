-- What is left of a line after its sentence: of a SET, a KILL and a $GET the key, and of a $ORDER the place.
use Rattle.std.proofs.Common.{◌≡◌, ℕ, List, Option, Some, None, Result, Ok, Err, sym, ap, ◌∙◌}
use Rattle.refusal.specs.declared.Refusal.{Refusal}
use Rattle.refusal.specs.declared.Refusal.TheVariants.{OutOfMemory}
use Rattle.collation.specs.Reference.{Reference}
use Rattle.collation.specs.declared.direction.Direction.{Direction}
use Rattle.key_codec.specs.Draft.{IsDraft}
use Rattle.command.specs.declared.access.Extent.{Extent}
use Rattle.command.specs.declared.access.DataCommand.{DataCommand}
use Rattle.command.specs.declared.access.DataCommand.TheVariants.{Set, Kill, Look}
use Rattle.command.specs.declared.access.Look.TheVariants.{Get, Order}
use Rattle.command.specs.declared.request.Command.{Command}
use Rattle.command.specs.declared.request.Command.TheVariants.{Access}
use Rattle.m_text.specs.Reading.{IsDue}
use Rattle.m_text.specs.Place.{spot_of, unless}
use Rattle.m_text.specs.laws.Faults.{unless_ok}
use Rattle.script.specs.Commands.{command_fault, data_fault}
use Rattle.script.specs.Line.{HasOperands, IsReading, IsRefusalOf, job_of_line, reading_of, spelled_by}
use Rattle.script.specs.Asked.{IsAsked}
use Rattle.script.specs.declared.sentence.Drafts.{Drafts}
use Rattle.script.specs.declared.sentence.DataSentence.{DataSentence}
use Rattle.script.specs.declared.sentence.DataSentence.TheVariants as data_sentences
use Rattle.script.specs.declared.sentence.Sentence.{Sentence}
use Rattle.script.specs.declared.sentence.Sentence.TheVariants as sentences
use Rattle.script.specs.Sentence.{SpellsData}
use Rattle.script.proofs.Due.{due_other}
use Rattle.script.proofs.Judging.{read, faulty}

-- a line whose sentence is that of this data command
pub record IsAskedData (line : List ℕ) (job : ℕ) (c : DataCommand) : Type 0 where
  pub read : spelled_by line ≡ Some (Access c)
  pub owner : job_of_line line ≡ Some job
  pub operands : HasOperands line

pub of_get : (line : List ℕ) (drafts : Drafts) (job : ℕ) → IsAsked line drafts job (sentences.Access data_sentences.Get) → (r : Reference) × IsDraft drafts.first r × IsAskedData line job (Look (Get r None))
of_get line drafts job asked =
    let said = asked.said in
    let spelled : SpellsData drafts data_sentences.Get said.0 = said.2 in
    (spelled.reference, spelled.drafted, record { read = asked.read ∙ ap (λ (c : Command). Some c) (said.1 ∙ ap (λ (d : DataCommand). Access d) spelled.said); owner = asked.owner; operands = asked.operands tt })

pub of_set : (line : List ℕ) (drafts : Drafts) (job : ℕ) → IsAsked line drafts job (sentences.Access data_sentences.Set) → (r : Reference) × IsDraft drafts.first r × IsAskedData line job (Set r drafts.value)
of_set line drafts job asked =
    let said = asked.said in
    let spelled : SpellsData drafts data_sentences.Set said.0 = said.2 in
    (spelled.reference, spelled.drafted, record { read = asked.read ∙ ap (λ (c : Command). Some c) (said.1 ∙ ap (λ (d : DataCommand). Access d) spelled.said); owner = asked.owner; operands = asked.operands tt })

pub of_kill : (line : List ℕ) (drafts : Drafts) (job : ℕ) (extent : Extent) → IsAsked line drafts job (sentences.Access (data_sentences.Kill extent)) → (r : Reference) × IsDraft drafts.first r × IsAskedData line job (Kill r extent)
of_kill line drafts job extent asked =
    let said = asked.said in
    let spelled : SpellsData drafts (data_sentences.Kill extent) said.0 = said.2 in
    (spelled.reference, spelled.drafted, record { read = asked.read ∙ ap (λ (c : Command). Some c) (said.1 ∙ ap (λ (d : DataCommand). Access d) spelled.said); owner = asked.owner; operands = asked.operands tt })

pub of_order : (line : List ℕ) (drafts : Drafts) (job : ℕ) (direction : Direction) → IsAsked line drafts job (sentences.Access (data_sentences.Order direction)) → (r : Reference) × IsDraft drafts.first r × IsAskedData line job (Look (Order (spot_of r) direction))
of_order line drafts job direction asked =
    let said = asked.said in
    let spelled : SpellsData drafts (data_sentences.Order direction) said.0 = said.2 in
    (spelled.reference, spelled.drafted, record { read = asked.read ∙ ap (λ (c : Command). Some c) (said.1 ∙ ap (λ (d : DataCommand). Access d) spelled.said); owner = asked.owner; operands = asked.operands tt })

pub data_read : (line : List ℕ) (job : ℕ) (c d : DataCommand) → IsAskedData line job c → unless (data_fault c) c ≡ Ok d → IsReading line (Ok (job, Access d))
data_read line job c d asked good =
    let p = unless_ok (data_fault c) c d good in
    let whole : unless {A = Command} (data_fault c) (Access c) ≡ Ok (Access d) = ap (λ (f : Option Refusal). unless {A = Command} f (Access c)) p.0 ∙ ap (λ (x : DataCommand). Ok (Access x)) p.1 in
    (read line (Access c) (Access d) job asked.read asked.owner whole, asked.owner)

pub data_faulty : (line : List ℕ) (job : ℕ) (c : DataCommand) (refusal : Refusal) → IsAskedData line job c → IsDue refusal (unless (data_fault c) c) → IsRefusalOf line refusal
data_faulty line job c refusal asked due =
    faulty line (Access c) job refusal asked.read asked.owner (due_other refusal (data_fault c) c (Access c) due) (λ e. asked.operands)
