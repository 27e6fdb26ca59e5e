-- Faults of a run, by the faults of its parts.
use Rattle.std.proofs.Common.{◌≡◌, List, ℕ, Result, Ok, Err, IfErr, refl, sym, subst, ◌∙◌}
use Rattle.std.specs.Prelude.{IsErrOf}
use Rattle.std.specs.Result.{IsErrAnd}
use Rattle.listing.specs.declared.nodes.ListingFault.{ListingFault}
use Rattle.listing.specs.declared.nodes.ListingFault.TheVariants.{Write as ListingWrite, Memory as ListingMemory}
use Rattle.listing.specs.declared.whole.InputFault.{InputFault}
use Rattle.listing.specs.declared.whole.InputFault.TheVariants.{Read as InputRead, Memory as InputMemory}
use Rattle.job_server.specs.declared.fault.ServerFault.TheVariants.{Memory as ServerMemory, Missing as ServerMissing, AllWait as ServerAllWait}
use Rattle.job_server.specs.declared.fault.Unserved.{Unserved}
use Rattle.job_server.specs.declared.fault.Unserved.TheVariants.{Load as UnservedLoad, Jobs as UnservedJobs}
use Rattle.job_server.specs.declared.fault.JobsFault.{JobsFault}
use Rattle.job_server.specs.declared.fault.JobsFault.TheVariants.{Read, Write, Memory, Missing, AllWait, Load}
use Rattle.job_server.specs.Faults.{fault_of, fault_of_input, fault_of_unserved, IsJobsFault, IsOfWriting}
use Rattle.job_server.specs.Loads.{IsUnservedBy}
use Rattle.job_server.proofs.Reading.{error_is, is_error}

-- what holds of a fault, where it is passed on
pub on_fault : {T : Type 0} (r : Result T JobsFault) (fault : JobsFault) (P : JobsFault → Type 0) → IsErrAnd r (λ f. f ≡ fault) → P fault → IfErr r P
on_fault (Ok x) fault P is h = tt
on_fault (Err f) fault P is h = subst P (sym is) h

pub listing_writes : (f : ListingFault) → IsOfWriting (fault_of f)
listing_writes ListingWrite = tt
listing_writes ListingMemory = tt

pub input_is : (listing : List ℕ) (f : InputFault) → IsJobsFault listing (fault_of_input f)
input_is listing InputRead = tt
input_is listing InputMemory = tt

pub unserved_is : (listing : List ℕ) (f : Unserved) → IsUnservedBy listing f → IsJobsFault listing (fault_of_unserved f)
unserved_is listing (UnservedLoad fault) h = h
unserved_is listing (UnservedJobs ServerMemory) h = tt
unserved_is listing (UnservedJobs ServerMissing) h = tt
unserved_is listing (UnservedJobs ServerAllWait) h = tt

unserved_writes : (f : Unserved) → fault_of_unserved f ≡ Write → ⊥
unserved_writes (UnservedLoad fault) e = cc
unserved_writes (UnservedJobs ServerMemory) e = cc
unserved_writes (UnservedJobs ServerMissing) e = cc
unserved_writes (UnservedJobs ServerAllWait) e = cc

-- no fault of the server is the writer's
pub unserved_unwritten : {T : Type 0} (r : Result T JobsFault) (f : Unserved) → IsErrAnd r (λ g. g ≡ fault_of_unserved f) → IsErrOf r Write → ⊥
unserved_unwritten (Ok x) f is w = absurd is
unserved_unwritten {T = T} (Err g) f is w = unserved_writes f (sym is ∙ error_is {T = T} g Write w)

unserved_reads : (f : Unserved) → fault_of_unserved f ≡ Read → ⊥
unserved_reads (UnservedLoad fault) e = cc
unserved_reads (UnservedJobs ServerMemory) e = cc
unserved_reads (UnservedJobs ServerMissing) e = cc
unserved_reads (UnservedJobs ServerAllWait) e = cc

-- no fault of the server is the reader's
pub unserved_unread : {T : Type 0} (r : Result T JobsFault) (f : Unserved) → IsErrAnd r (λ g. g ≡ fault_of_unserved f) → IsErrOf r Read → ⊥
unserved_unread (Ok x) f is w = absurd is
unserved_unread {T = T} (Err g) f is w = unserved_reads f (sym is ∙ error_is {T = T} g Read w)

input_writes : (f : InputFault) → fault_of_input f ≡ Write → ⊥
input_writes InputRead e = cc
input_writes InputMemory e = cc

-- no fault of the input is the writer's
pub input_unwritten : {T : Type 0} (r : Result T JobsFault) (f : InputFault) → IsErrAnd r (λ g. g ≡ fault_of_input f) → IsErrOf r Write → ⊥
input_unwritten (Ok x) f is w = absurd is
input_unwritten {T = T} (Err g) f is w = input_writes f (sym is ∙ error_is {T = T} g Write w)

input_reads : (f : InputFault) → fault_of_input f ≡ Read → f ≡ InputRead
input_reads InputRead e = refl
input_reads InputMemory e = cc

-- the reader's fault is that of the input
pub input_read : {T U : Type 0} (r : Result T JobsFault) (f : InputFault) → IsErrAnd r (λ g. g ≡ fault_of_input f) → IsErrOf r Read → IsErrOf {T = U} (Err f) InputRead
input_read (Ok x) f is w = absurd is
input_read {T = T} (Err g) f is w = is_error f InputRead (input_reads f (sym is ∙ error_is {T = T} g Read w))

input_memories : (f : InputFault) → fault_of_input f ≡ Memory → f ≡ InputMemory
input_memories InputRead e = cc
input_memories InputMemory e = refl

-- a want of memory is that of the input
pub input_memory : {T U : Type 0} (r : Result T JobsFault) (f : InputFault) → IsErrAnd r (λ g. g ≡ fault_of_input f) → IsErrOf r Memory → IsErrOf {T = U} (Err f) InputMemory
input_memory (Ok x) f is w = absurd is
input_memory {T = T} (Err g) f is w = is_error f InputMemory (input_memories f (sym is ∙ error_is {T = T} g Memory w))

writing_reads : (f : JobsFault) → IsOfWriting f → f ≡ Read → ⊥
writing_reads Read h e = absurd h
writing_reads Write h e = cc
writing_reads Memory h e = cc
writing_reads Missing h e = absurd h
writing_reads AllWait h e = absurd h
writing_reads (Load fault) h e = absurd h

-- no fault of writing is the reader's
pub writing_unread : {T : Type 0} (r : Result T JobsFault) (f : JobsFault) → IsErrAnd r (λ g. g ≡ f) → IsOfWriting f → IsErrOf r Read → ⊥
writing_unread (Ok x) f is h w = absurd is
writing_unread {T = T} (Err g) f is h w = writing_reads f h (sym is ∙ error_is {T = T} g Read w)

pub writing_is : (listing : List ℕ) (f : JobsFault) → IsOfWriting f → IsJobsFault listing f
writing_is listing Read h = absurd h
writing_is listing Write h = tt
writing_is listing Memory h = tt
writing_is listing Missing h = absurd h
writing_is listing AllWait h = absurd h
writing_is listing (Load fault) h = absurd h
