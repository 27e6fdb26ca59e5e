-- The text of a fault, and which fault of a run a fault of its parts is. Source: docs/PROGRAMS.md, "Exit status".
use Rattle.std.specs.Prelude.{⊤, ℕ, List, codes}
use Rattle.listing.specs.declared.nodes.ListingFault.{ListingFault}
use Rattle.listing.specs.declared.nodes.ListingFault.TheVariants.{Write as ListingWrite, Memory as ListingMemory}
use Rattle.listing.specs.declared.whole.InputFault.{InputFault}
use Rattle.listing.specs.declared.whole.InputFault.TheVariants.{Read as InputRead, Memory as InputMemory}
use Rattle.job_server.specs.declared.fault.ServerFault.{ServerFault}
use Rattle.job_server.specs.declared.fault.ServerFault.TheVariants.{Memory as ServerMemory, Missing as ServerMissing, AllWait as ServerAllWait}
use Rattle.job_server.specs.declared.fault.Unserved.{Unserved}
use Rattle.job_server.specs.declared.fault.Unserved.TheVariants.{Load as UnservedLoad, Jobs as UnservedJobs}
use Rattle.job_server.specs.declared.fault.JobsFault.{JobsFault}
use Rattle.job_server.specs.declared.fault.JobsFault.TheVariants.{Read, Write, Memory, Missing, AllWait, Load}
use Rattle.loading.specs.Settings.{settings_of}
use Rattle.loading.specs.Loaded.{IsFaultOf}
use Rattle.loading.specs.declared.fault.LoadFault.TheVariants.{Line as LoadLine, Memory as LoadMemory}

abbrev pub fault_text : JobsFault → List ℕ
fault_text Read = codes "cannot read input"
fault_text Write = codes "cannot write output"
fault_text Memory = codes "out of memory"
fault_text Missing = codes "report missing"
fault_text AllWait = codes "all jobs wait for names that others of them hold"
fault_text (Load (LoadLine fault)) = codes "cannot load the listing"
fault_text (Load LoadMemory) = codes "out of memory"

abbrev pub fault_of : ListingFault → JobsFault
fault_of ListingWrite = Write
fault_of ListingMemory = Memory

abbrev pub fault_of_input : InputFault → JobsFault
fault_of_input InputRead = Read
fault_of_input InputMemory = Memory

abbrev pub fault_of_server : ServerFault → JobsFault
fault_of_server ServerMemory = Memory
fault_of_server ServerMissing = Missing
fault_of_server ServerAllWait = AllWait

abbrev pub fault_of_unserved : Unserved → JobsFault
fault_of_unserved (UnservedLoad fault) = Load fault
fault_of_unserved (UnservedJobs fault) = fault_of_server fault

-- where the listing isn't loaded, that is for its first line that sets nothing, or memory ran out
abbrev pub IsJobsFault : List ℕ → JobsFault → Type 0
IsJobsFault listing Read = ⊤
IsJobsFault listing Write = ⊤
IsJobsFault listing Memory = ⊤
IsJobsFault listing Missing = ⊤
IsJobsFault listing AllWait = ⊤
IsJobsFault listing (Load fault) = IsFaultOf (settings_of listing) fault

-- the writer's fault, or that of memory
abbrev pub IsOfWriting : JobsFault → Type 0
IsOfWriting Read = ⊥
IsOfWriting Write = ⊤
IsOfWriting Memory = ⊤
IsOfWriting Missing = ⊥
IsOfWriting AllWait = ⊥
IsOfWriting (Load fault) = ⊥
