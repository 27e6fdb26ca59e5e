-- The text of a fault, and which fault of a script a fault of its output is. Source: docs/PROGRAMS.md, "Exit status".
use Rattle.std.specs.Prelude.{ℕ, List, codes}
use Rattle.listing.specs.declared.nodes.ListingFault.{ListingFault}
use Rattle.listing.specs.declared.nodes.ListingFault.TheVariants.{Write as ListingWrite, Memory as ListingMemory}
use Rattle.script_run.specs.declared.fault.Fault.{Fault}
use Rattle.script_run.specs.declared.fault.Fault.TheVariants.{Read, Write, Memory}

abbrev pub fault_text : Fault → List ℕ
fault_text Read = codes "cannot read input"
fault_text Write = codes "cannot write output"
fault_text Memory = codes "out of memory"

abbrev pub fault_of : ListingFault → Fault
fault_of ListingWrite = Write
fault_of ListingMemory = Memory
