-- The text of a fault, and which fault of a live run a fault of its output is. Source: docs/PROGRAMS.md, "Exit status".
use Rattle.std.specs.Prelude.{ℕ, List, codes}
use Rattle.listing.specs.declared.nodes.ListingFault.{ListingFault}
use Rattle.listing.specs.declared.nodes.ListingFault.TheVariants.{Write as ListingWrite, Memory as ListingMemory}
use Rattle.live_server.specs.declared.fault.LiveFault.{LiveFault}
use Rattle.live_server.specs.declared.fault.LiveFault.TheVariants.{Read, Write, Memory, Stuck}

abbrev pub fault_text : LiveFault → List ℕ
fault_text Read = codes "cannot read input"
fault_text Write = codes "cannot write output"
fault_text Memory = codes "out of memory"
fault_text Stuck = codes "input has ended, and LOCKs wait for names that no job will free"

abbrev pub fault_of : ListingFault → LiveFault
fault_of ListingWrite = Write
fault_of ListingMemory = Memory
