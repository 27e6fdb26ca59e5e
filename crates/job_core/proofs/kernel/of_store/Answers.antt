use Rattle.std.proofs.Common.{sym, ◌∙◌}
use Rattle.version_store.specs.Versions.{content_now}
use Rattle.journal.specs.laws.Adopted.{sorted_entries}
use Rattle.job_core.proofs.Adopting.{none_at_zero, core_adopted, has_adopted}
use Rattle.job_core.proofs.kernel.of_store.Goals as goal

pub adopt-requires-clause-sorted : goal.adopt-requires-clause-sorted
adopt-requires-clause-sorted c = sorted_entries c.args.nodes.items (content_now c.args.store) c.requires

pub adopt-requires-clause-nothing : goal.adopt-requires-clause-nothing
adopt-requires-clause-nothing c = λ z. none_at_zero c.args.store c.args.nodes.items c.now-number.ensures.nothing c.requires (sym c.now-number.ensures.present ∙ z)

pub invariant_of-result : goal.invariant_of-result
invariant_of-result c =
    core_adopted c.args.store c.raise_cut.new.self c.args.nodes.items c.adopt.result.units c.adopt.result.base c.now-number.result c.now-number.ensures.nothing c.now-number.type_inv c.now-number.ensures.present
    c.now-number.ensures.cut c.in-Ok.ensures.ok c.requires c.adopt.ensures.units c.adopt.ensures.base c.new.result c.new-in-Ok.result c.new.ensures c.new-in-Ok.ensures

pub returns : goal.returns
returns c =
    has_adopted c.args.store c.raise_cut.new.self c.args.nodes.items c.adopt.result.units c.adopt.result.base c.now-number.result c.now-number.ensures.nothing c.now-number.type_inv c.now-number.ensures.present
    c.now-number.ensures.cut c.in-Ok.ensures.ok c.requires c.adopt.ensures.units c.adopt.ensures.base c.adopt.result.ends c.adopt.ensures.ends
