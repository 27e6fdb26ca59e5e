use Rattle.std.proofs.Common.{ap}
use Rattle.job_core.specs.Sessions.{machine_of}
use Rattle.job_core.proofs.Bases.{horizon_fits, checkpoint_answered, behind_either, base_kept, joined_moved}
use Rattle.job_core.proofs.engine.Engine.checkpoint.Goals as goal

pub checkpoint-requires : goal.checkpoint-requires
checkpoint-requires c = horizon_fits c.oldest-oldest.result c.args.self.now c.requires.whole c.oldest-oldest.ensures

pub returns-clause-whole : goal.returns-clause-whole
returns-clause-whole c = joined_moved c.args.self.now.core c.checkpoint.new.self c.args.self.now.sessions c.requires.whole c.checkpoint.ensures.units c.checkpoint.ensures.store

pub returns-clause-machine : goal.returns-clause-machine
returns-clause-machine c = ap (λ us. machine_of us c.args.self.now.sessions) c.checkpoint.ensures.units

pub returns-clause-behind : goal.returns-clause-behind
returns-clause-behind c =
    behind_either c.oldest-oldest.result c.args.self.now c.requires.whole c.oldest-oldest.ensures c.requires.behind c.checkpoint.result c.checkpoint.new.self _ c.checkpoint.ensures.number c.checkpoint.ensures.base c.checkpoint.ensures.refused
    (ap (λ us. machine_of us c.args.self.now.sessions) c.checkpoint.ensures.units)

pub returns-clause-number : goal.returns-clause-number
returns-clause-number c = checkpoint_answered c.oldest-oldest.result c.args.self.now c.requires.whole c.oldest-oldest.ensures c.requires.behind c.checkpoint.result c.checkpoint.ensures.number

pub returns-clause-refused : goal.returns-clause-refused
returns-clause-refused c = base_kept c.checkpoint.result c.args.self.now.core c.checkpoint.new.self c.checkpoint.ensures.refused
