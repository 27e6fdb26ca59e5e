use Rattle.std.proofs.Common.{◌≡◌, ◌+◌, ◌∙◌, ap, rules}
use Rattle.std.specs.Prelude.{cond}
use Rattle.std.specs.FinMap as finmap
use Rattle.version_store.specs.Versions.{tidied}
use Rattle.collector.proofs.TurnLemmas.{len_visited}
use Rattle.collector.proofs.turning.visit.Goals as goal

pub returns-clause-placed : goal.returns-clause-placed
returns-clause-placed c =
    let m = c.args.store.now.versions in
    let done = c.cut_and_drop in
    let versions : c.cut_and_drop.new.self.versions ≡ tidied c.args.horizon c.args.key m = search rules in
    ap (λ n. finmap.len n + cond done.result.1 1 0) versions
    ∙ ap (λ b. finmap.len (tidied c.args.horizon c.args.key m) + cond b 1 0) done.ensures.bare
    ∙ len_visited c.args.horizon c.args.key m c.requires.placed
