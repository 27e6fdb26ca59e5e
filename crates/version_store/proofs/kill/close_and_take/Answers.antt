use Rattle.std.proofs.Common.{ℕ, ◌+◌, List, refl, sym, ap, subst, ◌∙◌}
use Rattle.std.specs.Prelude.{not}
use Rattle.std.specs.List.{filter}
use Rattle.std.specs.FinMap as finmap
use Rattle.collation.specs.Reference.{Reference}
use Rattle.collation.specs.Database.{is_under}
use Rattle.version_store.specs.Versions.{cells_in}
use Rattle.version_store.specs.Tied.{versions_in, rows, IsTied}
use Rattle.version_store.proofs.AloneLemmas.{open_alone, pairs_alone, tied_alone, versions_alone, spare_alone, cells_alone}
use Rattle.version_store.proofs.kill.close_and_take.Goals as goal

pub close-requires : goal.close-requires
close-requires c = open_alone c.args.root.now c.in-Some.id c.args.tree.now.pairs c.args.chains.now c.args.chains.now c.requires.0 c.requires.1 c.in-Some.ensures.value

pub returns-in-Some-clause-pairs : goal.returns-in-Some-clause-pairs
returns-in-Some-clause-pairs c = c.in-Some.ensures.pairs refl ∙ pairs_alone c.args.root.now c.in-Some.id c.args.tree.now.pairs c.args.chains.now c.close.new.self c.requires.0 c.requires.1 c.in-Some.ensures.value (c.in-Some.ensures.alone refl) c.close.ensures.chains c.close.ensures.spare

pub returns-in-Some-clause-tied : goal.returns-in-Some-clause-tied
returns-in-Some-clause-tied c = λ now tied.
    subst (λ (ps : List (Reference × ℕ)). IsTied ps c.close.new.self now) (sym (c.in-Some.ensures.pairs refl ∙ pairs_alone c.args.root.now c.in-Some.id c.args.tree.now.pairs c.args.chains.now c.close.new.self c.requires.0 c.requires.1 c.in-Some.ensures.value (c.in-Some.ensures.alone refl) c.close.ensures.chains c.close.ensures.spare)) (tied_alone c.args.root.now c.in-Some.id c.args.tree.now.pairs c.args.chains.now c.close.new.self c.requires.0 c.requires.1 c.in-Some.ensures.value (c.in-Some.ensures.alone refl) c.close.ensures.chains c.close.ensures.spare now tied)

pub returns-in-Some-clause-versions : goal.returns-in-Some-clause-versions
returns-in-Some-clause-versions c = ap (versions_in c.close.new.self) (c.in-Some.ensures.pairs refl ∙ pairs_alone c.args.root.now c.in-Some.id c.args.tree.now.pairs c.args.chains.now c.close.new.self c.requires.0 c.requires.1 c.in-Some.ensures.value (c.in-Some.ensures.alone refl) c.close.ensures.chains c.close.ensures.spare) ∙ versions_alone c.args.root.now c.in-Some.id c.args.tree.now.pairs c.args.chains.now c.close.new.self c.requires.0 c.requires.1 c.in-Some.ensures.value (c.in-Some.ensures.alone refl) c.close.ensures.chains c.close.ensures.spare

pub returns-in-Some-clause-spare : goal.returns-in-Some-clause-spare
returns-in-Some-clause-spare c = spare_alone c.args.root.now c.in-Some.id c.args.tree.now.pairs c.args.chains.now c.close.new.self c.requires.0 c.requires.1 c.in-Some.ensures.value (c.in-Some.ensures.alone refl) c.close.ensures.chains c.close.ensures.spare

pub returns-in-Some-clause-cells : goal.returns-in-Some-clause-cells
returns-in-Some-clause-cells c =
    ap (λ ps. c.close.new.self.spare + cells_in (rows c.close.new.self ps)) (c.in-Some.ensures.pairs refl ∙ pairs_alone c.args.root.now c.in-Some.id c.args.tree.now.pairs c.args.chains.now c.close.new.self c.requires.0 c.requires.1 c.in-Some.ensures.value (c.in-Some.ensures.alone refl) c.close.ensures.chains c.close.ensures.spare) ∙ cells_alone c.args.root.now c.in-Some.id c.args.tree.now.pairs c.args.chains.now c.close.new.self c.requires.0 c.requires.1 c.in-Some.ensures.value (c.in-Some.ensures.alone refl) c.close.ensures.chains c.close.ensures.spare

-- ---- as before, where it isn't taken out so: the tree is the same

pub close_under-placed-requires : goal.close_under-placed-requires
close_under-placed-requires c = (c.requires.0, subst (λ (ps : List (Reference × ℕ)). IsTied ps c.args.chains.now c.requires.0) (sym (c.take_alone.ensures.missed c.in-None.is)) c.requires.1)

pub take_under-requires : goal.take_under-requires
take_under-requires c = c.close_under-placed.ensures.told

pub returns-in-None-clause-pairs : goal.returns-in-None-clause-pairs
returns-in-None-clause-pairs c = c.take_under.ensures ∙ ap (filter (λ e. not (is_under c.args.root.now e.0))) (c.take_alone.ensures.missed c.in-None.is)

pub returns-in-None-clause-tied : goal.returns-in-None-clause-tied
returns-in-None-clause-tied c = λ now tied.
    subst (λ (ps : List (Reference × ℕ)). IsTied ps c.close_under-placed.new.chains now) (sym c.take_under.ensures)
    (c.close_under-placed.ensures.tied now (subst (λ (ps : List (Reference × ℕ)). IsTied ps c.args.chains.now now) (sym (c.take_alone.ensures.missed c.in-None.is)) tied))

pub returns-in-None-clause-versions : goal.returns-in-None-clause-versions
returns-in-None-clause-versions c =
    ap (versions_in c.close_under-placed.new.chains) c.take_under.ensures ∙ c.close_under-placed.ensures.versions
    ∙ ap (λ ps. finmap.retain_keys (versions_in c.args.chains.now ps) (λ x. not (is_under c.args.root.now x))) (c.take_alone.ensures.missed c.in-None.is)

pub returns-in-None-clause-cells : goal.returns-in-None-clause-cells
returns-in-None-clause-cells c =
    ap (λ ps. c.close_under-placed.new.chains.spare + cells_in (rows c.close_under-placed.new.chains ps)) c.take_under.ensures ∙ c.close_under-placed.ensures.cells
    ∙ ap (λ ps. c.args.chains.now.spare + cells_in (rows c.args.chains.now ps)) (c.take_alone.ensures.missed c.in-None.is)
