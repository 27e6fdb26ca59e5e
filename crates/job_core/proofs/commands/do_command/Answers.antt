use Rattle.std.proofs.Common.{ap, append-nil, length, subst, sym, ◌++◌, ◌∙◌, ◌≡◌}
use Rattle.std.specs.Prelude.{OnOk}
use Rattle.std.specs.FinMap.{find}
use Rattle.collation.specs.Order.{ref_cmp}
use Rattle.collation.specs.Reference.{Reference}
use Rattle.version_store.specs.Versions.{row_cut, versions_of}
use Rattle.job_core.proofs.ChangeLemmas.{own_none}
use Rattle.job_core.proofs.commands.do_command.Goals as goal

pub returns : goal.returns
returns c =
    let found = c.args.found.items in
    let all = sym (append-nil found) ∙ ap (λ own. found ++ own) (sym (own_none c.args.command c.in_default.not-Set)) in
    let s = c.do_prepared.new.store in
    let done = c.do_prepared.ensures in
    record {
      agreed = done.agreed;
      units = done.units;
      receipt = done.receipt;
      base = done.base;
      ends = done.ends;
      refused = done.refused;
      left = done.left;
      same_cut = done.same_cut;
      written = subst
          (λ cs. OnOk c.do_prepared.result ((x : Reference) → versions_of s.versions x ≡ row_cut (length c.do_prepared.new.journal.units) s.cut (find ref_cmp x cs) (versions_of c.args.store.now.versions x)))
          all done.written;
      rows = done.rows;
      bare = done.bare;
      mark = done.mark;
    }
