use Rattle.std.proofs.Common.{◌≡◌, ◌+◌, ◌≤◌, ◌<◌, [], List, length, max, sym, ap, subst, ◌∙◌, arith}
use Rattle.std.specs.Prelude.{unwrap_or}
use Rattle.collation.specs.Changes.{Change}
use Rattle.version_store.specs.Versions.{content_at, versions_of}
use Rattle.version_store.specs.laws.Content.{content_settled}
use Rattle.validate_commit.specs.Agreement.{has_stamp}
use Rattle.validate_commit.specs.laws.Agreement.{HasWritten, agreed_prepared, one_more}
use Rattle.validate_commit.proofs.Horizon.{least_within}
use Rattle.validate_commit.proofs.writing.write_none.Goals as goal

pub pass-requires-clause-horizon : goal.pass-requires-clause-horizon
pass-requires-clause-horizon c =
    rw c.unwrap_or.ensures (least_within c.args.oldest (length c.args.journal.now.units) c.now-stamp.result (c.now-stamp.ensures.present ∙ c.requires.agreed.present) c.requires.oldest)

pub returns-clause-agreed : goal.returns-clause-agreed
returns-clause-agreed c =
    let units = c.args.journal.now.units in
    let old = c.args.store.now in
    let new = c.pass.new.self in
    let cs : List Change = [] in
    let is = c.requires.agreed in
    let now = c.now-stamp.ensures in
    let passed = c.pass.ensures in
    let stamp : c.now-stamp.result + 1 ≡ length units + 1 = ap (λ n. n + 1) (now.present ∙ is.present) in
    let horizon : c.unwrap_or.result ≤ c.now-stamp.result + 1 = rw c.unwrap_or.ensures (least_within c.args.oldest (length units) c.now-stamp.result (now.present ∙ is.present) c.requires.oldest) in
    let versions : new.versions ≡ old.versions = ap (λ s. s.versions) passed in
    let cut : new.cut ≡ max old.cut c.unwrap_or.result = ap (λ s. s.cut) passed in
    let written : HasWritten old new (c.now-stamp.result + 1) cs = record {
      present = ap (λ s. s.present) passed;
      rises = omega (arith, cut);
      within = omega (arith, cut, is.cut, stamp, horizon);
      content = ap (λ v. content_at v (c.now-stamp.result + 1)) versions ∙ content_settled old.versions old.present (c.now-stamp.result + 1) now.settled (omega (arith, now.present));
      before = λ n from less. ap (λ v. content_at v n) versions;
      rows = λ n x from. ap (λ v. has_stamp n (versions_of v x)) versions;
    } in
    agreed_prepared c.args.journal.now.prepared old new units c.push_prepared-receipt.new.self.units cs c.requires.prepared c.push_prepared-receipt.ensures.units c.requires.next is
    now.settled now.falls (subst (λ n. HasWritten old new n cs) stamp written) c.requires.counted

pub returns-clause-cut : goal.returns-clause-cut
returns-clause-cut c =
    let units = c.args.journal.now.units in
    let more = one_more c.args.journal.now.prepared units c.push_prepared-receipt.new.self.units c.requires.prepared c.push_prepared-receipt.ensures.units in
    let stamp : c.now-stamp.result + 1 ≡ length c.push_prepared-receipt.new.self.units = ap (λ n. n + 1) (c.now-stamp.ensures.present ∙ c.requires.agreed.present) ∙ sym more in
    ap (λ s. s.cut) c.pass.ensures ∙ ap (max c.args.store.now.cut) (c.unwrap_or.ensures ∙ ap (unwrap_or c.args.oldest) stamp)
