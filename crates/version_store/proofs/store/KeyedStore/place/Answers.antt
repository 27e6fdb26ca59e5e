use Rattle.std.proofs.Common.{◌≡◌, IsSome, refl, sym, ap, subst, ◌∙◌}
use Rattle.std.specs.Prelude.{cond, false, [], Some}
use Rattle.std.specs.Ordering.{eq_by_cmp}
use Rattle.std.specs.FinMap as finmap
use Rattle.std.specs.FinMap.{get-insert}
use Rattle.collation.specs.Order.{ref_cmp}
use Rattle.collation.specs.laws.Order.{ref_cmp_total}
use Rattle.version_store.specs.Versions.{Stored, versions_of, content_at}
use Rattle.version_store.specs.laws.Content.{rows_bare, content_placed}
use Rattle.version_store.proofs.TiedLemmas.{either_way}
use Rattle.version_store.proofs.store.KeyedStore.place.Goals as goal

pub returns-clause-rows : goal.returns-clause-rows
returns-clause-rows c = λ r.
    let new = c.in_ok-copy.copy in
    let none = ap (λ (s : Stored). finmap.get s.versions new) c.missed.ensures.same ∙ ap (finmap.get c.args.self.now.versions) (sym c.in_ok-copy.ensures.cases) ∙ c.missed.ensures.missed (subst IsSome (sym c.in-Some.is) refl) in
    let same = ap (λ (s : Stored). versions_of s.versions r) c.missed.ensures.same in
    either_way c.place_new.result (λ (s : Stored). versions_of s.versions r ≡ versions_of c.args.self.now.versions r) _ _ _ c.place_new.ensures.ok c.place_new.ensures.err (rows_bare c.missed.new.self.versions new r none ∙ same) same

pub returns-clause-content : goal.returns-clause-content
returns-clause-content c = λ n.
    let new = c.in_ok-copy.copy in
    let none = ap (λ (s : Stored). finmap.get s.versions new) c.missed.ensures.same ∙ ap (finmap.get c.args.self.now.versions) (sym c.in_ok-copy.ensures.cases) ∙ c.missed.ensures.missed (subst IsSome (sym c.in-Some.is) refl) in
    let same = ap (λ (s : Stored). content_at s.versions n) c.missed.ensures.same in
    either_way c.place_new.result (λ (s : Stored). content_at s.versions n ≡ content_at c.args.self.now.versions n) _ _ _ c.place_new.ensures.ok c.place_new.ensures.err (content_placed c.missed.new.self.versions new n none ∙ same) same

pub returns-clause-others : goal.returns-clause-others
returns-clause-others c = λ x apart.
    let new = c.in_ok-copy.copy in
    let same = ap (λ (s : Stored). finmap.get s.versions x) c.missed.ensures.same in
    let other : eq_by_cmp ref_cmp x new ≡ false = ap (eq_by_cmp ref_cmp x) (sym c.in_ok-copy.ensures.cases) ∙ apart in
    let put = get-insert ref_cmp_total c.missed.new.self.versions new [] x ∙ ap (λ t. cond t (Some []) (finmap.get c.missed.new.self.versions x)) other in
    either_way c.place_new.result (λ (s : Stored). finmap.get s.versions x ≡ finmap.get c.args.self.now.versions x) _ _ _ c.place_new.ensures.ok c.place_new.ensures.err (put ∙ same) same
