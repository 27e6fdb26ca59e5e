use Rattle.std.proofs.Common.{rules, ◌≡◌, ap, subst, sym, ◌∙◌}
use Rattle.std.specs.FinMap as finmap
use Rattle.std.specs.FinMap.{is_sorted}
use Rattle.collation.specs.Changes.{changed}
use Rattle.collation.specs.Order.{ref_cmp}
use Rattle.journal.specs.Based.{database_of, map_in}
use Rattle.journal.specs.Merging.{put_all}
use Rattle.journal.proofs.Moves.{merged_nodes, nodes_rise}
use Rattle.journal.proofs.base.Base.move_on.Goals as goal

pub invariant_of-self : goal.invariant_of-self
invariant_of-self c = subst (λ xs. xs ≡ finmap.entries (database_of xs)) (sym c.make_room.ensures.items) c.self.invariant

pub merged-requires-clause-sorted : goal.merged-requires-clause-sorted
merged-requires-clause-sorted c =
    let same : c.replace-nodes.result.items ≡ c.self.inside.nodes.items = search rules in
    ap (is_sorted ref_cmp) same ∙ nodes_rise c.self.inside.nodes.items c.self.invariant

pub invariant_of-self-2 : goal.invariant_of-self-2
invariant_of-self-2 c =
    let same : c.replace-nodes.result.items ≡ c.self.inside.nodes.items = search rules in
    (merged_nodes c.self.inside.nodes.items c.merged.result.items c.args.changes.items c.self.invariant (c.merged.ensures ∙ ap (put_all c.args.changes.items) same)).0

pub returns-clause-state : goal.returns-clause-state
returns-clause-state c =
    let same : c.replace-nodes.result.items ≡ c.self.inside.nodes.items = search rules in
    let new = (merged_nodes c.self.inside.nodes.items c.merged.result.items c.args.changes.items c.self.invariant (c.merged.ensures ∙ ap (put_all c.args.changes.items) same)).1 in
    let map_is : database_of c.merged.result.items ≡ changed c.args.changes.items (map_in c.args.self.now) = new ∙ ap (λ b. changed c.args.changes.items (map_in b)) c.self.view_is in
    λ i. record { map = map_is i; locks = c.in_ok-passed.ensures.locks i }
