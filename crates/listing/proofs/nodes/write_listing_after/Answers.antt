use Rattle.std.proofs.Common.{List, ◌∷◌, [], sym, subst, refl, ◌∙◌}
use Rattle.std.proofs.lemmas.List.{map-append}
use Rattle.std.specs.FinMap as finmap
use Rattle.listing.proofs.Gathered.{Entry, Stands, stands_first, stands_next, begun, begun_more, begun_out, wrote_all, from_start, listed_so_far}
use Rattle.listing.specs.laws.Bytes.{on_err}
use Rattle.listing.proofs.nodes.write_listing_after.Goals as goal

pub nodes-init : goal.nodes-init
nodes-init g c = record {
  steps = (tt, tt);
  stands = stands_first _ _ _ _ (c.into_iter-key-iterator.ensures.into_iter_gives ∙ c.walk_from-key-items.ensures ∙ from_start _);
  kept = refl;
}

pub nodes-preserved : goal.nodes-preserved
nodes-preserved g c =
    let next = stands_next _ _ _ _ _ _ _ _ _ _ _ _ c.nodes.invariant.stands c.in-Some.ensures.steps c.in_ok-push_node.ensures.ok c.in_ok-write_full.ensures.ok in
    record {
      steps = (tt, tt);
      stands = subst (λ (done : List Entry). Stands (g.W.Write.contents c.args.writer.now.inner) (g.W.Write.contents c.write_full.new.self.inner) c.args.out.now.items (finmap.entries (g.V.OrderedView.content c.args.view.now)) done c.next.new.self c.write_full.new.out.items)
          (sym (map-append (λ e. (e.0.now, e.1.now)) c.nodes.yielded ((c.in-Some.key, c.in-Some.value) ∷ []))) next;
      kept = c.in_ok-write_full.ensures.kept ∙ c.nodes.invariant.kept;
    }

pub returns-in_err-push_node-clause-err : goal.returns-in_err-push_node-clause-err
returns-in_err-push_node-clause-err g c = on_err _ _ (begun _ _ _ _ _ _ _ c.nodes.invariant.stands)

pub returns-in_err-push_node-clause-listed : goal.returns-in_err-push_node-clause-listed
returns-in_err-push_node-clause-listed g c = λ _. listed_so_far _ _ _ _ _ _ _ _ c.nodes.invariant.stands c.in_err-push_node.ensures.err

pub returns-in_err-write_full-clause-err : goal.returns-in_err-write_full-clause-err
returns-in_err-write_full-clause-err g c =
    on_err _ _ (begun_more _ _ _ _ _ _ _ _ _ _ _ c.nodes.invariant.stands c.in-Some.ensures.steps c.in_ok-push_node.ensures.ok c.in_err-write_full.ensures.err)

pub returns-in_err-write_gathered-clause-err : goal.returns-in_err-write_gathered-clause-err
returns-in_err-write_gathered-clause-err g c = on_err _ _ (begun_out _ _ _ _ _ _ _ _ c.nodes.invariant.stands c.in_err-write_gathered.ensures.err)

pub returns-clause-ok : goal.returns-clause-ok
returns-clause-ok g c = wrote_all _ _ _ _ _ _ _ _ c.nodes.invariant.stands c.in-None.ensures.steps.0 c.in_ok-write_gathered.ensures.ok
