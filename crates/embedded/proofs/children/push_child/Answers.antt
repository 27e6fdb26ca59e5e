use Rattle.embedded.proofs.Siblings.{child_made}
use Rattle.embedded.proofs.children.push_child.Goals as goal

pub returns : goal.returns
returns g c =
    child_made c.push_parts.result c.args.level.now _ (g.V.OrderedView.content c.args.view.now) _ _ _ _ _ _ c.as_slice.ensures c.value_bytes-value.ensures c.data-number.ensures c.requires c.push_parts.ensures
