use Rattle.embedded.proofs.Siblings.{parts_made}
use Rattle.embedded.proofs.children.push_parts.Goals as goal

pub returns : goal.returns
returns c =
    parts_made _ _ _ _ _ _ _ _ _ _ _ _ _ _ c.to_le_bytes.ensures c.to_le_bytes-2.ensures c.to_le_bytes-3.ensures c.in_ok-extend_from_slice.ensures.items c.in_ok-extend_from_slice-2.ensures.items c.in_ok-extend_from_slice-3.ensures.items
    c.in_ok-extend_from_slice-4.ensures.items c.in_ok-extend_from_slice-5.ensures.items
