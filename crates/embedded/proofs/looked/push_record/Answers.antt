use Rattle.embedded.proofs.Walked.{record_made}
use Rattle.embedded.proofs.looked.push_record.Goals as goal

pub returns : goal.returns
returns c =
    record_made _ _ _ _ _ _ _ _ _ (c.args.key.now, c.args.value.now) c.as_slice-key.ensures.value c.as_slice-value.ensures c.to_le_bytes.ensures c.to_le_bytes-2.ensures c.in_ok-extend_from_slice.ensures.items c.in_ok-extend_from_slice-2.ensures.items
    c.in_ok-extend_from_slice-3.ensures.items c.in_ok-extend_from_slice-4.ensures.items
