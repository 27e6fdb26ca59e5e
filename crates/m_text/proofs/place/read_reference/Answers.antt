use Rattle.m_text.proofs.Drafted.{key_good, key_due, key_unread}
use Rattle.m_text.proofs.place.read_reference.Goals as goal

pub key-requires : goal.key-requires
key-requires c = let read = c.in-Ok.ensures in record { reference = read.0; draft = read.2 }

pub returns-in-Ok-key : goal.returns-in-Ok-key
returns-in-Ok-key c =
    let read = c.in-Ok.ensures in
    let made = c.in-Ok-key.ensures.ok read.0 read.2 in
    record { exact = key_good c.args.text.now read.0 c.in-Ok-key.key c.in-Ok.rest.now read.1 made.0 made.1 }

pub returns-in-Err-key : goal.returns-in-Err-key
returns-in-Err-key c =
    let read = c.in-Ok.ensures in
    record { exact = key_due c.args.text.now read.0 c.in-Ok.rest.now c.in-Err-key.refusal read.1 (c.in-Err-key.ensures.err read.0 read.2) }

pub returns-in-Err : goal.returns-in-Err
returns-in-Err c = record { exact = key_unread c.args.text.now c.in-Err.refusal c.in-Err.ensures }
