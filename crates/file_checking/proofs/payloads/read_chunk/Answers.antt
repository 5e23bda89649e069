use Rattle.file_checking.proofs.PayloadLaws.{is_read, undecoded, unread}
use Rattle.file_checking.proofs.payloads.read_chunk.Goals as goal

pub returns-in-Ok-decoded-clause-told : goal.returns-in-Ok-decoded-clause-told
returns-in-Ok-decoded-clause-told g c = λ seen is.
    is_read seen c.args.schema.now c.args.entry.now c.in-Ok.bytes c.as_slice.result.now c.in-Ok-decoded.chunk (c.in-Ok.ensures.told seen is) c.as_slice.ensures c.in-Ok-decoded.ensures.decoded c.in-Ok-decoded.ensures.small

pub returns-in-Err-decoded-clause-told : goal.returns-in-Err-decoded-clause-told
returns-in-Err-decoded-clause-told g c = λ seen is.
    undecoded seen c.args.schema.now c.args.entry.now c.in-Ok.bytes c.as_slice.result.now c.in-Err-decoded.fault (c.in-Ok.ensures.told seen is) c.as_slice.ensures c.in-Err-decoded.ensures.decoded

pub returns-in-Err-clause-told : goal.returns-in-Err-clause-told
returns-in-Err-clause-told g c = λ seen is. unread seen c.args.schema.now c.args.entry.now c.in-Err.fault (c.in-Err.ensures.told seen is)
