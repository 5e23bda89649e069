use Rattle.std.proofs.Common.{List, ℕ, Ok, Err}
use Rattle.page_chain.specs.Pages.{IsBlobRead}
use Rattle.file_reading.proofs.Steps.{at_some}
use Rattle.file_checking.proofs.PayloadLaws.{blob_past, blob_read}
use Rattle.file_checking.proofs.payloads.read_payload.Goals as goal

pub returns-in-Ok-clause-told : goal.returns-in-Ok-clause-told
returns-in-Ok-clause-told g c = λ seen is.
    let entry = c.args.entry.now in
    blob_read seen entry c.as_slice.result.now c.in-Ok.bytes c.as_slice.ensures (at_some (λ (s : List ℕ). IsBlobRead s c.as_slice.result.now entry.length (Ok c.in-Ok.bytes)) _ seen c.in-Ok.ensures.exact is)

pub returns-in-Err-Disk-clause-told : goal.returns-in-Err-Disk-clause-told
returns-in-Err-Disk-clause-told g c = λ seen is. tt

pub returns-in-Err-Memory-clause-told : goal.returns-in-Err-Memory-clause-told
returns-in-Err-Memory-clause-told g c = λ seen is. tt

pub returns-in-Err-Damaged-clause-told : goal.returns-in-Err-Damaged-clause-told
returns-in-Err-Damaged-clause-told g c = λ seen is.
    let entry = c.args.entry.now in
    blob_past seen entry c.as_slice.result.now c.in-Err-Damaged.field-0-0 c.first_page.result c.in-Err-Damaged.field-0 c.as_slice.ensures c.in-Err-Damaged.field-0-is c.first_page.ensures
    (at_some (λ (s : List ℕ). IsBlobRead s c.as_slice.result.now entry.length (Err c.in-Err-Damaged.field-0)) _ seen c.in-Err-Damaged.ensures.exact is)
