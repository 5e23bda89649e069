use Rattle.page_chain.proofs.PageLaws.{blob_read}
use Rattle.page_chain.proofs.written.written_blob_is_read.Goals as goal

pub returns : goal.returns
returns c = blob_read
