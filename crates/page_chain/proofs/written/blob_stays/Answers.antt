use Rattle.page_chain.proofs.PageLaws.{blob_kept}
use Rattle.page_chain.proofs.written.blob_stays.Goals as goal

pub returns : goal.returns
returns c = blob_kept
