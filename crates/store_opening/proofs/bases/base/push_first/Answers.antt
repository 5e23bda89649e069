use Rattle.file_meaning.specs.Opening.{version_pages}
use Rattle.store_opening.proofs.PairLaws.{first_pair, no_pair}
use Rattle.store_opening.proofs.bases.base.push_first.Goals as goal

pub returns-in-Ok : goal.returns-in-Ok
returns-in-Ok c = λ blobs. first_pair version_pages c.args.at.now blobs c.in-Some.directory.now c.in-Some.rest.now c.args.left.now c.args.pages.now c.push_pages.new.pages c.in-Some.ensures.cases.0 c.in-Ok.ensures

pub returns-in-None : goal.returns-in-None
returns-in-None c = λ blobs. no_pair version_pages c.args.at.now blobs c.args.left.now c.args.pages.now c.in-None.ensures.cases
