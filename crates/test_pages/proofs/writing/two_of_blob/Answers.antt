use Rattle.test_pages.proofs.Two.{two_distinct}
use Rattle.test_pages.proofs.writing.two_of_blob.Goals as goal

pub write_blob-requires-clause-distinct : goal.write_blob-requires-clause-distinct
write_blob-requires-clause-distinct g c = two_distinct c.args.first c.args.second c.requires.apart
