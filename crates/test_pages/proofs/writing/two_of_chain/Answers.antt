use Rattle.test_pages.proofs.Two.{two_distinct}
use Rattle.test_pages.proofs.writing.two_of_chain.Goals as goal

pub write_chain-requires-clause-distinct : goal.write_chain-requires-clause-distinct
write_chain-requires-clause-distinct g c = two_distinct c.args.first c.args.second c.requires.apart
