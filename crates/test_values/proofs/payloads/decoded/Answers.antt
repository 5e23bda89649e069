use Rattle.chunk_rle.proofs.ExampleLaws.{valid_example, core_example}
use Rattle.test_values.proofs.payloads.decoded.Goals as goal

pub decode-requires-clause-valid : goal.decode-requires-clause-valid
decode-requires-clause-valid c = valid_example c.in-Ok.schema c.in-Ok.ensures

pub decode-requires-clause-core : goal.decode-requires-clause-core
decode-requires-clause-core c = core_example c.in-Ok.schema c.first-at.result.items c.in-Ok.ensures c.first-at.ensures
