use Rattle.changed_chunks.proofs.Written.{met_written, same_places}
use Rattle.changed_chunks.proofs.chunks.versions.touched.Goals as goal

pub met_chunks-requires-clause-places : goal.met_chunks-requires-clause-places
met_chunks-requires-clause-places c = same_places c.args.put.now c.requires.put c.args.version c.requires.version c.requires.schema

pub returns : goal.returns
returns c = λ old over.
    met_written c.args.put.now c.requires.put c.args.version old c.in_ok-met_chunks.field-0 c.requires.version c.requires.schema over c.in_ok-met_chunks.ensures
