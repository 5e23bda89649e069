use Rattle.array_parts.proofs.PartLemmas.{held_are_chunks, chunks_are_parts, made_are_parts}
use Rattle.array_parts.proofs.parts.laws.parts_are_chunks.Goals as goal

pub returns-clause-parts : goal.returns-clause-parts
returns-clause-parts c = chunks_are_parts

pub returns-clause-held : goal.returns-clause-held
returns-clause-held c = held_are_chunks

pub returns-clause-made : goal.returns-clause-made
returns-clause-made c = made_are_parts
