use Rattle.std.proofs.Common.{sym, subst}
use Rattle.array_rows.specs.Arrays.{AreRowsOf}
use Rattle.array_geom.proofs.MarginLaws.{overlap_each, overlap_places}
use Rattle.changed_chunks.proofs.Written.{made_can, made_rows, made_schema}
use Rattle.changed_chunks.proofs.chunks.versions.stored_array.Goals as goal

pub margins_of-requires : goal.margins_of-requires
margins_of-requires c = c.requires.rows_of.valid

pub assemble-requires-clause-rows : goal.assemble-requires-clause-rows
assemble-requires-clause-rows c = subst (AreRowsOf c.args.schema.now) (sym c.as_slice.ensures) c.requires.rows_of

pub returns-clause-schema : goal.returns-clause-schema
returns-clause-schema c = made_schema c.args.schema.now c.as_slice.result.now c.args.rows c.margins_of.result c.as_slice.ensures c.assemble.result c.assemble.ensures.array

pub returns-clause-can : goal.returns-clause-can
returns-clause-can c =
    made_can c.args.schema.now c.as_slice.result.now c.args.rows c.margins_of.result c.as_slice.ensures c.assemble.result c.requires c.margins_of.ensures c.assemble.ensures.array c.assemble.ensures.margins

pub returns-clause-rows : goal.returns-clause-rows
returns-clause-rows c = made_rows c.args.schema.now c.as_slice.result.now c.args.rows c.margins_of.result c.as_slice.ensures c.assemble.result c.assemble.ensures.array

pub assemble-requires-clause-margins : goal.assemble-requires-clause-margins
assemble-requires-clause-margins c = overlap_each c.args.schema.now c.margins_of.result.items c.margins_of.ensures

pub assemble-requires-clause-places : goal.assemble-requires-clause-places
assemble-requires-clause-places c = overlap_places c.args.schema.now c.margins_of.result.items c.margins_of.ensures c.requires.rows_of.valid
