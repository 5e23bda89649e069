use Rattle.std.proofs.Common.{sym, subst}
use Rattle.array_geom.specs.Link.{HoldsRows, Is}
use Rattle.chunk_cells.proofs.MergeLaws.{if_ok}
use Rattle.chunk_cells.proofs.WholeLaws.{stands_for, gives_held, has_places}
use Rattle.chunk_cells.proofs.reading.halos.with_halo.Goals as goal

pub rows-requires : goal.rows-requires
rows-requires c = has_places c.args.array.now c.in-None.is c.requires.array

pub assemble-requires-clause-rows : goal.assemble-requires-clause-rows
assemble-requires-clause-rows c = (subst (HoldsRows c.args.array.now.schema c.args.array.now) (sym c.as_slice.ensures) (gives_held c.args.array.now c.in_ok-rows-in-None.field-0 c.in-None.is c.requires.array c.in_ok-rows-in-None.ensures)).rows_of

pub returns-in_ok-rows-in-None-clause-array : goal.returns-in_ok-rows-in-None-clause-array
returns-in_ok-rows-in-None-clause-array c = λ meant is.
    if_ok c.assemble.result c.assemble.ensures.array
    (λ made of. subst (Is made) (stands_for c.args.array.now meant c.as_slice.result.now c.in-None.is is (subst (HoldsRows c.args.array.now.schema c.args.array.now) (sym c.as_slice.ensures) (gives_held c.args.array.now c.in_ok-rows-in-None.field-0 c.in-None.is c.requires.array c.in_ok-rows-in-None.ensures))) of)
