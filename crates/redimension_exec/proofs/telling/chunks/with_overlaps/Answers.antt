use Rattle.std.proofs.Common.{List, Ok, sym, ◌∙◌, subst}
use Rattle.cell_values.specs.declared.datum.Row.{Row}
use Rattle.array_geom.specs.Link.{Is}
use Rattle.array_geom.proofs.MarginLaws.{overlap_each, overlap_places}
use Rattle.array_geom.proofs.NumberLaws.{is_equal, same_number}
use Rattle.chunk_cells.proofs.MergeLaws.{if_ok}
use Rattle.chunk_cells.proofs.WholeLaws.{have_places}
use Rattle.redimension_exec.proofs.TellLaws.{held_rows, rows_are}
use Rattle.redimension_exec.proofs.telling.chunks.with_overlaps.Goals as goal

pub margins_of-margins-requires : goal.margins_of-margins-requires
margins_of-margins-requires c = c.requires.1.valid

pub into_rows-requires : goal.into_rows-requires
into_rows-requires c = have_places c.args.array.schema c.args.array c.requires.0 (held_rows c.args.target.now c.args.array c.requires.0 c.requires.1)

pub assemble-requires-clause-margins : goal.assemble-requires-clause-margins
assemble-requires-clause-margins c = overlap_each c.args.target.now c.margins_of-margins.result.items c.margins_of-margins.ensures

pub assemble-requires-clause-places : goal.assemble-requires-clause-places
assemble-requires-clause-places c = overlap_places c.args.target.now c.margins_of-margins.result.items c.margins_of-margins.ensures c.requires.1.valid

pub assemble-requires-clause-rows : goal.assemble-requires-clause-rows
assemble-requires-clause-rows c =
    rows_are c.args.target.now c.args.array c.requires.0 c.as_slice.result.now c.requires.1
    (c.as_slice.ensures ∙ c.in_ok-rows.ensures c.requires.0 (held_rows c.args.target.now c.args.array c.requires.0 c.requires.1))

pub returns-then-is_eq-clause-array : goal.returns-then-is_eq-clause-array
returns-then-is_eq-clause-array c = λ rows is. is

pub returns-then-is_eq-clause-margins : goal.returns-then-is_eq-clause-margins
returns-then-is_eq-clause-margins c = same_number c.args.array.margins.items c.margins_of-margins.result.items (sym c.compare_numbers.ensures ∙ is_equal c.compare_numbers.result (sym c.is_eq.ensures ∙ c.if-is_eq.true)) ∙ c.margins_of-margins.ensures

pub returns-clause-array : goal.returns-clause-array
returns-clause-array c = λ rows is.
    if_ok c.assemble.result c.assemble.ensures.array
    (λ made of. subst (λ (rs : List Row). Is made (record { schema = c.args.target.now; rows = Ok rs })) (c.as_slice.ensures ∙ c.in_ok-rows.ensures rows (held_rows c.args.target.now c.args.array rows is)) of)
