use Rattle.std.proofs.Common.{List, add-one, get_or, set, length, sym, ap, ◌∙◌, arith}
use Rattle.cell_values.specs.declared.datum.Datum.{Datum}
use Rattle.cell_values.specs.declared.datum.Datum.TheVariants.{Null}
use Rattle.logical_plan.specs.CellOps.{fit_value}
use Rattle.chunk_cells.proofs.ValueLaws.{fit_more, length-fit_values}
use Rattle.chunk_cells.proofs.fitting.values.fit_values.Goals as goal

pub fit_at-requires : goal.fit_at-requires
fit_at-requires c = let same = ap length c.loop-index.invariant ∙ length-fit_values c.args.attributes.now c.args.values c.loop-index.index c.requires in omega arith

pub loop-index-preserved : goal.loop-index-preserved
loop-index-preserved c =
    let i = c.loop-index.index in
    let a = c.index-attributes-index.result in
    rw add-one
    (c.fit_at.ensures ∙ ap (λ (vs : List Datum). set vs i (fit_value a (get_or vs i Null))) c.loop-index.invariant
    ∙ sym (fit_more c.args.attributes.now c.args.values i a (omega arith) c.requires c.index-attributes-index.is))
