use Rattle.changed_chunks.proofs.Written.{over_placed, over_rise, rows_are_over, rows_may}
use Rattle.changed_chunks.proofs.chunks.versions.rows_over.Goals as goal

pub into_core_rows-requires-clause-places : goal.into_core_rows-requires-clause-places
into_core_rows-requires-clause-places c =
    over_placed c.args.put.now c.requires.put c.args.old c.requires.old c.in_ok-copy.field-0 c.copy_numbers.result c.in_ok-both.field-0 c.in_ok-copy.ensures c.copy_numbers.ensures c.in_ok-both.ensures

pub into_core_rows-requires-clause-rise : goal.into_core_rows-requires-clause-rise
into_core_rows-requires-clause-rise c =
    over_rise c.args.put.now c.requires.put c.args.old c.requires.old c.in_ok-copy.field-0 c.copy_numbers.result c.in_ok-both.field-0 c.in_ok-copy.ensures c.copy_numbers.ensures c.in_ok-both.ensures

pub returns-clause-may : goal.returns-clause-may
returns-clause-may c =
    rows_may c.args.put.now c.requires.put c.args.old c.requires.old c.in_ok-copy.field-0 c.copy_numbers.result c.in_ok-both.field-0 c.in_ok-copy.ensures c.copy_numbers.ensures c.in_ok-both.ensures
    c.into_core_rows.result c.into_core_rows.ensures

pub returns-clause-rows : goal.returns-clause-rows
returns-clause-rows c =
    rows_are_over c.args.put.now c.requires.put c.args.old c.requires.old c.in_ok-copy.field-0 c.copy_numbers.result c.in_ok-both.field-0 c.in_ok-copy.ensures c.copy_numbers.ensures c.in_ok-both.ensures
    c.into_core_rows.result c.into_core_rows.ensures
