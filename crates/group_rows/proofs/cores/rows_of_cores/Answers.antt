use Rattle.std.proofs.Common.{◌∙◌}
use Rattle.group_rows.proofs.PartsPartLaws.{rise_in_cores}
use Rattle.group_rows.proofs.MergeLaws.{if_ok}
use Rattle.group_rows.proofs.cores.rows_of_cores.Goals as goal

pub into_core_rows-requires-clause-rise : goal.into_core_rows-requires-clause-rise
into_core_rows-requires-clause-rise c = rise_in_cores c.args.array.schema c.args.array.margins.items c.args.array.chunks c.requires

pub returns-clause-rows : goal.returns-clause-rows
returns-clause-rows c = if_ok c.counted.result c.counted.ensures.same (λ rows same. same ∙ c.in_ok-rows.ensures)
