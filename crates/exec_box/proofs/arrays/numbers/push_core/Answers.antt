use Rattle.std.proofs.Common.{sym, ◌∙◌}
use Rattle.chunk_cells.proofs.MergeLaws.{on_ok}
use Rattle.exec_box.proofs.PickLaws.{core_added, none_added}
use Rattle.exec_box.proofs.arrays.numbers.push_core.Goals as goal

pub returns-then-not-has_core : goal.returns-then-not-has_core
returns-then-not-has_core c = none_added c.args.schema.now.dimensions c.args.number.now.items c.args.found.now (sym c.has_core.ensures ∙ c.if-not-has_core.true)

pub returns : goal.returns
returns c =
    on_ok c.push.result c.push.ensures.ok
    (λ pushed. core_added c.args.schema.now.dimensions c.args.number.now c.copy_numbers.result c.args.found.now c.push.new.self (sym c.has_core.ensures ∙ c.if-not-has_core.false) c.copy_numbers.ensures pushed)
