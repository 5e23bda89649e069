use Rattle.std.proofs.Common.{sym, ◌∙◌}
use Rattle.array_geom.proofs.NumberLaws.{is_equal, same_number}
use Rattle.order_exec.proofs.margins.with_margins.Goals as goal

pub returns-then-is_eq-clause-margins : goal.returns-then-is_eq-clause-margins
returns-then-is_eq-clause-margins c = same_number c.args.array.margins.items c.args.margins.now.items (sym c.compare_numbers.ensures ∙ is_equal c.compare_numbers.result (sym c.is_eq.ensures ∙ c.if-is_eq.true))
