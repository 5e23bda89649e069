use Rattle.std.proofs.Common.{sym}
use Rattle.group_rows.proofs.WholeLaws.{if_ok}
use Rattle.order_exec.proofs.RunLaws.{told_group}
use Rattle.order_exec.proofs.running_rows.values_at.Goals as goal

pub returns-in-Some : goal.returns-in-Some
returns-in-Some c =
    if_ok c.values_of.result c.values_of.ensures (λ values h gs attributes rows g t k.
    told_group gs attributes rows _ c.in-Some.states.now values (sym c.in-Some.ensures.value) h g t k)
