use Rattle.group_rows.proofs.rows.united.+gather.Given as goal

abbrev pub decreases-gather : goal.decreases-gather
decreases-gather l = l.count
