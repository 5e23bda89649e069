use Rattle.exec_group.proofs.parts.parts.aggregate_part.Goals as goal

pub returns-in-Some-clause-groups : goal.returns-in-Some-clause-groups
returns-in-Some-clause-groups c = rw c.in-Some.is at c.in_ok-found.ensures.groups

pub returns-in-Some-clause-cells : goal.returns-in-Some-clause-cells
returns-in-Some-clause-cells c = rw c.in-Some.is at c.in_ok-found.ensures.cells
