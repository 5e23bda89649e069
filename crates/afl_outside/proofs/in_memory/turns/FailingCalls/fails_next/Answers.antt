use Rattle.afl_outside.proofs.in_memory.turns.FailingCalls.fails_next.Goals as goal

pub returns-then-is_listed-clause-listed : goal.returns-then-is_listed-clause-listed
returns-then-is_listed-clause-listed c = c.lists_next-is_listed.ensures

pub returns-else-is_listed-clause-listed : goal.returns-else-is_listed-clause-listed
returns-else-is_listed-clause-listed c = c.lists_next-is_listed.ensures
