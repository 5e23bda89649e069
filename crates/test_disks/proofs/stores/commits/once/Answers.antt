use Rattle.test_disks.proofs.stores.commits.once.Goals as goal

pub returns-then-matches-clause-own : goal.returns-then-matches-clause-own
returns-then-matches-clause-own g c = c.unpinned.ensures.own

pub returns-then-matches-clause-others : goal.returns-then-matches-clause-others
returns-then-matches-clause-others g c = λ session held e h.
    c.unpinned.ensures.others session held e (c.changed-held.ensures.others session held e (c.pinned-begun.ensures.others session held e h))

pub returns-else-matches-clause-own : goal.returns-else-matches-clause-own
returns-else-matches-clause-own g c = c.unpinned.ensures.own

pub returns-else-matches-clause-others : goal.returns-else-matches-clause-others
returns-else-matches-clause-others g c = λ session held e h.
    c.unpinned.ensures.others session held e (c.changed-held.ensures.others session held e (c.pinned-begun.ensures.others session held e h))
