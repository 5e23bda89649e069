use Rattle.test_quiet.proofs.cells.named_leaf.Goals as goal

pub leaf_of-requires : goal.leaf_of-requires
leaf_of-requires c = c.requires

pub returns-in-Ok-clause-leaf : goal.returns-in-Ok-clause-leaf
returns-in-Ok-clause-leaf c = c.leaf_of.ensures.leaf

pub returns-in-Ok-clause-valid : goal.returns-in-Ok-clause-valid
returns-in-Ok-clause-valid c = c.leaf_of.ensures.valid
