use Rattle.test_disks.proofs.stores.pairs.told_cells.Goals as goal

pub named_leaf-requires : goal.named_leaf-requires
named_leaf-requires c = (c.in-Some.ensures c.args.store.now.ledger c.args.session c.requires).stored

pub cells-requires-clause-open : goal.cells-requires-clause-open
cells-requires-clause-open c = (c.in-Some.ensures c.args.store.now.ledger c.args.session c.requires).begun
