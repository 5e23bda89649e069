use Rattle.prepared_commits.proofs.parts.ready.ready_both.Goals as goal

pub ready_version-requires : goal.ready_version-requires
ready_version-requires c = c.requires.comes

pub ready-requires : goal.ready-requires
ready-requires c = c.requires.names
