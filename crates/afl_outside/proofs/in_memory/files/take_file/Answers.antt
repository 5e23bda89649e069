use Rattle.afl_outside.proofs.FileLemmas.{taken}
use Rattle.afl_outside.proofs.in_memory.files.take_file.Goals as goal

pub returns-clause-file : goal.returns-clause-file
returns-clause-file c = (taken c.args.files.now c.in_ok-place.place c.args.name.now c.remove.result c.remove.ensures.item c.in_ok-place.ensures.file).1

pub returns-clause-named : goal.returns-clause-named
returns-clause-named c = (taken c.args.files.now c.in_ok-place.place c.args.name.now c.remove.result c.remove.ensures.item c.in_ok-place.ensures.file).0
