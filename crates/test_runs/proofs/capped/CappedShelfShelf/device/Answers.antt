use Rattle.std.proofs.Common.{refl}
use Rattle.afl_outside.specs.Counts.{risen}
use Rattle.afl_outside.specs.Disk.{IsNewDisk}
use Rattle.afl_outside.specs.Inner.Records.{new_disk, memory_disk_state}
use Rattle.afl_outside.specs.declared.in_memory.mem_file.MemFile.{MemFile}
use Rattle.afl_outside.proofs.FileLemmas.{opened_handed, opened_others}
use Rattle.test_runs.proofs.capped.CappedShelfShelf.device.Goals as goal

pub returns-clause-handed : goal.returns-clause-handed
returns-clause-handed c =
    let name = c.args.name.now in
    opened_handed (λ (f : MemFile). new_disk f.name f.content f.fails) risen (λ d. IsNewDisk name (memory_disk_state d)) name c.args.self.now.shelf c.device.new.self c.device.result
    c.device.ensures.exact (λ f named. record { name = named; seen = refl; faults = refl; wants = refl })

pub returns-clause-others : goal.returns-clause-others
returns-clause-others c =
    opened_others (λ (f : MemFile). new_disk f.name f.content f.fails) risen c.args.name.now c.args.self.now.shelf c.device.new.self c.device.result c.device.ensures.exact c.device.ensures.later
