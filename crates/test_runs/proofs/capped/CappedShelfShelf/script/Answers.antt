use Rattle.std.proofs.Common.{refl}
use Rattle.afl_outside.specs.Source.{IsNewSource}
use Rattle.afl_outside.specs.InMemory.{new_source, memory_source_state}
use Rattle.afl_outside.specs.declared.in_memory.mem_file.MemFile.{MemFile}
use Rattle.afl_outside.proofs.FileLemmas.{opened_handed, opened_others}
use Rattle.test_runs.proofs.capped.CappedShelfShelf.script.Goals as goal

pub returns-clause-handed : goal.returns-clause-handed
returns-clause-handed c =
    let name = c.args.name.now in
    opened_handed (λ (f : MemFile). new_source f.name f.content f.fails) (λ n. n) (λ s. IsNewSource name (memory_source_state s)) name c.args.self.now.shelf c.script.new.self c.script.result
    c.script.ensures.exact (λ f named. record { name = named; left = refl; given = refl; faults = refl })

pub returns-clause-others : goal.returns-clause-others
returns-clause-others c =
    opened_others (λ (f : MemFile). new_source f.name f.content f.fails) (λ n. n) c.args.name.now c.args.self.now.shelf c.script.new.self c.script.result c.script.ensures.exact c.script.ensures.later
