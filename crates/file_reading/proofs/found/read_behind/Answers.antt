use Rattle.std.proofs.Common.{ℕ, List, ◌∷◌, ◌++◌, subst}
use Rattle.std.specs.List.{AllZip}
use Rattle.page_chain.proofs.RunLemmas.{reads_on}
use Rattle.array_rows.specs.Boxes.{by_pairs}
use Rattle.file_meaning.specs.Opening.{all_of, row_pages}
use Rattle.file_reading.specs.Inner.Rows.{IsRowBeside}
use Rattle.file_reading.proofs.BesideLaws.{beside_fewer, log_first, rows_beside, rows_cores}
use Rattle.file_reading.proofs.found.read_behind.Goals as goal

pub returns-in-Ok-read_directories-clause-rules : goal.returns-in-Ok-read_directories-clause-rules
returns-in-Ok-read_directories-clause-rules g c = record {
  catalog = c.in-Ok.ensures.rules;
  directories = c.in-Ok-read_directories.ensures.rules;
  cores = rows_cores c.as_slice.result.now c.read_records.new.found.catalog.arrays c.in-Ok-read_directories.directories c.in-Ok-read_directories.ensures.beside;
}

pub returns-in-Ok-read_directories-clause-stored : goal.returns-in-Ok-read_directories-clause-stored
returns-in-Ok-read_directories-clause-stored g c =
    let found = c.read_records.new.found in
    let arrays = found.catalog.arrays in
    let rows = c.in-Ok-read_directories.directories in
    let log = c.args.file.now.slots.current.root.log in
    let taken = c.in-Ok.taken in
    let beside = rows_beside taken arrays rows (subst (λ (ts : List ℕ). AllZip (IsRowBeside ts) arrays rows) c.as_slice.ensures c.in-Ok-read_directories.ensures.beside) in
    beside_fewer taken (log ∷ (found.chain ++ all_of found.logged)) (all_of (by_pairs row_pages arrays rows)) (log_first found.chain (all_of found.logged) taken log c.in-Ok.ensures.held) beside

pub returns-in-Ok-read_directories-clause-reads : goal.returns-in-Ok-read_directories-clause-reads
returns-in-Ok-read_directories-clause-reads g c = reads_on _ _ _ _ _ _ _ _ _ c.read_records.ensures.reads c.read_directories.ensures.reads

pub returns-in-Ok-clause-reads : goal.returns-in-Ok-clause-reads
returns-in-Ok-clause-reads g c = reads_on _ _ _ _ _ _ _ _ _ c.read_records.ensures.reads c.read_directories.ensures.reads
