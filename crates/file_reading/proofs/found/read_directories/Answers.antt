use Rattle.std.proofs.Common.{◌*◌, ℕ, List, replicate}
use Rattle.std.specs.List.{AllZip}
use Rattle.page_chain.proofs.RunLemmas.{reads_on}
use Rattle.file_reading.specs.Inner.Rows.{IsRowBeside}
use Rattle.file_reading.specs.Inner.Taken.{LeavesBeside}
use Rattle.file_reading.proofs.BesideLaws.{pages_of_zeros, taken_beside}
use Rattle.file_reading.proofs.Steps.{if_ok}
use Rattle.file_reading.proofs.found.read_directories.Goals as goal

-- a file of as many pages, whichever its bytes are
pub returns-in-Ok-taken_pages-clause-beside : goal.returns-in-Ok-taken_pages-clause-beside
returns-in-Ok-taken_pages-clause-beside g c =
    let count = c.in-Ok.count in
    let file : List ℕ = replicate (4096 * count) 0 in
    let taken = c.args.taken.now in
    let arrays = c.args.catalog.now.arrays in
    let set = c.in-Ok-taken_pages.pages in
    let has = taken_beside file taken set (c.in-Ok-taken_pages.ensures file (pages_of_zeros count)) in
    if_ok (λ rows. (tells others : List ℕ) → LeavesBeside tells set others → AllZip (IsRowBeside others) arrays rows) (AllZip (IsRowBeside taken) arrays) c.read_rows.result c.read_rows.ensures.beside
    (λ rows beside. beside file taken has)

pub returns-in-Ok-taken_pages-clause-reads : goal.returns-in-Ok-taken_pages-clause-reads
returns-in-Ok-taken_pages-clause-reads g c = reads_on _ _ _ _ _ _ _ _ _ c.pages.ensures.reads c.read_rows.ensures.reads
