use Rattle.std.proofs.Common.{List, None, Some, sym, subst}
use Rattle.std.specs.List.{AllZip}
use Rattle.version_catalog.specs.declared.rules.catalog.CatalogArray.{CatalogArray}
use Rattle.file_checking.specs.Inner.Steps.{IsRowOf}
use Rattle.file_checking.proofs.Answered.{damaged_found, rows_checked, sound_answer, wrong_answer}
use Rattle.file_checking.proofs.FoundRows.{found_rows}
use Rattle.file_checking.proofs.checking.check_found.Goals as goal

pub check_rows-requires : goal.check_rows-requires
check_rows-requires g c =
    let found = c.args.found.now in
    subst (λ (arrays : List CatalogArray). AllZip IsRowOf arrays c.as_slice-2.result.now) (sym c.as_slice.ensures) (subst (AllZip IsRowOf found.catalog.arrays) (sym c.as_slice-2.ensures) (found_rows found c.requires))

pub returns-in-None-clause-told : goal.returns-in-None-clause-told
returns-in-None-clause-told g c = λ seen is opens.
    let found = c.args.found.now in
    sound_answer seen found c.sound_of.result opens c.requires
    (rows_checked seen found.catalog.arrays c.as_slice.result.now found.directories c.as_slice-2.result.now None c.check_rows.new.wrong None c.as_slice.ensures c.as_slice-2.ensures c.in-None.is (c.in-Ok.ensures.told seen is))
    c.sound_of.ensures

pub returns-in-Some-clause-told : goal.returns-in-Some-clause-told
returns-in-Some-clause-told g c = λ seen is opens.
    let found = c.args.found.now in
    wrong_answer seen found c.in-Some.page opens c.requires
    (rows_checked seen found.catalog.arrays c.as_slice.result.now found.directories c.as_slice-2.result.now None c.check_rows.new.wrong (Some c.in-Some.page) c.as_slice.ensures c.as_slice-2.ensures c.in-Some.is (c.in-Ok.ensures.told seen is))

pub returns-in-Err-clause-told : goal.returns-in-Err-clause-told
returns-in-Err-clause-told g c = λ seen is opens.
    damaged_found seen c.args.found.now c.as_slice.result.now c.as_slice-2.result.now c.in-Err.fault opens c.as_slice.ensures c.as_slice-2.ensures (c.in-Err.ensures.told seen is)
