use Rattle.std.proofs.Common.{sym, subst, List}
use Rattle.array_geom.specs.Link.{NumbersRise}
use Rattle.chunk_map.specs.declared.directory.DirEntry.{DirEntry}
use Rattle.chunk_map.specs.Entries.{numbers}
use Rattle.file_checking.specs.Inner.Steps.{AreEntriesOf}
use Rattle.file_checking.proofs.Compared.{compared_so, read_alone, stops_so}
use Rattle.file_checking.proofs.versions.check_version.Goals as goal

pub read_payloads-requires-clause-entries : goal.read_payloads-requires-clause-entries
read_payloads-requires-clause-entries g c = subst (AreEntriesOf c.args.schema.now) (sym c.as_slice-entries.ensures) c.requires.directory.entries

pub first_wrong_overlap-requires-clause-entries : goal.first_wrong_overlap-requires-clause-entries
first_wrong_overlap-requires-clause-entries g c = subst (AreEntriesOf c.args.schema.now) (sym c.as_slice-entries.ensures) c.requires.directory.entries

pub first_wrong_overlap-requires-clause-rise : goal.first_wrong_overlap-requires-clause-rise
first_wrong_overlap-requires-clause-rise g c = subst (λ (entries : List DirEntry). NumbersRise (numbers entries)) (sym c.as_slice-entries.ensures) c.requires.directory.rising

pub returns-then-not-are_compared-clause-told : goal.returns-then-not-are_compared-clause-told
returns-then-not-are_compared-clause-told g c = λ seen is.
    read_alone seen c.args.schema.now c.args.directory.now c.as_slice-entries.result.now c.args.wrong.now c.are_compared.result c.read_payloads.result c.requires.valid c.requires.directory c.as_slice-entries.ensures
    c.are_compared.ensures c.if-not-are_compared.true (c.read_payloads.ensures.told seen is)

pub returns-in-Ok-clause-told : goal.returns-in-Ok-clause-told
returns-in-Ok-clause-told g c = λ seen is.
    compared_so seen c.args.schema.now c.args.directory.now c.as_slice-entries.result.now c.args.wrong.now c.in-Ok.page c.are_compared.result c.as_slice-entries.ensures c.are_compared.ensures c.if-not-are_compared.false (c.in-Ok.ensures.told seen is)

pub returns-in-Err-clause-told : goal.returns-in-Err-clause-told
returns-in-Err-clause-told g c = λ seen is. stops_so seen c.args.schema.now c.args.directory.now c.as_slice-entries.result.now c.in-Err.fault c.as_slice-entries.ensures (c.in-Err.ensures.told seen is)
