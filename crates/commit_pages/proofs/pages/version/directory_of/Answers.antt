use Rattle.std.proofs.Common.{sym, subst, Bool, cond, List, ap, ◌∙◌}
use Rattle.chunk_map.specs.Entries.{AreRising}
use Rattle.commit_pages.proofs.Directories.{entries_rise}
use Rattle.chunk_map.specs.declared.directory.DirEntry.{DirEntry}
use Rattle.chunk_map.specs.declared.directory.Directory.{Directory}
use Rattle.commit_pages.specs.Versions.{entries_of, put_entries, directory_of}
use Rattle.commit_pages.proofs.Results.{handed}
use Rattle.commit_pages.proofs.pages.version.directory_of.Goals as goal

pub with_entries-requires-clause-fresh : goal.with_entries-requires-clause-fresh
with_entries-requires-clause-fresh c = subst AreRising (sym c.in_ok-fresh.ensures) (entries_rise c.args.written.now c.requires.written)

pub returns-else-written : goal.returns-else-written
unfolding directory_of
returns-else-written c =
    let all = entries_of c.args.written.now in
    let of_entries : List DirEntry → Directory = λ entries. record { entries = entries } in
    handed c.with_entries.result _ _
    (ap (λ (fresh : List DirEntry). of_entries (put_entries fresh c.args.newest.now.entries)) c.in_ok-fresh.ensures
    ∙ sym (ap (λ (b : Bool). of_entries (cond b all (put_entries all c.args.newest.now.entries))) c.if-written.false)) c.with_entries.ensures

pub with_entries-requires-clause-newest : goal.with_entries-requires-clause-newest
with_entries-requires-clause-newest c = c.requires.newest
