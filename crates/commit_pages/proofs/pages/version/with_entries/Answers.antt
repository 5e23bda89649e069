use Rattle.std.proofs.Common.{◌≡◌, List, subst, sym}
use Rattle.chunk_map.specs.declared.directory.DirEntry.{DirEntry}
use Rattle.chunk_map.specs.declared.directory.Directory.{Directory}
use Rattle.chunk_map.specs.Replacing.{AreReplaced}
use Rattle.commit_pages.specs.Versions.{put_entries}
use Rattle.commit_pages.proofs.Results.{if_ok, replaced_put}
use Rattle.chunk_map.specs.Entries.{AreRising}
use Rattle.commit_pages.proofs.pages.version.with_entries.Goals as goal

pub returns : goal.returns
returns c =
    if_ok (λ (new : Directory). AreReplaced c.as_slice.result.now c.args.newest.now.entries new.entries)
    (λ (new : Directory). new ≡ record { entries = put_entries c.args.fresh.now c.args.newest.now.entries }) c.replaced.result
    (λ new are. subst (λ (es : List DirEntry). new ≡ record { entries = put_entries es c.args.newest.now.entries }) c.as_slice.ensures
    (replaced_put c.as_slice.result.now c.args.newest.now.entries new c.requires.newest are)) c.replaced.ensures

pub replaced-requires-clause-fresh : goal.replaced-requires-clause-fresh
replaced-requires-clause-fresh c = subst AreRising (sym c.as_slice.ensures) c.requires.fresh
