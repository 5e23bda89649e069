use Rattle.chunk_map.specs.declared.directory.DirEntry.{DirEntry}
use Rattle.commit_pages.proofs.Loops.{flat_more}
use Rattle.std.proofs.Common.{List, ◌++◌, ap, ◌∙◌}
use Rattle.std.specs.List.{flat_map}
use Rattle.std.proofs.lemmas.List.{take_all}
use Rattle.commit_pages.proofs.pages.version.push_pages.Goals as goal

pub loop-entry-preserved : goal.loop-entry-preserved
loop-entry-preserved c =
    let l = c.loop-entry in
    flat_more c.args.entries.now l.entry-index c.entry-item.result c.loop-entry-test.true c.entry-item.is (λ (entry : DirEntry). entry.pages) c.args.pages.now l.pages
    c.extend.new.self c.as_slice.result.now l.invariant c.as_slice.ensures c.in_ok-extend.ensures.ok

pub returns : goal.returns
returns c =
    c.loop-entry.invariant
    ∙ ap (λ (entries : List DirEntry). c.args.pages.now ++ flat_map (λ entry. entry.pages) entries) (take_all c.loop-entry.entry-index c.args.entries.now c.loop-entry-test.false)
