use Rattle.std.proofs.Common.{◌∙◌, ◌++◌, ℕ, List, ap}
use Rattle.chunk_map.specs.declared.directory.DirEntry.{DirEntry}
use Rattle.event_core.proofs.Loops.{flat_more}
use Rattle.store_opening.proofs.bases.base.push_payloads.Goals as goal

pub loop-entry-preserved : goal.loop-entry-preserved
loop-entry-preserved c =
    let l = c.loop-entry in
    flat_more (λ (entry : DirEntry). entry.pages) c.args.pages.now l.pages c.extend.new.self c.args.entries.now l.entry-index c.entry-item.result
    c.loop-entry-test.true c.entry-item.is l.invariant (c.in_ok-extend.ensures.ok ∙ ap (λ (ys : List ℕ). l.pages ++ ys) c.as_slice.ensures)
