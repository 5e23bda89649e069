use Rattle.std.proofs.Common.{◌∙◌, ◌++◌, ap}
use Rattle.std.specs.List.{flat_map}
use Rattle.event_core.specs.Inner.Known.{pages_if}
use Rattle.event_core.proofs.Loops.{flat_end, flat_more}
use Rattle.event_core.proofs.commit.known_pages.Goals as goal

pub loop-version-preserved : goal.loop-version-preserved
loop-version-preserved c =
    let l = c.loop-version in
    flat_more _ _ l.pages c.push_if.new.pages _ l.version-index c.version-item.result c.loop-version-test.true c.version-item.is l.invariant c.in_ok-push_if.ensures

pub returns : goal.returns
returns c =
    let l = c.loop-version in
    let core = c.args.core.now in
    let newest = c.newest_of-newest.result in
    flat_end (pages_if c.args.name.now newest) core.catalogue l.pages _ l.version-index c.loop-version-test.false l.invariant
    ∙ ap (λ vs. core.catalogue ++ flat_map (pages_if c.args.name.now newest) vs) c.as_slice-version-items.ensures
    ∙ ap (λ n. core.catalogue ++ flat_map (pages_if c.args.name.now n) core.pages) c.newest_of-newest.ensures
