use Rattle.version_catalog.specs.Records.{with_directory}
use Rattle.version_catalog.proofs.Maps.{mapped}
use Rattle.version_catalog.proofs.changing.arrays.with_directory.Goals as goal

pub returns : goal.returns
returns c =
    mapped c.into_vec-items.result.len (with_directory c.args.name.now c.args.directory.now) c.args.arrays _ _ _ _ _
    c.into_vec-items.ensures c.as_mut_slice.ensures.value c.into_vec-items.result.ok.0 c.in_ok-raise_all.ensures c.from_vec.ensures
