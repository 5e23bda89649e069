use Rattle.version_catalog.specs.Records.{from_version}
use Rattle.version_catalog.proofs.Maps.{mapped}
use Rattle.version_catalog.proofs.changing.arrays.from_version.Goals as goal

pub returns : goal.returns
returns c =
    mapped c.into_vec-items.result.len (from_version c.args.name.now c.args.below) c.args.arrays _ _ _ _ _
    c.into_vec-items.ensures c.as_mut_slice.ensures.value c.into_vec-items.result.ok.0 c.cut_all.ensures c.from_vec.ensures
