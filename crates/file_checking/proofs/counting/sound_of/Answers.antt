use Rattle.std.proofs.Common.{◌<◌, ◌^◌, List, length, sym, subst}
use Rattle.std.specs.List.{sum_by}
use Rattle.chunk_map.specs.declared.directory.Directory.{Directory}
use Rattle.file_checking.proofs.FoundRows.{few_found}
use Rattle.file_checking.proofs.counting.sound_of.Goals as goal

pub count_versions-requires : goal.count_versions-requires
count_versions-requires c =
    subst (λ (rows : List (List Directory)). sum_by (λ (row : List Directory). length row) rows < 2 ^ 64) (sym c.as_slice-rows.ensures) (few_found c.args.found.now c.requires)
