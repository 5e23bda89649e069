use Rattle.std.proofs.Common.{length, ◌∙◌, ap}
use Rattle.file_meaning.proofs.Counts.{counts_agree}
use Rattle.file_reading.proofs.directories.read_directory.Goals as goal

pub read_blob-requires : goal.read_blob-requires
read_blob-requires g c = ap length c.as_slice.ensures ∙ c.requires.blob.count.0 ∙ counts_agree c.args.at.now.length
