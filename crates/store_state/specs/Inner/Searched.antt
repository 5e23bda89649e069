-- A directory whose entries are found by halves.
use Rattle.std.specs.Prelude.{Option, Some, None, ⊤}
use Rattle.chunk_map.specs.Entries.{AreRising}
use Rattle.chunk_map.specs.declared.directory.Directory.{Directory}

-- where there is a directory its entries rise
abbrev pub IfRising : Option Directory → Type 0
IfRising None = ⊤
IfRising (Some directory) = AreRising directory.entries
