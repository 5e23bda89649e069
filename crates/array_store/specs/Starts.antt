-- How a store began.
use Rattle.std.specs.Prelude.{map}
use Rattle.store_versions.specs.Versions.{MadeVersion}
use Rattle.store_opening.specs.Standings.{Standing}
use Rattle.array_store.specs.declared.store.start.FirstVersion.{FirstVersion}
use Rattle.array_store.specs.declared.store.start.Start.{Start}

abbrev pub first_of : MadeVersion → FirstVersion
first_of made = record { name = made.name; version = made.version; directory = made.directory }

-- the file as it was opened, its versions, and what the ledger began with: no call changes them
abbrev pub start_of : {D : Type 0} → Standing D → Start D
start_of s = record { opened = s.opened; first = map first_of s.first; base = s.ledger.base; limit = s.ledger.limit }
