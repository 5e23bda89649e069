-- A commit of a payload and of a record or a catalogue, which may be written: a witness.
use Rattle.std.specs.Prelude.{◌≡◌, [], ◌∷◌}
use Rattle.std.specs.List.{AllByRecursion}
use Rattle.page_chain.specs.declared.slots.slots.slots.Slots.{Slots}
use Rattle.page_file.specs.Written.{MayWrite}
use Rattle.page_file.specs.declared.commits.placed.Placed.{Placed}
use Rattle.page_file.specs.Commits.{base_pages, commit_pages, IsBlobSized, IsChainSized}

abbrev pub payload : Placed
payload = record { pages = 3 ∷ []; bytes = 7 ∷ [] }

abbrev pub chained : Placed
chained = record { pages = 4 ∷ []; bytes = 9 ∷ [] }

-- where the log page is page 2, a payload may be written to page 3, a chain to page 4 and a new log to page 5
abbrev pub CommitsMayBeWritten : Type 0
CommitsMayBeWritten = (slots : Slots) → slots.current.root.log ≡ 2
    → MayWrite (commit_pages (payload ∷ []) chained) slots × MayWrite (base_pages (payload ∷ []) chained 5) slots
    × AllByRecursion IsBlobSized (payload ∷ []) × IsChainSized chained
