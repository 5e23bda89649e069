-- What writes of pages make of the slots.
use Rattle.std.specs.Prelude.{ℕ, nat_eq, if◌then◌else◌, List, [], ◌∷◌, Option, Some, None}
use Rattle.std.specs.List.{list_all, list_any}
use Rattle.page_chain.specs.Places.{IsNone}
use Rattle.page_chain.specs.Pages.{AreDistinct}
use Rattle.page_chain.specs.Steps.{emptied_root, emptied_entry}
use Rattle.page_chain.specs.declared.slots.slots.slots.Slots.{Slots}

-- pages that differ from one another, from page 0 and from the log page
pub record MayWrite (pages : List ℕ) (slots : Slots) : Type 0 where
  pub distinct : AreDistinct pages
  pub apart : IsNone pages 0
  pub log : IsNone pages slots.current.root.log

-- the page that was written as zeros, where it isn't among these
abbrev pub unwritten : List ℕ → Option ℕ → Option ℕ
unwritten pages None = None
unwritten pages (Some page) = if list_any (λ other. nat_eq other page) pages then None else Some page

-- the page that was written as zeros: that of a blob of zeros in one page, else the one before where it isn't among those written
abbrev pub zeroed_by : List ℕ → List ℕ → Option ℕ → Option ℕ
zeroed_by [] bytes zeroed = unwritten [] zeroed
zeroed_by (page ∷ []) bytes zeroed = if list_all (λ byte. nat_eq byte 0) bytes then Some page else unwritten (page ∷ []) zeroed
zeroed_by (page ∷ next ∷ rest) bytes zeroed = unwritten (page ∷ next ∷ rest) zeroed

-- Pages were written, or some of them: what was written for the target before doesn't count.
abbrev pub pages_written : List ℕ → Slots → Slots
pages_written pages slots = record slots { other = emptied_root slots.other; next = emptied_entry slots.next; zeroed = unwritten pages slots.zeroed }

-- a blob was written
abbrev pub blob_written : List ℕ → List ℕ → Slots → Slots
blob_written pages bytes slots = record slots { other = emptied_root slots.other; next = emptied_entry slots.next; zeroed = zeroed_by pages bytes slots.zeroed }
