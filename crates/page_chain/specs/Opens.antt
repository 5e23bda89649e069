-- What a file opens as, and where it isn't a database.
use Rattle.std.specs.Prelude.{◌≡◌, ℕ, ◌*◌, ◌⊎◌, List, [], length, Some, None}
use Rattle.page_chain.specs.Places.{IsPage}
use Rattle.page_chain.specs.Roots.{current}
use Rattle.page_chain.specs.Logs.{IsLog, HasStray}
use Rattle.page_chain.specs.declared.slots.layout.sides.Format.{Format}
use Rattle.page_chain.specs.declared.slots.layout.sides.Format.TheVariants.{One, Two}
use Rattle.page_chain.specs.declared.slots.layout.roots.OpenRoot.{OpenRoot}
use Rattle.page_chain.specs.declared.slots.layout.logs.RecordAt.{RecordAt}

-- the records of a root's log page; in format 1 there is none
abbrev pub HasLog : Format → ℕ → List RecordAt → List ℕ → Type 0
HasLog One log records file = records ≡ []
HasLog Two log records file = IsPage log (length file) × IsLog (4096 * log) records file

-- the file opens as this root with these records
pub record OpensAs (open_root : OpenRoot) (records : List RecordAt) (file : List ℕ) : Type 0 where
  pub slot : current file ≡ Some open_root
  pub log : HasLog open_root.format open_root.root.log records file

-- the current slot is of format 2 and names a log page that is out of range
pub record LacksLog (file : List ℕ) : Type 0 where
  pub slot : OpenRoot
  pub is : current file ≡ Some slot
  pub format : slot.format ≡ Two
  pub out : ¬ IsPage slot.root.log (length file)

-- page 0 isn't right, there is no current slot, or its log page is out of range
abbrev pub IsNoDatabase : List ℕ → Type 0
IsNoDatabase file = (current file ≡ None) ⊎ LacksLog file

-- in the log page, which is this one, an open entry follows a closed one
pub record Strays (page : ℕ) (file : List ℕ) : Type 0 where
  pub slot : OpenRoot
  pub is : current file ≡ Some slot
  pub format : slot.format ≡ Two
  pub log : IsPage slot.root.log (length file)
  pub named : page ≡ slot.root.log
  pub stray : HasStray (4096 * page) file

-- the page at which a file isn't a database
abbrev pub WrongAt : ℕ → List ℕ → Type 0
WrongAt page file = ((page ≡ 0) × IsNoDatabase file) ⊎ Strays page file
