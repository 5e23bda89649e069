-- An array that is removed by a new base: the file after, and what the commit has done.
use Rattle.std.specs.Prelude.{ℕ, List, [], ◌∷◌, ◌++◌, codes, None}
use Rattle.plan_changes.specs.declared.change.Change.{Change}
use Rattle.plan_changes.specs.declared.change.Change.TheVariants.{Remove}
use Rattle.file_meaning.specs.Standing.{Stands}
use Rattle.file_meaning.specs.Inner.FileExample.{database, eight, four, zeros, catalog_bytes, file}
use Rattle.file_meaning.specs.Inner.NextExample.{stored, found, slots}
use Rattle.file_meaning.specs.Premises.{StandsBy, MayChange, HoldsBase}

-- remove(A)
abbrev pub change : Change
change = Remove (codes "A")

-- page 0: besides slot A slot B is open, with sequence 3 and a catalogue of 4 bytes from page 5 on, and with the log page 6
unfoldable pub front : List ℕ
front =
    65 ∷ 70 ∷ 76 ∷ 83 ∷ 84 ∷ 79 ∷ 82 ∷ 69 ∷ 2 ∷ 0 ∷ 0 ∷ 0 ∷ (zeros 500 ++ (eight 2 ++ (eight 2 ++ (eight 74 ++ (four 1 ++ (four 2 ++ (zeros 480
    ++ (eight 2 ++ (eight 3 ++ (eight 4 ++ (four 5 ++ (four 6 ++ zeros 3040))))))))))))

-- the catalogue and the log before, and version 1
unfoldable pub kept : List ℕ
kept = (four 0 ++ (catalog_bytes 3 ++ zeros 4018)) ++ (zeros 4096 ++ stored)

-- the catalogue of no array, and an empty log
unfoldable pub added : List ℕ
added = (four 0 ++ (four 0 ++ zeros 4088)) ++ zeros 4096

-- the file with the new base
unfoldable pub next : List ℕ
next = front ++ (kept ++ added)

-- all that the law asks holds of these files, and what it says is so
pub record AnArrayIsRemoved : Type 0 where
  pub stands : StandsBy file slots database found
  pub may : MayChange database change
  pub holds : HoldsBase (5 ∷ 6 ∷ []) file next slots found database change None (5 ∷ []) 3 6
  pub next_stands : Stands next []
