-- Files that open as the slots by which they stand.
use Rattle.std.proofs.Common.{ℕ, List, []}
use Rattle.page_chain.specs.Opens.{OpensAs}
use Rattle.page_chain.specs.declared.slots.layout.sides.Format.{Format}
use Rattle.page_chain.specs.declared.slots.layout.sides.Format.TheVariants.{One, Two}
use Rattle.page_chain.specs.declared.slots.layout.sides.Side.{Side}
use Rattle.page_chain.specs.declared.slots.layout.roots.Root.{Root}
use Rattle.page_chain.specs.Standing.{root_in}
use Rattle.file_meaning.specs.Databases.{Database}
use Rattle.file_meaning.specs.Opening.{Opens}
use Rattle.file_meaning.specs.Standing.{Stands}
use Rattle.file_meaning.specs.declared.meaning.found.Found.{Found}
use Rattle.file_meaning.proofs.SlotLaws.{slots_are}
use Rattle.file_meaning.specs.NextLaws.{FilesStandByTheirSlots, TornBasesStandAlike}
use Rattle.file_meaning.specs.Premises.{StandsBy, slots_of}
use Rattle.store_state.specs.LaidLaws.{OpenedFilesStand, OpenedRootsStand}

pub opened_files : FilesStandByTheirSlots → OpenedFilesStand
opened_files own file slots db found stands opens = own file slots db found (slots_are slots.current slots.records file opens) stands

of_format : FilesStandByTheirSlots → TornBasesStandAlike → (file : List ℕ) (side : Side) (root : Root) (db : Database) (found : Found) → StandsBy file (slots_of side root) db found → (format : Format) → OpensAs (root_in format side root) [] file
    → Opens file found × Stands file db
of_format own torn file side root db found stands One opens =
    opened_files own file (record { current = root_in One side root; records = [] }) db found (torn file side root db found stands) opens
of_format own torn file side root db found stands Two opens = opened_files own file (slots_of side root) db found stands opens

pub opened_roots : FilesStandByTheirSlots → TornBasesStandAlike → OpenedRootsStand
opened_roots own torn file side root db found stands opens = of_format own torn file side root db found stands opens.0 opens.1
