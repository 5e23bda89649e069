-- A file stands for a database where it does so by its own slots.
use Rattle.std.proofs.Common.{◌≡◌, ℕ, List, sym, ◌∙◌, subst}
use Rattle.std.specs.Prelude.{Ok}
use Rattle.file_meaning.specs.Slots.{Slots, slots_in}
use Rattle.file_meaning.specs.Opening.{found_in, opened}
use Rattle.file_meaning.specs.Standing.{HoldsFound}
use Rattle.file_meaning.proofs.Steps.{then_is}
use Rattle.file_meaning.specs.NextLaws.{FilesStandByTheirSlots, StandingFilesHaveSlots}

same_opening : (file : List ℕ) (slots : Slots) → slots_in file ≡ Ok slots → opened file ≡ found_in file slots
unfolding opened
same_opening file slots is = then_is (slots_in file) (found_in file) slots is

pub stand_by : FilesStandByTheirSlots
stand_by file slots db found is stands =
    let opens : opened file ≡ Ok found = same_opening file slots is ∙ stands.finds in
    (opens, record { database = stands.database; holds = subst (HoldsFound file db) (sym opens) stands.holds })

pub have_slots : StandingFilesHaveSlots
have_slots file slots db found is opens stands = record {
  finds = sym (same_opening file slots is) ∙ opens;
  database = stands.database;
  holds = subst (HoldsFound file db) opens stands.holds;
}
