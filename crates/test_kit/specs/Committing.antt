-- What is known of the slots between the steps of a commit.
use Rattle.std.specs.Prelude.{◌≡◌, ℕ, Some}
use Rattle.page_chain.specs.Standing.{IsClosed}
use Rattle.page_chain.specs.declared.slots.slots.slots.Slots.{Slots}

-- the target is closed on the disk, and this page was written as zeros
pub record IsLaid (log : ℕ) (slots : Slots) : Type 0 where
  pub closed : IsClosed slots
  pub zeroed : slots.zeroed ≡ Some log
