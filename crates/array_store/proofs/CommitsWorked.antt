-- A cell that is put into A under a pin, and a commit of another array behind it.
use Rattle.std.proofs.Common.{[], ◌∷◌, Some, refl}
use Rattle.array_rows.specs.Arrays.{AreRowsOf}
use Rattle.event_core.specs.Cells.{at}
use Rattle.array_store.specs.FreshLaws.{AreLeft}
use Rattle.commit_pages.specs.Inner.Examples.{cell_at, insert_at, schema, stored}
use Rattle.commit_pages.specs.Inner.Example.{changed as the_chunk}
use Rattle.commit_pages.proofs.PagesWorked.{laid}
use Rattle.prepared_commits.specs.Prepared.{MayBeMade}
use Rattle.array_store.specs.FreshChanges.{AFreshInsertMayBeMade, a_new_array, a_pin}
use Rattle.array_store.proofs.Made.{may_be_made}

one_row : AreRowsOf (schema 0) (cell_at 2 ∷ [])
one_row = record { valid = refl; are_rows = record { rising = (tt, tt); in_bounds = (refl, tt) }; kinds = ((refl, tt), tt) }

left : AreLeft a_new_array (insert_at 0 2)
left = (refl, tt)

before : MayBeMade (at (stored 0) a_pin) (insert_at 0 2) (Some the_chunk)
before = record { stores = one_row; fault = refl; chunks = laid.over.chunks }

pub worked : AFreshInsertMayBeMade
worked = record { left = left; before = before; now = may_be_made (stored 0) a_new_array a_pin (insert_at 0 2) (Some the_chunk) left before }
