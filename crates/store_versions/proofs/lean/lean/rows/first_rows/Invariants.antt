use Rattle.std.proofs.Common.{◌≡◌, ◌++◌, length, map}
use Rattle.std.specs.Vec.Iter.{into_iter_items, into_iter_len}
use Rattle.store_versions.specs.LeanRows.{first_row}
use Rattle.store_versions.proofs.lean.lean.rows.first_rows.Given as goal

abbrev pub invariant-loop-version : goal.invariant-loop-version
invariant-loop-version l = record {
  rows : l.rows.items ++ map first_row (into_iter_items l.version-iterator) ≡ map first_row (into_iter_items l.initial.version-iterator);
  count : into_iter_len l.version-iterator ≡ length (into_iter_items l.version-iterator);
}
