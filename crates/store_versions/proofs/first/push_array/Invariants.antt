use Rattle.std.proofs.Common.{◌≡◌, ◌++◌, length}
use Rattle.std.specs.Vec.Iter.{into_iter_items, into_iter_len}
use Rattle.store_versions.specs.Rows.{array_rows}
use Rattle.store_versions.proofs.first.push_array.Given as goal

abbrev pub invariant-loop-directory : goal.invariant-loop-directory
invariant-loop-directory l = record {
  rows : l.rows ++ array_rows l.entry.name l.left (into_iter_items l.directory-iterator) ≡ l.fn.rows ++ array_rows l.entry.name l.entry.versions (into_iter_items l.initial.directory-iterator);
  count : into_iter_len l.directory-iterator ≡ length (into_iter_items l.directory-iterator);
}
