use Rattle.std.proofs.Common.{◌≡◌, ◌+◌, ◌-◌, ◌≤◌, length, drop}
use Rattle.std.specs.List.{prefix_len}
use Rattle.plan_changes.specs.Stored.{is_before}
use Rattle.version_catalog.proofs.changing.arrays.place_of.Given as goal

abbrev pub decreases-loop-place : goal.decreases-loop-place
decreases-loop-place l = length l.arrays - l.place

abbrev pub invariant-loop-place : goal.invariant-loop-place
invariant-loop-place l = record {
  place : l.place + prefix_len (λ array. is_before array.entry.name l.name) (drop l.place l.arrays) ≡ prefix_len (λ array. is_before array.entry.name l.name) l.arrays;
  within : l.place ≤ length l.arrays;
}
