use Rattle.std.proofs.Common.{◌≡◌, ◌++◌, take, drop}
use Rattle.afl_outside.specs.Files.{file_of, without}
use Rattle.afl_outside.proofs.in_memory.files.place_of.Given as goal

abbrev pub invariant-loop-i : goal.invariant-loop-i
invariant-loop-i l = (file_of (drop l.i l.file-items) l.name ≡ file_of l.files l.name) × (without l.files l.name ≡ take l.i l.file-items ++ without (drop l.i l.file-items) l.name)
