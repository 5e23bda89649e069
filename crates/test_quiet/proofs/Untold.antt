-- What passes on a disk that tells no bytes.
use Rattle.std.proofs.Common.{inl, arith}
use Rattle.afl_outside.specs.Disk.{Elapses}

pub untold_time : Elapses 0 0 (λ _ _. Unit {0}) (λ _ _. Unit {0}) (λ _. Unit {0})
untold_time = record { later = omega arith; nothing_else = λ t c before since. inl tt }
