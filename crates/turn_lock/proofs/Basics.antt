-- Stages and options that differ.
use Rattle.std.proofs.Common.{◌≡◌, ◌≢◌, Some, None}
use Rattle.turn_lock.specs.declared.turns.view.Stage.{Stage}
use Rattle.turn_lock.specs.declared.turns.view.Stage.TheVariants.{Idle, Waiting, Holding}

pub idle_not_holding : (st : Stage) → st ≡ Idle → st ≢ Holding
idle_not_holding st e f = cc

pub waiting_not_holding : (st : Stage) → st ≡ Waiting → st ≢ Holding
waiting_not_holding st e f = cc

pub same_value : {A : Type 0} (a b : A) → Some a ≡ Some b → a ≡ b
same_value a b e = cc

pub none_not_some : {A : Type 0} (a : A) → None ≢ Some a
none_not_some a e = cc
