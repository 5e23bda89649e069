-- A disk that was only read leaves the slots sound.
use Rattle.std.proofs.Common.{ℕ, List, Option, Some, None, IfSome}
use Rattle.page_chain.specs.Places.{SameBut}
use Rattle.page_chain.specs.Standing.{IsSound, filled_gate}
use Rattle.page_chain.specs.declared.slots.slots.slots.Slots.{Slots}

fewer : (o : Option ℕ) (seen : List ℕ) (before now : List ℕ → Type 0) → ((c : List ℕ) → now c → before c) → IfSome o (λ at. (c : List ℕ) → before c → SameBut at 1 seen c) → IfSome o (λ at. (c : List ℕ) → now c → SameBut at 1 seen c)
fewer None seen before now less filled = tt
fewer (Some at) seen before now less filled = λ c left. filled c (less c left)

pub sound_read : (slots : Slots) (seen : List ℕ) (before now : List ℕ → Type 0) → ((c : List ℕ) → now c → before c) → IsSound slots seen before → IsSound slots seen now
sound_read slots seen before now less sound = record {
  images = λ c left. sound.images c (less c left);
  zeroed = sound.zeroed;
  alone = sound.alone;
  sure = sound.sure;
  filled = fewer (filled_gate slots.target slots) seen before now less sound.filled;
}
