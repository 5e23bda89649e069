-- Bytes that are copied when they are first written over.
use Rattle.std.specs.Prelude.{ℕ, List, Vec, None, Some}
use Rattle.std.specs.declared.option.Option.{Option}
use Rattle.std.specs.declared.alloc.Global.{Global}

-- the first bytes, and those that stand there now
pub record Overlaid : Type 0 where
  pub first : List ℕ
  pub content : List ℕ

abbrev pub unlaid : List ℕ → Overlaid
unlaid first = record { first = first; content = first }

-- the copy, or the first bytes where there is none
abbrev pub laid_over : List ℕ → Option (Vec ℕ Global) → List ℕ
laid_over first None = first
laid_over first (Some over) = over.items
