-- The names of staging arrays.
use Rattle.std.specs.Prelude.{ℕ, ◌==◌, Bool, List, ◌++◌, codes}
use Rattle.std.specs.List.{starts_with}

-- whether the name is kept for staging arrays
abbrev pub is_reserved : List ℕ → Bool
is_reserved name = starts_with (λ a b. a == b) name (codes "csv2afl_")

-- the name of the staging array of an array
abbrev pub staging_name : List ℕ → List ℕ
staging_name name = codes "csv2afl_" ++ name
