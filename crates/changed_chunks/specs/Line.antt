-- The line that tells of one array that was read: how many of the stored chunks of its version were asked for.
use Rattle.std.specs.Prelude.{ℕ, List, ◌++◌, codes}
use Rattle.std.specs.Fmt.{decimal}

-- `trace: A@1 asked 1 of 3`
abbrev pub trace_line : List ℕ → ℕ → ℕ → ℕ → List ℕ
trace_line name version asked stored =
    codes "trace: " ++ name ++ codes "@" ++ decimal version ++ codes " asked " ++ decimal asked ++ codes " of " ++ decimal stored ++ codes "\n"
