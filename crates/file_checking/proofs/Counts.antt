-- Counting what was found.
use Rattle.std.proofs.Common.{◌≡◌, ◌+◌, ◌<◌, ℕ, min, List, length, take, get_or, ◌∙◌, ap, arith}
use Rattle.std.specs.List.{sum_by}
use Rattle.std.proofs.lemmas.List.Sums.{sum_by_more}
use Rattle.chunk_map.specs.declared.directory.Directory.{Directory}
use Rattle.file_checking.specs.Checks.{most}

capped : (count result part before after more : ℕ) → after ≡ before + more → part ≡ more → count ≡ min before most → result ≡ min (count + part) most → result ≡ min after most
capped count result part before after more step same had is = omega (arith, step, same, had, is)

abbrev in_row : List Directory → ℕ
in_row = sum_by (λ (d : Directory). length d.entries)

-- one more row
pub chunks_more : (rows : List (List Directory)) (i : ℕ) (row slice : List Directory) (count result : ℕ) → i < length rows → row ≡ get_or rows i row → slice ≡ row → count ≡ min (sum_by in_row (take i rows)) most
    → result ≡ min (count + in_row slice) most → result ≡ min (sum_by in_row (take (i + 1) rows)) most
chunks_more rows i row slice count result low is same had added =
    capped count result (in_row slice) (sum_by in_row (take i rows)) (sum_by in_row (take (i + 1) rows)) (in_row (get_or rows i row)) (sum_by_more in_row rows i row low) (ap in_row (same ∙ is)) had added
