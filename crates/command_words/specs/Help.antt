-- The words that the program answers by itself.
use Rattle.std.specs.Prelude.{ℕ, List, [], ◌∷◌, IsTrue, ◌||◌, codes}
use Rattle.std.specs.Str.{bytes_eq}

-- the single word `--help` or `--version`
abbrev pub AreOwn : List (List ℕ) → Type 0
AreOwn [] = ⊥
AreOwn (word ∷ []) = IsTrue (bytes_eq word (codes "--help") || bytes_eq word (codes "--version"))
AreOwn (word ∷ next ∷ words) = ⊥
