-- The names of the streams of a run.
use Rattle.std.specs.Prelude.{◌≢◌, ℕ, List, ◌++◌, AllPairs, codes, map, if◌then◌else◌}
use Rattle.std.specs.Str.{bytes_eq}

abbrev pub Word : Type 0
Word = List ℕ

-- the name of the standard streams
abbrev pub standard : Word
standard = codes "-"

-- the reply of the standard input is the standard output
abbrev pub reply_name : Word → Word
reply_name script = if bytes_eq script standard then script else script ++ codes ".out"

-- the names of all scripts, and those of their replies
abbrev pub stream_names : List Word → List Word
stream_names scripts = scripts ++ map reply_name scripts

-- no two scripts have one name, and no two replies
pub record HaveOwnNames (scripts : List Word) : Type 0 where
  pub apart : AllPairs (λ a b. a ≢ b) scripts
  pub replies_apart : AllPairs (λ a b. a ≢ b) (map reply_name scripts)
