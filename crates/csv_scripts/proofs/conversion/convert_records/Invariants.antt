use Rattle.std.proofs.Common.{ℕ, Option, List, [], ◌∷◌}
use Rattle.csv_scripts.specs.Conversion.{HasRecordValues}
use Rattle.csv_scripts.specs.Inner.Converting.{HasRead, IsConverting}
use Rattle.csv_scripts.proofs.conversion.convert_records.Given as goal

abbrev pub invariant-loop : goal.invariant-loop
invariant-loop g l =
    (text : List ℕ) (names : List (List ℕ)) (before : Option (List ℕ)) → HasRead g.R.Read.remaining l.fn.reader text (names ∷ [])
    → IsConverting l.fn.plan (HasRecordValues l.fn.plan l.fn.options.is_bare l.fn.options.null.now l.fn.places) [] l.fn.progress.number l.fn.progress.loader before
    (g.W.Write.contents l.fn.out)
    → (fields : List (List (List ℕ))) × HasRead g.R.Read.remaining l.reader text (names ∷ fields)
    × IsConverting l.fn.plan (HasRecordValues l.fn.plan l.fn.options.is_bare l.fn.options.null.now l.fn.places) fields l.progress.number l.progress.loader before
    (g.W.Write.contents l.out)
