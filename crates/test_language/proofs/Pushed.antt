-- Stored arrays after a try to add one more.
use Rattle.std.proofs.Common.{◌≡◌, List, [], ◌∷◌, ◌++◌, Result, Ok, Err, OnOk, OnErr, sym, subst}
use Rattle.cell_values.specs.Schemas.{IsValid}
use Rattle.logical_plan.specs.declared.names.NameEntry.{NameEntry}
use Rattle.afl_types.specs.Arrays.{AreValid}

one_more : (old : List NameEntry) (entry : NameEntry) → AreValid old → IsValid entry.schema → AreValid (old ++ entry ∷ [])
one_more [] entry all valid = (valid, tt)
one_more (first ∷ rest) entry all valid = (all.0, one_more rest entry all.1 valid)

pub valid_after : {T E : Type 0} (pushed : Result T E) (old new : List NameEntry) (entry : NameEntry)
    → OnOk pushed (new ≡ old ++ entry ∷ []) → OnErr pushed (new ≡ old) → AreValid old → IsValid entry.schema → AreValid new
valid_after (Ok x) old new entry more same all valid = subst AreValid (sym more) (one_more old entry all valid)
valid_after (Err e) old new entry more same all valid = subst AreValid (sym same) all
