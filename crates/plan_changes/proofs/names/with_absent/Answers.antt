use Rattle.std.proofs.Common.{◌≡◌, ℕ, List, refl, subst, sym, IsTrue, Result, Ok, Err, IfOk}
use Rattle.std.specs.List.{list_all}
use Rattle.std.proofs.lemmas.Bool.{or_right}
use Rattle.expr_nulls.specs.Memory.{Memory}
use Rattle.expr_nulls.specs.Schema.{Schema}
use Rattle.logical_plan.specs.declared.names.NameEntry.{NameEntry}
use Rattle.plan_changes.specs.Changes.{with_array, place_of}
use Rattle.plan_changes.specs.Allowed.{has_number}
use Rattle.plan_changes.proofs.Maps.{all_inserted}
use Rattle.plan_changes.proofs.names.with_absent.Goals as goal

-- the new array has the number 1 for its first version
number_kept : (name : List ℕ) (schema : Schema) (arrays : List NameEntry) (r : Result (List NameEntry) Memory) → IfOk r (λ more. more ≡ with_array name schema arrays) →
    IfOk r (λ more. IsTrue (list_all (has_number name) arrays) → IsTrue (list_all (has_number name) more))
number_kept name schema arrays (Ok more) e = λ all. subst (λ xs. IsTrue (list_all (has_number name) xs)) (sym e) (all_inserted (has_number name) _ (or_right _ _ refl) arrays (place_of arrays name) all)
number_kept name schema arrays (Err m) e = tt

pub returns-else-has_array-clause-number : goal.returns-else-has_array-clause-number
returns-else-has_array-clause-number c = number_kept c.args.name.now c.args.schema.now c.args.arrays c.with_array.result c.with_array.ensures
