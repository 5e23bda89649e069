-- An array whose versions or schema are listed stands.
use Rattle.std.proofs.Common.{◌≡◌, ◌∙◌, ℕ, Bool, true, false, cond, ◌||◌, Option, Some, None, Ok, IfOk, List, [], ◌∷◌, refl, ap}
use Rattle.std.specs.List.{find, list_any}
use Rattle.cell_values.specs.declared.name.Span.{Span}
use Rattle.afl_trees.specs.Term.{Term, create, reference, call, Terms, no_terms, and_term}
use Rattle.logical_plan.specs.Query.{Query}
use Rattle.logical_plan.specs.declared.names.NameEntry.{NameEntry}
use Rattle.logical_plan.specs.declared.names.Names.{Names}
use Rattle.plan_changes.specs.Changes.{entry_named, has_array, is_named}
use Rattle.check_rules.specs.Checked.{Checked}
use Rattle.check_rules.specs.Operators.{operator_named}
use Rattle.check_rules.specs.declared.rules.operator.Operator.{Operator}
use Rattle.check_rules.specs.declared.rules.operator.Operator.TheVariants as operator
use Rattle.check_rules.proofs.RulesHolding.{thens, of_answer}
use Rattle.afl_types.specs.Queries.{query_of}
use Rattle.afl_types.proofs.StoredNames.{has_found}
use Rattle.afl_types.specs.Changes.{array_call, created, cut_call, known, list_call, stored_name}
use Rattle.afl_types.specs.Place.{created_place}
use Rattle.afl_types.specs.Statements.{insert_of, queried, said, statement_of, store_of}
use Rattle.afl_types.specs.declared.types.statements.checking.Typed.{Typed}
use Rattle.statement_replies.specs.StatementKinds.{NamesWhatStands, ListedArraysStand}

-- ---- an array that stands has an entry

module _ {A : Type 0} (p : A → Bool) where
  none_at : (b : Bool) (x : A) (xs : List A) → p x ≡ b → cond b (Some x) (find p xs) ≡ None → (find p xs ≡ None → list_any p xs ≡ false) → list_any p (x ∷ xs) ≡ false
  none_at true x xs is e later = absurd cc
  none_at false x xs is e later = ap (λ (b : Bool). b || list_any p xs) is ∙ later e

  none_there : (xs : List A) → find p xs ≡ None → list_any p xs ≡ false
  none_there [] e = refl
  none_there (x ∷ xs) e = none_at (p x) x xs refl e (none_there xs)

pub no_entry : (arrays : List NameEntry) (name : List ℕ) → has_array arrays name ≡ true → entry_named arrays name ≡ None → ⊥
no_entry arrays name there none = let gone : has_array arrays name ≡ false = none_there (is_named name) arrays none in absurd cc

-- ---- what checking answers

module _ (names : Names) where
  abbrev arrays : List NameEntry
  arrays = names.arrays

  abbrev Stands : List ℕ → Type 0
  Stands name = has_array arrays name ≡ true

  known_stands : (t : Span) (name : List ℕ) (o : Option NameEntry) → entry_named arrays name ≡ o → IfOk (known t (Ok name) o) Stands
  known_stands t name (Some entry) e = has_found arrays name entry e
  known_stands t name None e = tt

  named_stands : (n : Term) → IfOk (stored_name arrays n) Stands
  named_stands (reference t name) = known_stands t name (entry_named arrays name) refl
  named_stands n = tt

  array_stands : (s : Span) (arguments : Terms) → IfOk (array_call arrays s arguments) Stands
  array_stands s (and_term n no_terms) = named_stands n
  array_stands s arguments = tt

  abbrev Fits : Typed → Type 0
  Fits = NamesWhatStands names

  listed_stands : (s : Span) (arguments : Terms) (name : List ℕ) → array_call arrays s arguments ≡ Ok name → Stands name
  listed_stands s arguments name e = of_answer Stands (array_call arrays s arguments) name (array_stands s arguments) e

  queried_stands : (c : Checked Query) → IfOk (queried c) Fits
  queried_stands c = thens Fits c _ (λ query e. tt)

  said_stands : (s : Span) (o : Option Operator) (arguments : Terms) (other : Checked Typed) → IfOk other Fits → IfOk (said arrays s o arguments other) Fits
  said_stands s (Some operator.Store) arguments other h = thens Fits (store_of arrays s arguments) _ (λ change e. tt)
  said_stands s (Some operator.Insert) arguments other h = thens Fits (insert_of arrays s arguments) _ (λ change e. tt)
  said_stands s (Some operator.Remove) arguments other h = thens Fits (array_call arrays s arguments) _ (λ name e. tt)
  said_stands s (Some operator.RemoveVersions) arguments other h = thens Fits (cut_call arrays s arguments) _ (λ change e. tt)
  said_stands s (Some operator.Versions) arguments other h = thens Fits (array_call arrays s arguments) _ (listed_stands s arguments)
  said_stands s (Some operator.Show) arguments other h = thens Fits (array_call arrays s arguments) _ (listed_stands s arguments)
  said_stands s (Some operator.ListNames) arguments other h = thens Fits (list_call s arguments) _ (λ done e. tt)
  said_stands s _ arguments other h = h

  statement_stands : (text : List ℕ) (tree : Term) → IfOk (statement_of arrays text tree) Fits
  statement_stands text (create s name written) = thens Fits (created arrays (created_place text s name) name written) _ (λ change e. tt)
  statement_stands text (call s name arguments) =
      said_stands s (operator_named name) arguments (queried (query_of arrays (call s name arguments))) (queried_stands (query_of arrays (call s name arguments)))
  statement_stands text tree = queried_stands (query_of arrays tree)

pub stand : ListedArraysStand
stand names text tree = statement_stands names text tree
