-- `store` and `insert`, by which of the two it is.
use Rattle.std.proofs.Common.{◌≡◌, ◌<◌, ◌≤◌, ℕ, List, length, Option, Some, None, Result, sym, subst}
use Rattle.cell_values.specs.declared.name.Span.{Span}
use Rattle.cell_values.specs.declared.schema.Schema.{Schema}
use Rattle.schema_grammar.specs.declared.kinds.TypeKind.TheVariants.{WrongCount}
use Rattle.afl_trees.specs.Term.{Term, no_terms, and_term, reference, to_terms}
use Rattle.logical_plan.specs.declared.names.NameEntry.{NameEntry}
use Rattle.plan_changes.specs.declared.change.Change.{Change}
use Rattle.check_rules.specs.Checked.{Answers, refused}
use Rattle.check_rules.specs.declared.rules.fault.TypeFault.{TypeFault}
use Rattle.afl_types.specs.Changes.{fitting}
use Rattle.afl_types.specs.Inner.Putting.{new_schema, put_in, put_schema, put_target}
use Rattle.afl_types.specs.Inner.PuttingStatements.{put_of, put_two}
use Rattle.afl_types.specs.declared.types.changes.put.Putting.{Putting}
use Rattle.afl_types.specs.declared.types.changes.put.Putting.TheVariants.{Store, Insert}
use Rattle.afl_types.specs.declared.types.changes.put.Target.{Target}
use Rattle.afl_types.proofs.Targets.{few_for_insert, few_for_store, many_for_insert, many_for_store}

module _ (arrays : List NameEntry) (s : Span) where
  module _ (r : Result Schema TypeFault) (t : Span) (shape : Schema) where
    pub of_entry : (putting : Putting) (o : Option NameEntry) (entry : NameEntry) → o ≡ Some entry → Answers r (fitting s t entry shape)
        → Answers r (put_schema putting arrays s t shape o)
    of_entry Store o entry e h = subst (λ z. Answers r (put_schema Store arrays s t shape z)) (sym e) h
    of_entry Insert o entry e h = subst (λ z. Answers r (put_schema Insert arrays s t shape z)) (sym e) h

    pub of_none : (putting : Putting) (o : Option NameEntry) → o ≡ None → Answers r (new_schema putting arrays t shape)
        → Answers r (put_schema putting arrays s t shape o)
    of_none Store o e h = subst (λ z. Answers r (put_schema Store arrays s t shape z)) (sym e) h
    of_none Insert o e h = subst (λ z. Answers r (put_schema Insert arrays s t shape z)) (sym e) h

  pub of_reference : (r : Result Target TypeFault) (t : Span) (name : List ℕ) (shape : Schema) (putting : Putting) → Answers r (put_in putting arrays s shape t name)
      → Answers r (put_target putting arrays s shape (reference t name))
  of_reference r t name shape Store h = h
  of_reference r t name shape Insert h = h

  pub of_two : (r : Result Change TypeFault) (q n : Term) (putting : Putting) → Answers r (put_two putting arrays s q n)
      → Answers r (put_of putting arrays s (and_term q (and_term n no_terms)))
  of_two r q n Store h = h
  of_two r q n Insert h = h

  pub too_few : (putting : Putting) (xs : List Term) → length xs < 2 → put_of putting arrays s (to_terms xs) ≡ refused s WrongCount
  too_few Store xs few = few_for_store arrays s xs few
  too_few Insert xs few = few_for_insert arrays s xs few

  pub too_many : (putting : Putting) (xs : List Term) → 3 ≤ length xs → put_of putting arrays s (to_terms xs) ≡ refused s WrongCount
  too_many Store xs many = many_for_store arrays s xs many
  too_many Insert xs many = many_for_insert arrays s xs many
