-- Worked examples of aggregates, over attributes `v` of numbers, `s` of texts and `b` of truths, for a result with the dimension `i`.
use Rattle.std.proofs.Common.{◌≡◌, ℕ, ◌+◌, true, false, Ok, List, [], ◌∷◌, refl}
use Rattle.std.specs.Prelude.{codes}
use Rattle.cell_values.specs.declared.name.Span.{Span}
use Rattle.cell_values.specs.declared.schema.Attribute.{Attribute}
use Rattle.cell_values.specs.declared.schema.Kind.TheVariants.{Int64, Str, Bool as Truths}
use Rattle.schema_grammar.specs.declared.kinds.TypeKind.TheVariants.{NameTooLong, RepeatedName, UnknownName, WrongType}
use Rattle.afl_trees.specs.Term.{Term, call, group, reference, star, renamed, no_terms, and_term}
use Rattle.logical_plan.specs.declared.parts.AggFunction.{AggFunction}
use Rattle.logical_plan.specs.declared.parts.AggFunction.TheVariants.{Sum, Count, CountAll, Max}
use Rattle.logical_plan.specs.declared.parts.Aggregate.{Aggregate}
use Rattle.check_rules.specs.Checked.{Checked, refused}
use Rattle.check_groups.specs.AggregateSort.{is_aggregate, function_named, cells_function}
use Rattle.check_groups.specs.Aggregates.{aggregates_of}

abbrev at : ℕ → ℕ → Span
at a b = record { start = a; end = b }

abbrev attributes : List Attribute
attributes = record { name = codes "v"; kind = Int64; nullable = false } ∷ record { name = codes "s"; kind = Str; nullable = true } ∷ record { name = codes "b"; kind = Truths; nullable = true } ∷ []

-- f(x) from a place on, with a word of three bytes
abbrev of : ℕ → List ℕ → List ℕ → Term
of n word x = call (at n (n + 6)) word (and_term (reference (at (n + 4) (n + 5)) x) no_terms)

abbrev given : List Term → Checked (List Aggregate)
given arguments = aggregates_of (at 0 40) attributes (codes "i" ∷ []) arguments

abbrev one : AggFunction → ℕ → List ℕ → Aggregate
one function place name = record { function = function; attribute = place; name = name }

-- sum(v), max(s)
own_names : given (of 10 (codes "sum") (codes "v") ∷ of 18 (codes "max") (codes "s") ∷ []) ≡ Ok (one Sum 0 (codes "v_sum") ∷ one Max 1 (codes "s_max") ∷ [])
unfolding function_named
own_names = refl

-- count(*), count(b) as n
counts : given (call (at 10 18) (codes "count") (and_term (star (at 16 17)) no_terms) ∷ renamed (at 20 33) (call (at 20 28) (codes "count") (and_term (reference (at 26 27) (codes "b")) no_terms)) (codes "n") ∷ [])
    ≡ Ok (one CountAll 0 (codes "count") ∷ one Count 2 (codes "n") ∷ [])
unfolding function_named cells_function
counts = refl

-- sum(x): told at x
no_attribute : given (of 10 (codes "sum") (codes "x") ∷ []) ≡ refused (at 14 15) UnknownName
unfolding function_named
no_attribute = refl

-- min(b): told at b
of_truths : given (of 10 (codes "min") (codes "b") ∷ []) ≡ refused (at 14 15) WrongType
unfolding function_named
of_truths = refl

-- sum(v), sum(v): told at the later one
twice : given (of 10 (codes "sum") (codes "v") ∷ of 18 (codes "sum") (codes "v") ∷ []) ≡ refused (at 18 24) RepeatedName
unfolding function_named
twice = refl

-- sum(v) as i: the name of a dimension
as_dimension : given (renamed (at 10 21) (of 10 (codes "sum") (codes "v")) (codes "i") ∷ []) ≡ refused (at 10 21) RepeatedName
unfolding function_named
as_dimension = refl

-- sum(*)
no_sum : is_aggregate (call (at 0 6) (codes "sum") (and_term (star (at 4 5)) no_terms)) ≡ false
unfolding cells_function
no_sum = refl

-- sum((v))
in_brackets : is_aggregate (call (at 0 8) (codes "sum") (and_term (group (at 4 7) (reference (at 5 6) (codes "v"))) no_terms)) ≡ false
in_brackets = refl

-- (sum(v))
bracketed : is_aggregate (group (at 0 8) (of 1 (codes "sum") (codes "v"))) ≡ false
bracketed = refl

-- a name of 62 bytes with `_sum` behind it is told at the whole call
abbrev long : List ℕ
long = codes "a123456789b123456789c123456789d123456789e123456789f123456789g1"

too_long : aggregates_of (at 0 99) (record { name = long; kind = Int64; nullable = true } ∷ []) [] (of 10 (codes "sum") long ∷ []) ≡ refused (at 0 99) NameTooLong
unfolding function_named
too_long = refl
