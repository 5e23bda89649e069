-- The names that a tree says of stored arrays: those that stand in an array's place.
use Rattle.std.specs.Prelude.{ℕ, Option, Some, List, [], ◌∷◌, ◌++◌}
use Rattle.afl_trees.specs.Term.{Term, create, reference, version, call, group, Terms, no_terms, and_term}
use Rattle.check_rules.specs.Operators.{operator_named}
use Rattle.check_rules.specs.declared.rules.operator.Operator.{Operator}
use Rattle.check_rules.specs.declared.rules.operator.Operator.TheVariants as operator
use Rattle.afl_types.specs.Calls.{call_of}
use Rattle.afl_types.specs.declared.queries.call.Call.{Call}
use Rattle.afl_types.specs.declared.queries.call.Call.TheVariants.{Scan, Over, Two}

-- in a query, from left to right: the argument of `scan`, the sources of the other operators, and an array by its name alone
abbrev mutual
  pub read_names : Term → List (List ℕ)
  read_names (reference s name) = name ∷ []
  read_names (version s name n) = name ∷ []
  read_names (group s a) = read_names a
  read_names (call s name arguments) = called_names (call_of (operator_named name)) arguments
  read_names t = []

  pub called_names : Option Call → Terms → List (List ℕ)
  called_names (Some Scan) (and_term x no_terms) = read_names x
  called_names (Some (Over operator)) (and_term source arguments) = read_names source
  called_names (Some (Two operator)) (and_term left (and_term right arguments)) = read_names left ++ read_names right
  called_names o arguments = []

-- at a call that changes arrays or lists something: in the query, and the name behind it
abbrev pub stated_names : Option Operator → Terms → List (List ℕ) → List (List ℕ)
stated_names (Some operator.Store) (and_term q (and_term n no_terms)) other = read_names q ++ read_names n
stated_names (Some operator.Insert) (and_term q (and_term n no_terms)) other = read_names q ++ read_names n
stated_names (Some operator.Remove) (and_term n no_terms) other = read_names n
stated_names (Some operator.RemoveVersions) (and_term n (and_term i no_terms)) other = read_names n
stated_names (Some operator.Versions) (and_term n no_terms) other = read_names n
stated_names (Some operator.Show) (and_term n no_terms) other = read_names n
stated_names o arguments other = other

-- in a statement
abbrev pub said_names : Term → List (List ℕ)
said_names (create s name written) = name ∷ []
said_names (call s name arguments) = stated_names (operator_named name) arguments (read_names (call s name arguments))
said_names t = read_names t
