-- The sort of aggregates: `sum(x)`, `min(x)`, `max(x)` and `count(x)` of a bare name x, and `count(*)`, each with or without `as` and a name.
use Rattle.std.specs.Prelude.{ℕ, Bool, is_some, if◌then◌else◌, codes, drop, take, Option, Some, None, List}
use Rattle.std.specs.List.{prefix_len}
use Rattle.std.specs.Str.{bytes_eq}
use Rattle.afl_trees.specs.Term.{Term, call, reference, star, renamed, Terms, no_terms, and_term}
use Rattle.logical_plan.specs.declared.parts.AggFunction.{AggFunction}
use Rattle.logical_plan.specs.declared.parts.AggFunction.TheVariants.{Sum, Count, CountAll, Min, Max}

-- the function of this word, of an attribute
unfoldable pub function_named : List ℕ → Option AggFunction
function_named word =
    if bytes_eq word (codes "sum") then Some Sum else if bytes_eq word (codes "min") then Some Min
    else if bytes_eq word (codes "max") then Some Max else if bytes_eq word (codes "count") then Some Count
    else None

-- the function of all cells
unfoldable pub cells_function : List ℕ → Option AggFunction
cells_function word = if bytes_eq word (codes "count") then Some CountAll else None

-- the function of this word, of a bare name or of `*`
abbrev pub function_over : List ℕ → Term → Option AggFunction
function_over word (reference s x) = function_named word
function_over word (star s) = cells_function word
function_over word t = None

-- what stands before `as`
abbrev pub unnamed : Term → Term
unnamed (renamed s a name) = a
unnamed t = t

-- the operand of a call of one
abbrev pub sole : Terms → Option Term
sole (and_term t no_terms) = Some t
sole ts = None

abbrev pub operand_in : Term → Option Term
operand_in (call s word arguments) = sole arguments
operand_in t = None

abbrev pub function_of : List ℕ → Option Term → Option AggFunction
function_of word (Some operand) = function_over word operand
function_of word None = None

abbrev pub function_in : Term → Option AggFunction
function_in (call s word arguments) = function_of word (sole arguments)
function_in t = None

abbrev pub is_aggregate : Term → Bool
is_aggregate t = is_some (function_in (unnamed t))

-- Where two lists of arguments stand side by side, the second begins at the first argument that is not of the first one's sort.
abbrev pub front : (Term → Bool) → List Term → List Term
front sort arguments = take (prefix_len sort arguments) arguments

abbrev pub behind : (Term → Bool) → List Term → List Term
behind sort arguments = drop (prefix_len sort arguments) arguments
