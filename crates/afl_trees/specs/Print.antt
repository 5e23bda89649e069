-- The printed form of a tree, and that it is read as the same tree but for places.
use Rattle.std.specs.Prelude.{◌≡◌, ℕ, Bool, true, false, List, [], ◌∷◌, ◌++◌, codes}
use Rattle.std.specs.Fmt.{decimal, signed_decimal}
use Rattle.std.specs.List.{join_with_byte}
use Rattle.afl_lexer.specs.Spelling.{quoted_text}
use Rattle.schema_grammar.specs.SchemaBytes.{shape_bytes}
use Rattle.schema_grammar.specs.Inner.SchemaMarks.{nowhere, bare_shape}
use Rattle.afl_trees.specs.Term.{Term, create, number, text, truth, null, missing, reference, version, call, schema}
use Rattle.afl_trees.specs.Term.{star, renamed, opposite, negative, binary, group, Terms, no_terms, and_term}
use Rattle.afl_trees.specs.Statement.{DerivesText}
use Rattle.afl_trees.specs.declared.tree.BinaryOp.{BinaryOp}
use Rattle.afl_trees.specs.declared.tree.BinaryOp.TheVariants.{Or, And, Equal, Differs, Less, AtMost, More, AtLeast, Add, Sub, Mul, Div, Rem}

abbrev pub op_bytes : BinaryOp → List ℕ
op_bytes Or = codes "or"
op_bytes And = codes "and"
op_bytes Equal = codes "="
op_bytes Differs = codes "<>"
op_bytes Less = codes "<"
op_bytes AtMost = codes "<="
op_bytes More = codes ">"
op_bytes AtLeast = codes ">="
op_bytes Add = codes "+"
op_bytes Sub = codes "-"
op_bytes Mul = codes "*"
op_bytes Div = codes "/"
op_bytes Rem = codes "%"

abbrev pub truth_bytes : Bool → List ℕ
truth_bytes true = codes "true"
truth_bytes false = codes "false"

-- Arguments have commas between and no spaces, operators between operands a space on each side, `not` and `-` before an operand one behind.
-- Brackets stand only where the tree has a group.
abbrev mutual
  pub printed : Term → List ℕ
  printed (create s n m) = codes "create array " ++ n ++ codes " " ++ shape_bytes m
  printed (number s n) = signed_decimal n
  printed (text s x) = quoted_text x
  printed (truth s b) = truth_bytes b
  printed (null s) = codes "null"
  printed (missing s c) = codes "?" ++ decimal c
  printed (reference s n) = n
  printed (version s n v) = n ++ codes "@" ++ signed_decimal v
  printed (call s n ts) = n ++ codes "(" ++ join_with_byte 44 (all_printed ts) ++ codes ")"
  printed (schema s m) = shape_bytes m
  printed (star s) = codes "*"
  printed (renamed s a n) = printed a ++ codes " as " ++ n
  printed (opposite s a) = codes "not " ++ printed a
  printed (negative s a) = codes "- " ++ printed a
  printed (binary s o a b) = printed a ++ codes " " ++ op_bytes o ++ codes " " ++ printed b
  printed (group s a) = codes "(" ++ printed a ++ codes ")"

  pub all_printed : Terms → List (List ℕ)
  all_printed no_terms = []
  all_printed (and_term t ts) = printed t ∷ all_printed ts

-- the tree without its places
abbrev mutual
  pub without_spans : Term → Term
  without_spans (create s n m) = create nowhere n (bare_shape m)
  without_spans (number s n) = number nowhere n
  without_spans (text s x) = text nowhere x
  without_spans (truth s b) = truth nowhere b
  without_spans (null s) = null nowhere
  without_spans (missing s c) = missing nowhere c
  without_spans (reference s n) = reference nowhere n
  without_spans (version s n v) = version nowhere n v
  without_spans (call s n ts) = call nowhere n (all_without_spans ts)
  without_spans (schema s m) = schema nowhere (bare_shape m)
  without_spans (star s) = star nowhere
  without_spans (renamed s a n) = renamed nowhere (without_spans a) n
  without_spans (opposite s a) = opposite nowhere (without_spans a)
  without_spans (negative s a) = negative nowhere (without_spans a)
  without_spans (binary s o a b) = binary nowhere o (without_spans a) (without_spans b)
  without_spans (group s a) = group nowhere (without_spans a)

  pub all_without_spans : Terms → Terms
  all_without_spans no_terms = no_terms
  all_without_spans (and_term t ts) = and_term (without_spans t) (all_without_spans ts)

-- The tree of a text is printed as a text that has a tree, which is the same but for places.
abbrev pub AreReadAgain : Type 0
AreReadAgain = (text : List ℕ) (t : Term) → DerivesText text t → (u : Term) × DerivesText (printed t) u × (without_spans u ≡ without_spans t)
