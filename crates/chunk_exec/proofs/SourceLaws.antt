-- What holds of a plan holds of its sources.
use Rattle.std.proofs.Common.{◌≡◌, ℕ, ◌+◌, ◌<◌, Bool, true, false, List, [], ◌∷◌, ◌++◌, ap, refl, sym, ◌∙◌, subst, arith}
use Rattle.std.specs.List.{AllByRecursion}
use Rattle.std.proofs.lemmas.Bool.{false≢true}
use Rattle.array_parts.specs.Cores.{HasCells}
use Rattle.array_geom.specs.declared.chunk.ChunkedArray.{ChunkedArray}
use Rattle.logical_plan.specs.declared.parts.Leaf.{Leaf}
use Rattle.logical_plan.specs.declared.arity.BinaryNode.{BinaryNode}
use Rattle.logical_plan.specs.declared.arity.BinaryNode.TheVariants.{Join, CrossJoin, Merge, Concat}
use Rattle.logical_plan.specs.declared.arity.UnaryNode.{UnaryNode}
use Rattle.logical_plan.specs.declared.arity.UnaryNode.TheVariants.{Filter, Apply, Project, Between, Subarray, Slice, Redimension, Regrid}
use Rattle.logical_plan.specs.declared.arity.UnaryNode.TheVariants.{Window, Aggregate, Sort, Rank, Cumulate, Transpose, Reverse, Unpack, Xgrid}
use Rattle.logical_plan.specs.Arity.{binary_query, unary_query}
use Rattle.logical_plan.specs.Leaves.{leaves}
use Rattle.logical_plan.specs.Query.{Query, query_size, built, listed, scanned, filtered, applied, projected, between, subarray, sliced, joined, crossed, redimensioned, regridded, windowed, aggregated}
use Rattle.logical_plan.specs.Query.{sorted, ranked, cumulated, transposed, reversed, unpacked, xgridded, merged, concatenated}
use Rattle.logical_plan.specs.PlanSchema.{schema_of}
use Rattle.logical_plan.specs.Typing.{IsTyped}
use Rattle.chunk_exec.specs.Inner.Operated.{CanOperate, HaveSchemas, sources}

-- ---- plans by the number of their sources

unary_sources : (node : UnaryNode) (source : Query) → sources (unary_query node source) ≡ source ∷ []
unary_sources (Filter test) source = refl
unary_sources (Apply values) source = refl
unary_sources (Project places) source = refl
unary_sources (Between area) source = refl
unary_sources (Subarray area) source = refl
unary_sources (Slice fixed) source = refl
unary_sources (Redimension schema gs) source = refl
unary_sources (Regrid sizes gs) source = refl
unary_sources (Window reach gs) source = refl
unary_sources (Aggregate gs places) source = refl
unary_sources (Sort keys schema) source = refl
unary_sources (Rank x dims) source = refl
unary_sources (Cumulate gs n) source = refl
unary_sources Transpose source = refl
unary_sources Reverse source = refl
unary_sources (Unpack schema) source = refl
unary_sources (Xgrid sizes) source = refl

binary_sources : (node : BinaryNode) (left right : Query) → sources (binary_query node left right) ≡ left ∷ right ∷ []
binary_sources (Join schema) left right = refl
binary_sources (CrossJoin pairs schema) left right = refl
binary_sources Merge left right = refl
binary_sources Concat left right = refl

pub one_source : (query source : Query) (node : UnaryNode) → query ≡ unary_query node source → source ∷ [] ≡ sources query
one_source query source node is = sym (ap sources is ∙ unary_sources node source)

pub two_sources : (query left right : Query) (node : BinaryNode) → query ≡ binary_query node left right → left ∷ right ∷ [] ≡ sources query
two_sources query left right node is = sym (ap sources is ∙ binary_sources node left right)

pub typed_sources : (query : Query) → IsTyped query → AllByRecursion IsTyped (sources query)
typed_sources (filtered source test) t = (t.0, tt)
typed_sources (applied source values) t = (t.0, tt)
typed_sources (projected source places) t = (t.0, tt)
typed_sources (between source area) t = (t.0, tt)
typed_sources (subarray source area) t = (t.0, tt)
typed_sources (sliced source fixed) t = (t.0, tt)
typed_sources (joined left right schema) t = (t.0, (t.1, tt))
typed_sources (crossed left right pairs schema) t = (t.0, (t.1, tt))
typed_sources (redimensioned source schema gs) t = (t.0, tt)
typed_sources (regridded source sizes gs) t = (t.0, tt)
typed_sources (windowed source reach gs) t = (t.0, tt)
typed_sources (aggregated source gs places) t = (t.0, tt)
typed_sources (sorted source keys schema) t = (t.0, tt)
typed_sources (ranked source x dims) t = (t.0, tt)
typed_sources (cumulated source gs n) t = (t.0, tt)
typed_sources (transposed source) t = (t.0, tt)
typed_sources (reversed source) t = (t.0, tt)
typed_sources (unpacked source schema) t = (t.0, tt)
typed_sources (xgridded source sizes) t = (t.0, tt)
typed_sources (merged left right) t = (t.0, (t.1, tt))
typed_sources (concatenated left right) t = (t.0, (t.1, tt))
typed_sources query t = tt

abbrev first_leaves : List Query → List Leaf
first_leaves [] = []
first_leaves (query ∷ queries) = leaves query

abbrev is_one : List Query → Bool
is_one (query ∷ []) = true
is_one queries = false

pub leaves_of_one : (query source : Query) → source ∷ [] ≡ sources query → leaves query ≡ leaves source
leaves_of_one (built schema e) source is = sym (ap first_leaves is)
leaves_of_one (scanned leaf) source is = absurd (false≢true (sym (ap is_one is)))
leaves_of_one (joined left right schema) source is = absurd (false≢true (sym (ap is_one is)))
leaves_of_one (crossed left right pairs schema) source is = absurd (false≢true (sym (ap is_one is)))
leaves_of_one (merged left right) source is = absurd (false≢true (sym (ap is_one is)))
leaves_of_one (concatenated left right) source is = absurd (false≢true (sym (ap is_one is)))
leaves_of_one query source is = sym (ap first_leaves is)

abbrev leaves_of_both : List Query → List Leaf
leaves_of_both (left ∷ right ∷ queries) = leaves left ++ leaves right
leaves_of_both queries = []

abbrev are_two : List Query → Bool
are_two (left ∷ right ∷ queries) = true
are_two queries = false

pub leaves_of_two : (query left right : Query) → left ∷ right ∷ [] ≡ sources query → leaves query ≡ leaves left ++ leaves right
leaves_of_two (built schema e) left right is = sym (ap leaves_of_both is)
leaves_of_two (listed schema rows) left right is = sym (ap leaves_of_both is)
leaves_of_two (joined l r schema) left right is = sym (ap leaves_of_both is)
leaves_of_two (crossed l r pairs schema) left right is = sym (ap leaves_of_both is)
leaves_of_two (merged l r) left right is = sym (ap leaves_of_both is)
leaves_of_two (concatenated l r) left right is = sym (ap leaves_of_both is)
leaves_of_two query left right is = absurd (false≢true (sym (ap are_two is)))

abbrev size_of_all : List Query → ℕ
size_of_all [] = 0
size_of_all (query ∷ queries) = query_size query + size_of_all queries

size_of_sources : (query : Query) → size_of_all (sources query) < query_size query
size_of_sources (built schema e) = omega arith
size_of_sources query = omega arith

pub source_is_smaller : (query source : Query) → source ∷ [] ≡ sources query → query_size source < query_size query
source_is_smaller query source is = let s : size_of_all (source ∷ []) < query_size query = subst (λ (z : List Query). size_of_all z < query_size query) (sym is) (size_of_sources query) in omega arith

pub left_is_smaller : (query left right : Query) → left ∷ right ∷ [] ≡ sources query → query_size left < query_size query
left_is_smaller query left right is = let s : size_of_all (left ∷ right ∷ []) < query_size query = subst (λ (z : List Query). size_of_all z < query_size query) (sym is) (size_of_sources query) in omega arith

pub right_is_smaller : (query left right : Query) → left ∷ right ∷ [] ≡ sources query → query_size right < query_size query
right_is_smaller query left right is = let s : size_of_all (left ∷ right ∷ []) < query_size query = subst (λ (z : List Query). size_of_all z < query_size query) (sym is) (size_of_sources query) in omega arith

-- ---- what the last operator works on

pub can_operate_one : (query source : Query) (array : ChunkedArray) → source ∷ [] ≡ sources query → IsTyped query → array.schema ≡ schema_of source
    → HasCells array → CanOperate query (array ∷ [])
can_operate_one query source array is typed schema cells = record {
  typed = typed;
  schemas = subst (λ (z : List Query). HaveSchemas z (array ∷ [])) is (schema, tt);
  cells = (cells, tt);
}

pub can_operate_two : (query left right : Query) (a b : ChunkedArray) → left ∷ right ∷ [] ≡ sources query → IsTyped query → a.schema ≡ schema_of left
    → b.schema ≡ schema_of right → HasCells a → HasCells b → CanOperate query (a ∷ b ∷ [])
can_operate_two query left right a b is typed schema_a schema_b cells_a cells_b = record {
  typed = typed;
  schemas = subst (λ (z : List Query). HaveSchemas z (a ∷ b ∷ [])) is (schema_a, (schema_b, tt));
  cells = (cells_a, (cells_b, tt));
}
