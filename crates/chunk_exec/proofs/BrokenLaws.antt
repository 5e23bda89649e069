-- What operators make of arrays that are broken: arrays that the same cell breaks.
use Rattle.std.proofs.Common.{◌≡◌, List, [], ◌∷◌, None, Some, Ok, Err, Result, refl, sym, ap, ◌∙◌, subst}
use Rattle.cell_values.specs.declared.datum.Broken.{Broken}
use Rattle.cell_values.specs.declared.datum.Row.{Row}
use Rattle.cell_values.specs.declared.schema.Schema.{Schema}
use Rattle.array_rows.specs.Arrays.{Meant}
use Rattle.array_geom.specs.declared.chunk.ChunkedArray.{ChunkedArray}
use Rattle.array_geom.specs.Link.{Is}
use Rattle.array_parts.specs.Cores.{cores_of, meant_by_cores, unless_broken}
use Rattle.logical_plan.specs.declared.arity.BinaryNode.{BinaryNode}
use Rattle.logical_plan.specs.declared.arity.BinaryNode.TheVariants.{Join, CrossJoin, Merge, Concat}
use Rattle.logical_plan.specs.declared.arity.UnaryNode.{UnaryNode}
use Rattle.logical_plan.specs.declared.arity.UnaryNode.TheVariants.{Filter, Apply, Project, Between, Subarray, Slice, Redimension, Regrid}
use Rattle.logical_plan.specs.declared.arity.UnaryNode.TheVariants.{Window, Aggregate, Sort, Rank, Cumulate, Transpose, Reverse, Unpack, Xgrid}
use Rattle.logical_plan.specs.Arity.{binary_query, unary_query}
use Rattle.logical_plan.specs.PlanSchema.{schema_of}
use Rattle.logical_plan.specs.Query.{Query}
use Rattle.chunk_exec.specs.Inner.Operated.{CanOperate, HaveSchemas, IsResultOf, operated}
use Rattle.chunk_exec.proofs.OperatorLaws.{computed_by_cores, computed_of_two}
use Rattle.chunk_exec.proofs.SourceLaws.{one_source, two_sources}

-- an array of a schema that could not be computed
abbrev pub broken_by : Broken → Schema → Meant
broken_by broken schema = record { schema = schema; rows = Err broken }

-- ---- one source

-- what breaks the source of a plan breaks the plan's array, which is of the plan's schema
unary_broken : (node : UnaryNode) (source : Query) (broken : Broken)
    → operated (unary_query node source) (broken_by broken (schema_of source) ∷ []) ≡ broken_by broken (schema_of (unary_query node source))
unary_broken (Filter test) source broken = refl
unary_broken (Apply values) source broken = refl
unary_broken (Project places) source broken = refl
unary_broken (Between area) source broken = refl
unary_broken (Subarray area) source broken = refl
unary_broken (Slice fixed) source broken = refl
unary_broken (Redimension schema gs) source broken = refl
unary_broken (Regrid sizes gs) source broken = refl
unary_broken (Window reach gs) source broken = refl
unary_broken (Aggregate gs places) source broken = refl
unary_broken (Sort keys schema) source broken = refl
unary_broken (Rank x dims) source broken = refl
unary_broken (Cumulate gs n) source broken = refl
unary_broken Transpose source broken = refl
unary_broken Reverse source broken = refl
unary_broken (Unpack schema) source broken = refl
unary_broken (Xgrid sizes) source broken = refl

pub broken_source : (plan source : Query) (node : UnaryNode) (array made : ChunkedArray) (broken : Broken) → plan ≡ unary_query node source → CanOperate plan (array ∷ []) → array.broken ≡ Some broken
    → Is made (broken_by broken (schema_of plan)) → IsResultOf plan (array ∷ []) made
broken_source plan source node array made broken is can breaks made_is =
    let schemas : HaveSchemas (source ∷ []) (array ∷ []) = subst (λ (z : List Query). HaveSchemas z (array ∷ [])) (sym (one_source plan source node is)) can.schemas in
    let cores : meant_by_cores array ≡ broken_by broken (schema_of source) = λ i. record { schema = schemas.0 i; rows = unless_broken (breaks i) (cores_of array) } in
    let whole : operated plan (meant_by_cores array ∷ []) ≡ broken_by broken (schema_of plan)
    = ap (λ (m : Meant). operated plan (m ∷ [])) cores
    ∙ ap (λ (z : Query). operated z (broken_by broken (schema_of source) ∷ [])) is
    ∙ unary_broken node source broken
    ∙ ap (λ (z : Query). broken_by broken (schema_of z)) (sym is) in
    computed_by_cores plan (λ m. operated plan (m ∷ [])) array made (λ m. refl) (ap (λ (m : Meant). m.schema) whole) (subst (Is made) (sym whole) made_is)

-- ---- two sources

-- of two broken ones the left one breaks the plan's array
left_broken : (node : BinaryNode) (left right : Query) (broken : Broken) (rows : Result (List Row) Broken)
    → operated (binary_query node left right) (broken_by broken (schema_of left) ∷ record { schema = schema_of right; rows = rows } ∷ []) ≡ broken_by broken (schema_of (binary_query node left right))
left_broken (Join schema) left right broken rows = refl
left_broken (CrossJoin pairs schema) left right broken rows = refl
left_broken Merge left right broken rows = refl
left_broken Concat left right broken rows = refl

right_broken : (node : BinaryNode) (left right : Query) (broken : Broken) (rows : List Row)
    → operated (binary_query node left right) (record { schema = schema_of left; rows = Ok rows } ∷ broken_by broken (schema_of right) ∷ []) ≡ broken_by broken (schema_of (binary_query node left right))
right_broken (Join schema) left right broken rows = refl
right_broken (CrossJoin pairs schema) left right broken rows = refl
right_broken Merge left right broken rows = refl
right_broken Concat left right broken rows = refl

module _ (plan left right : Query) (node : BinaryNode) (a b made : ChunkedArray) (broken : Broken) (is : plan ≡ binary_query node left right) (can : CanOperate plan (a ∷ b ∷ [])) (made_is : Is made (broken_by broken (schema_of plan))) where
  of_their_plans : HaveSchemas (left ∷ right ∷ []) (a ∷ b ∷ [])
  of_their_plans = subst (λ (z : List Query). HaveSchemas z (a ∷ b ∷ [])) (sym (two_sources plan left right node is)) can.schemas

  -- what the operator makes of the two where it is broken
  of_both : (l r : Meant) → meant_by_cores a ≡ l → meant_by_cores b ≡ r → operated (binary_query node left right) (l ∷ r ∷ []) ≡ broken_by broken (schema_of (binary_query node left right)) → IsResultOf plan (a ∷ b ∷ []) made
  of_both l r of_left of_right breaks =
      let whole : operated plan (meant_by_cores a ∷ meant_by_cores b ∷ []) ≡ broken_by broken (schema_of plan)
      = ap (λ (m : Meant). operated plan (m ∷ meant_by_cores b ∷ [])) of_left
      ∙ ap (λ (m : Meant). operated plan (l ∷ m ∷ [])) of_right
      ∙ ap (λ (z : Query). operated z (l ∷ r ∷ [])) is
      ∙ breaks
      ∙ ap (λ (z : Query). broken_by broken (schema_of z)) (sym is) in
      computed_of_two plan (λ x y. operated plan (x ∷ y ∷ [])) a b made (λ x y. refl) (ap (λ (m : Meant). m.schema) whole) (subst (Is made) (sym whole) made_is)

  pub broken_left : a.broken ≡ Some broken → IsResultOf plan (a ∷ b ∷ []) made
  broken_left breaks =
      of_both (broken_by broken (schema_of left)) (record { schema = schema_of right; rows = unless_broken b.broken (cores_of b) })
      (λ i. record { schema = of_their_plans.0 i; rows = unless_broken (breaks i) (cores_of a) }) (λ i. record { schema = of_their_plans.1.0 i; rows = unless_broken b.broken (cores_of b) })
      (left_broken node left right broken (unless_broken b.broken (cores_of b)))

  pub broken_right : a.broken ≡ None → b.broken ≡ Some broken → IsResultOf plan (a ∷ b ∷ []) made
  broken_right whole breaks =
      of_both (record { schema = schema_of left; rows = Ok (cores_of a) }) (broken_by broken (schema_of right))
      (λ i. record { schema = of_their_plans.0 i; rows = unless_broken (whole i) (cores_of a) }) (λ i. record { schema = of_their_plans.1.0 i; rows = unless_broken (breaks i) (cores_of b) })
      (right_broken node left right broken (cores_of a))
