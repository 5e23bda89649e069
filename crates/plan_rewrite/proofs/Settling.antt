-- One induction over plans: what is settled stands for the plan.
use Rattle.std.proofs.Common.{◌≡◌, ℕ, Bool, true, false, List, length, cond, Option, Some, None, Result, Ok, Err, refl, sym, subst}
use Rattle.std.specs.Prelude.{IfOk}
use Rattle.std.proofs.lemmas.Bool.{and_from}
use Rattle.cell_values.specs.declared.memory.Memory.{Memory}
use Rattle.cell_values.specs.declared.schema.Bounds.{Bounds}
use Rattle.logical_plan.specs.declared.parts.Applied.{Applied}
use Rattle.logical_plan.specs.PlanSchema.{schema_of}
use Rattle.logical_plan.specs.Query.{Query, built, listed, scanned, filtered, applied, projected, between, subarray, sliced, joined, crossed, redimensioned, regridded, windowed, aggregated}
use Rattle.logical_plan.specs.Query.{sorted, ranked, cumulated, transposed, reversed, unpacked, xgridded, merged, concatenated}
use Rattle.logical_plan.specs.Typing.{IsTyped}
use Rattle.plan_rewrite.specs.Inner.Pending.{boxed, shown, pending}
use Rattle.plan_rewrite.specs.Inner.Settling.{settle}
use Rattle.plan_rewrite.specs.Inner.Trimmed.{met, picked, kept_for, places_for, names_none}
use Rattle.plan_rewrite.specs.Same.{IsRewritten}
use Rattle.plan_rewrite.specs.Settled.{is_settled}
use Rattle.plan_rewrite.proofs.SameLaws.{refl_same, under_subarray, under_slice, under_join, under_cross, under_redimension, under_regrid, under_window, under_aggregate}
use Rattle.plan_rewrite.proofs.SameShapes.{under_sort, under_rank, under_cumulate, under_transpose, under_reverse, under_unpack, under_xgrid, under_merge, under_concat}
use Rattle.plan_rewrite.proofs.Steps.{filter_type, filter_done, between_type, between_done, project_type, project_done, apply_type, apply_done, unused_type, unused_done, other_type, other_done}

-- the project names a computed attribute, or none
by_use : (area : Option Bounds) (places : Option (List ℕ)) (s : Query) (values : List Applied) → IsTyped (pending area places (applied s values))
    → (b : Bool) → names_none (length (schema_of s).attributes) places ≡ b
    → (IsTyped (pending area places s) → IsRewritten (pending area places s) (settle area places s)) → IsRewritten (boxed area s) (settle area None s)
    → IsRewritten (pending area places (applied s values)) (cond b (settle area places s) (shown (places_for (length (schema_of s).attributes) values places) (applied (settle area None s) (kept_for (length (schema_of s).attributes) values places))))
by_use area places s values t true e unused used = unused_done area places s (settle area places s) values t e (unused (unused_type area places s values t e))
by_use area places s values t false e unused used = apply_done area places s (settle area None s) values t used

pub settling : (area : Option Bounds) (places : Option (List ℕ)) (query : Query) → IsTyped (pending area places query) → IsRewritten (pending area places query) (settle area places query)
settling area places (built schema e) t = other_done area places (built schema e) (built schema e) t (refl_same (built schema e)) refl refl
settling area places (listed schema rows) t = other_done area places (listed schema rows) (listed schema rows) t (refl_same (listed schema rows)) refl refl
settling area places (scanned leaf) t = other_done area places (scanned leaf) (scanned leaf) t (refl_same (scanned leaf)) refl refl
settling area places (filtered source test) t = filter_done area places source (settle area None source) test t (settling area None source (filter_type area places source test t))
settling area places (applied source values) t =
    by_use area places source values t (names_none (length (schema_of source).attributes) places) refl
    (λ typed. settling area places source typed) (settling area None source (apply_type area places source values t))
settling area places (projected source own) t = project_done area places source (settle area (Some (picked places own)) source) own t (settling area (Some (picked places own)) source (project_type area places source own t))
settling area places (between source own) t = between_done area places source (settle (Some (met area own)) places source) own t (settling (Some (met area own)) places source (between_type area places source own t))
settling area places (subarray source own) t =
    let h = settling None None source (other_type area places (subarray source own) t).0 in
    other_done area places (subarray source own) (subarray (settle None None source) own) t (under_subarray source (settle None None source) own h.is_same) refl h.settled
settling area places (sliced source fixed) t =
    let h = settling None None source (other_type area places (sliced source fixed) t).0 in
    other_done area places (sliced source fixed) (sliced (settle None None source) fixed) t (under_slice source (settle None None source) fixed h.is_same) refl h.settled
settling area places (joined left right schema) t =
    let typed = other_type area places (joined left right schema) t in
    let f = settling None None left typed.0 in
    let g = settling None None right typed.1 in
    other_done area places (joined left right schema) (joined (settle None None left) (settle None None right) schema) t
    (under_join left right (settle None None left) (settle None None right) schema f.is_same g.is_same) refl (and_from (is_settled (settle None None left)) (is_settled (settle None None right)) f.settled g.settled)
settling area places (crossed left right pairs schema) t =
    let typed = other_type area places (crossed left right pairs schema) t in
    let f = settling None None left typed.0 in
    let g = settling None None right typed.1 in
    other_done area places (crossed left right pairs schema) (crossed (settle None None left) (settle None None right) pairs schema) t
    (under_cross left right (settle None None left) (settle None None right) pairs schema f.is_same g.is_same) refl (and_from (is_settled (settle None None left)) (is_settled (settle None None right)) f.settled g.settled)
settling area places (redimensioned source schema gs) t =
    let h = settling None None source (other_type area places (redimensioned source schema gs) t).0 in
    other_done area places (redimensioned source schema gs) (redimensioned (settle None None source) schema gs) t (under_redimension source (settle None None source) schema gs h.is_same) refl h.settled
settling area places (regridded source sizes gs) t =
    let h = settling None None source (other_type area places (regridded source sizes gs) t).0 in
    other_done area places (regridded source sizes gs) (regridded (settle None None source) sizes gs) t (under_regrid source (settle None None source) sizes gs h.is_same) refl h.settled
settling area places (windowed source reach gs) t =
    let h = settling None None source (other_type area places (windowed source reach gs) t).0 in
    other_done area places (windowed source reach gs) (windowed (settle None None source) reach gs) t (under_window source (settle None None source) reach gs h.is_same) refl h.settled
settling area places (aggregated source gs groups) t =
    let h = settling None None source (other_type area places (aggregated source gs groups) t).0 in
    other_done area places (aggregated source gs groups) (aggregated (settle None None source) gs groups) t (under_aggregate source (settle None None source) gs groups h.is_same) refl h.settled
settling area places (sorted source keys schema) t =
    let h = settling None None source (other_type area places (sorted source keys schema) t).0 in
    other_done area places (sorted source keys schema) (sorted (settle None None source) keys schema) t (under_sort source (settle None None source) keys schema h.is_same) refl h.settled
settling area places (ranked source x dims) t =
    let h = settling None None source (other_type area places (ranked source x dims) t).0 in
    other_done area places (ranked source x dims) (ranked (settle None None source) x dims) t (under_rank source (settle None None source) x dims h.is_same) refl h.settled
settling area places (cumulated source gs n) t =
    let h = settling None None source (other_type area places (cumulated source gs n) t).0 in
    other_done area places (cumulated source gs n) (cumulated (settle None None source) gs n) t (under_cumulate source (settle None None source) gs n h.is_same) refl h.settled
settling area places (transposed source) t =
    let h = settling None None source (other_type area places (transposed source) t).0 in
    other_done area places (transposed source) (transposed (settle None None source)) t (under_transpose source (settle None None source) h.is_same) refl h.settled
settling area places (reversed source) t =
    let h = settling None None source (other_type area places (reversed source) t).0 in
    other_done area places (reversed source) (reversed (settle None None source)) t (under_reverse source (settle None None source) h.is_same) refl h.settled
settling area places (unpacked source schema) t =
    let h = settling None None source (other_type area places (unpacked source schema) t).0 in
    other_done area places (unpacked source schema) (unpacked (settle None None source) schema) t (under_unpack source (settle None None source) schema h.is_same) refl h.settled
settling area places (xgridded source sizes) t =
    let h = settling None None source (other_type area places (xgridded source sizes) t).0 in
    other_done area places (xgridded source sizes) (xgridded (settle None None source) sizes) t (under_xgrid source (settle None None source) sizes h.is_same) refl h.settled
settling area places (merged left right) t =
    let typed = other_type area places (merged left right) t in
    let f = settling None None left typed.0 in
    let g = settling None None right typed.1 in
    other_done area places (merged left right) (merged (settle None None left) (settle None None right)) t
    (under_merge left right (settle None None left) (settle None None right) f.is_same g.is_same) refl (and_from (is_settled (settle None None left)) (is_settled (settle None None right)) f.settled g.settled)
settling area places (concatenated left right) t =
    let typed = other_type area places (concatenated left right) t in
    let f = settling None None left typed.0 in
    let g = settling None None right typed.1 in
    other_done area places (concatenated left right) (concatenated (settle None None left) (settle None None right)) t
    (under_concat left right (settle None None left) (settle None None right) f.is_same g.is_same) refl (and_from (is_settled (settle None None left)) (is_settled (settle None None right)) f.settled g.settled)

pub stands : (r : Result Query Memory) (query : Query) → IsTyped query → IfOk r (λ p. p ≡ settle None None query) → IfOk r (IsRewritten query)
stands (Ok p) query t e = subst (λ (q : Query). IsRewritten query q) (sym e) (settling None None query t)
stands (Err memory) query t e = e
