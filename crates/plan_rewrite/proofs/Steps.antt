-- Steps of rewriting: what stands for a plan that is still to be boxed and projected.
use Rattle.std.proofs.Common.{◌≡◌, ℕ, true, false, List, [], length, Option, Some, None, refl, sym, ap, ◌∙◌, subst}
use Rattle.std.specs.Prelude.{not, nat_lt}
use Rattle.std.specs.List.{list_all}
use Rattle.std.proofs.lemmas.Bool.{and_from, not_from_false}
use Rattle.cell_values.specs.declared.schema.Bounds.{Bounds}
use Rattle.cell_values.specs.declared.schema.Schema.{Schema}
use Rattle.expr_nulls.specs.Expr.{Expr}
use Rattle.logical_plan.specs.declared.parts.Applied.{Applied}
use Rattle.logical_plan.specs.PlanSchema.{schema_of}
use Rattle.logical_plan.specs.Query.{Query, built, listed, scanned, filtered, applied, projected, between, subarray, sliced, joined, crossed, redimensioned, regridded, windowed, aggregated}
use Rattle.logical_plan.specs.Query.{sorted, ranked, cumulated, transposed, reversed, unpacked, xgridded, merged, concatenated}
use Rattle.logical_plan.specs.Typing.{IsTyped}
use Rattle.plan_rewrite.specs.Inner.Pending.{boxed, shown, pending}
use Rattle.plan_rewrite.specs.Inner.Trimmed.{kept, relocated, met, picked, kept_for, places_for, names_none}
use Rattle.plan_rewrite.specs.Same.{IsSame, IsRewritten}
use Rattle.plan_rewrite.specs.Settled.{names_all, is_cellwise, may_project, is_settled}
use Rattle.plan_rewrite.proofs.BoxSteps.{below_filter, below_apply, below_project, two_betweens}
use Rattle.plan_rewrite.proofs.ItemPlaces.{names_kept, none_kept}
use Rattle.plan_rewrite.proofs.ProjectSteps.{two_projects, none_applied, dropped_applied}
use Rattle.plan_rewrite.proofs.SameLaws.{refl_same, then_same, under_filter, under_apply, under_project, under_between}
use Rattle.plan_rewrite.proofs.Widths.{widths}

-- ---- below a box and a project

show_same : (places : Option (List ℕ)) (q r : Query) → IsSame q r → IsSame (shown places q) (shown places r)
show_same None q r h = h
show_same (Some places) q r h = under_project q r places h

box_same : (area : Option Bounds) (q r : Query) → IsSame q r → IsSame (boxed area q) (boxed area r)
box_same None q r h = h
box_same (Some area) q r h = under_between q r area h

box_filter : (area : Option Bounds) (s : Query) (test : Expr) → IsSame (boxed area (filtered s test)) (filtered (boxed area s) test)
box_filter None s test = refl_same (filtered s test)
box_filter (Some area) s test = below_filter s test area

box_apply : (area : Option Bounds) (s : Query) (values : List Applied) → IsSame (boxed area (applied s values)) (applied (boxed area s) values)
box_apply None s values = refl_same (applied s values)
box_apply (Some area) s values = below_apply s values area

box_project : (area : Option Bounds) (s : Query) (places : List ℕ) → IsSame (boxed area (projected s places)) (projected (boxed area s) places)
box_project None s places = refl_same (projected s places)
box_project (Some area) s places = below_project s places area

box_schema : (area : Option Bounds) (s : Query) → schema_of (boxed area s) ≡ schema_of s
box_schema None s = refl
box_schema (Some area) s = refl

under_shown : (places : Option (List ℕ)) (q : Query) → IsTyped (shown places q) → IsTyped q
under_shown None q t = t
under_shown (Some places) q t = t.0

show_settled : (places : Option (List ℕ)) (q : Query) → ((ps : List ℕ) → may_project q ps ≡ true) → is_settled q ≡ true → is_settled (shown places q) ≡ true
show_settled None q may s = s
show_settled (Some places) q may s = and_from (may_project q places) (is_settled q) (may places) s

rewritten_by : (q r : Query) → IsTyped q → IsSame q r → is_settled r ≡ true → IsRewritten q r
rewritten_by q r t same s = record { is_same = same; is_typed = same.keeps_type t; settled = s }

-- what stands for a plan that stands for another one
after_same : (q m r : Query) → IsTyped q → IsSame q m → IsRewritten m r → IsRewritten q r
after_same q m r t same h = rewritten_by q r t (then_same q m r same h.is_same) h.settled

-- ---- filter

filter_same : (area : Option Bounds) (places : Option (List ℕ)) (s : Query) (test : Expr) → IsSame (pending area places (filtered s test)) (shown places (filtered (boxed area s) test))
filter_same area places s test = show_same places (boxed area (filtered s test)) (filtered (boxed area s) test) (box_filter area s test)

pub filter_type : (area : Option Bounds) (places : Option (List ℕ)) (s : Query) (test : Expr) → IsTyped (pending area places (filtered s test)) → IsTyped (boxed area s)
filter_type area places s test t = ((box_filter area s test).keeps_type (under_shown places (boxed area (filtered s test)) t)).0

pub filter_done : (area : Option Bounds) (places : Option (List ℕ)) (s r : Query) (test : Expr) → IsTyped (pending area places (filtered s test)) → IsRewritten (boxed area s) r → IsRewritten (pending area places (filtered s test)) (shown places (filtered r test))
filter_done area places s r test t h =
    rewritten_by (pending area places (filtered s test)) (shown places (filtered r test)) t
    (then_same (pending area places (filtered s test)) (shown places (filtered (boxed area s) test)) (shown places (filtered r test)) (filter_same area places s test)
    (show_same places (filtered (boxed area s) test) (filtered r test) (under_filter (boxed area s) r test h.is_same)))
    (show_settled places (filtered r test) (λ ps. refl) h.settled)

-- ---- between

between_same : (area : Option Bounds) (places : Option (List ℕ)) (s : Query) (own : Bounds) → IsTyped (pending area places (between s own)) → IsSame (pending area places (between s own)) (pending (Some (met area own)) places s)
between_same None places s own t = refl_same (shown places (between s own))
between_same (Some area) places s own t = show_same places (between (between s own) area) (between s (met (Some area) own)) (two_betweens s area own (under_shown places (between (between s own) area) t))

pub between_type : (area : Option Bounds) (places : Option (List ℕ)) (s : Query) (own : Bounds) → IsTyped (pending area places (between s own)) → IsTyped (pending (Some (met area own)) places s)
between_type area places s own t = (between_same area places s own t).keeps_type t

pub between_done : (area : Option Bounds) (places : Option (List ℕ)) (s r : Query) (own : Bounds) → IsTyped (pending area places (between s own)) → IsRewritten (pending (Some (met area own)) places s) r → IsRewritten (pending area places (between s own)) r
between_done area places s r own t h = after_same (pending area places (between s own)) (pending (Some (met area own)) places s) r t (between_same area places s own t) h

-- ---- project

project_same : (area : Option Bounds) (places : Option (List ℕ)) (s : Query) (own : List ℕ) → IsTyped (pending area places (projected s own)) → IsSame (pending area places (projected s own)) (pending area (Some (picked places own)) s)
project_same area None s own t = box_project area s own
project_same area (Some places) s own t =
    let first = under_project (boxed area (projected s own)) (projected (boxed area s) own) places (box_project area s own) in
    then_same (projected (boxed area (projected s own)) places) (projected (projected (boxed area s) own) places) (projected (boxed area s) (picked (Some places) own)) first
    (two_projects (boxed area s) own places (first.keeps_type t))

pub project_type : (area : Option Bounds) (places : Option (List ℕ)) (s : Query) (own : List ℕ) → IsTyped (pending area places (projected s own)) → IsTyped (pending area (Some (picked places own)) s)
project_type area places s own t = (project_same area places s own t).keeps_type t

pub project_done : (area : Option Bounds) (places : Option (List ℕ)) (s r : Query) (own : List ℕ) → IsTyped (pending area places (projected s own)) → IsRewritten (pending area (Some (picked places own)) s) r → IsRewritten (pending area places (projected s own)) r
project_done area places s r own t h = after_same (pending area places (projected s own)) (pending area (Some (picked places own)) s) r t (project_same area places s own t) h

-- ---- apply

pub apply_type : (area : Option Bounds) (places : Option (List ℕ)) (s : Query) (values : List Applied) → IsTyped (pending area places (applied s values)) → IsTyped (boxed area s)
apply_type area places s values t = ((box_apply area s values).keeps_type (under_shown places (boxed area (applied s values)) t)).0

trimmed_same : (q s : Query) (values : List Applied) (places : List ℕ) → schema_of q ≡ schema_of s → IsTyped q
    → IsSame (projected (applied q values) places) (projected (applied q (kept (length (schema_of s).attributes) values places)) (relocated (length (schema_of s).attributes) values places))
trimmed_same q s values places same t =
    subst (λ (x : Schema). IsSame (projected (applied q values) places) (projected (applied q (kept (length x.attributes) values places)) (relocated (length x.attributes) values places))) same
    (dropped_applied q values places (λ db l. widths db q t l))

apply_same : (area : Option Bounds) (places : Option (List ℕ)) (s : Query) (values : List Applied) → IsTyped (pending area places (applied s values))
    → IsSame (pending area places (applied s values)) (shown (places_for (length (schema_of s).attributes) values places) (applied (boxed area s) (kept_for (length (schema_of s).attributes) values places)))
apply_same area None s values t = box_apply area s values
apply_same area (Some places) s values t =
    then_same (projected (boxed area (applied s values)) places) (projected (applied (boxed area s) values) places)
    (projected (applied (boxed area s) (kept (length (schema_of s).attributes) values places)) (relocated (length (schema_of s).attributes) values places))
    (under_project (boxed area (applied s values)) (applied (boxed area s) values) places (box_apply area s values))
    (trimmed_same (boxed area s) s values places (box_schema area s) (apply_type area (Some places) s values t))

apply_settled : (places : Option (List ℕ)) (r : Query) (values : List Applied) (n : ℕ) → length (schema_of r).attributes ≡ n → is_settled r ≡ true → is_settled (shown (places_for n values places) (applied r (kept_for n values places))) ≡ true
apply_settled None r values n e s = s
apply_settled (Some places) r values n e s =
    and_from (names_all (length (schema_of r).attributes) (kept n values places) (relocated n values places)) (is_settled r)
    (subst (λ (m : ℕ). names_all m (kept n values places) (relocated n values places) ≡ true) (sym e) (names_kept n values places)) s

pub apply_done : (area : Option Bounds) (places : Option (List ℕ)) (s r : Query) (values : List Applied) → IsTyped (pending area places (applied s values)) → IsRewritten (boxed area s) r
    → IsRewritten (pending area places (applied s values)) (shown (places_for (length (schema_of s).attributes) values places) (applied r (kept_for (length (schema_of s).attributes) values places)))
apply_done area places s r values t h =
    let n : ℕ = length (schema_of s).attributes in
    let rest : Option (List ℕ) = places_for n values places in
    let less : List Applied = kept_for n values places in
    rewritten_by (pending area places (applied s values)) (shown rest (applied r less)) t
    (then_same (pending area places (applied s values)) (shown rest (applied (boxed area s) less)) (shown rest (applied r less)) (apply_same area places s values t)
    (show_same rest (applied (boxed area s) less) (applied r less) (under_apply (boxed area s) r less h.is_same)))
    (apply_settled places r values n (ap (λ (x : Schema). length x.attributes) (h.is_same.same_schema ∙ box_schema area s)) h.settled)

-- a project that names none of the computed attributes
unused_same : (area : Option Bounds) (places : List ℕ) (s : Query) (values : List Applied) → IsTyped (pending area (Some places) (applied s values)) → list_all (λ place. nat_lt place (length (schema_of s).attributes)) places ≡ true
    → IsSame (pending area (Some places) (applied s values)) (pending area (Some places) s)
unused_same area places s values t b =
    let n : ℕ = length (schema_of s).attributes in
    let none = none_kept n values places b in
    then_same (projected (boxed area (applied s values)) places) (projected (applied (boxed area s) []) places) (projected (boxed area s) places)
    (subst (λ (ps : List ℕ). IsSame (projected (boxed area (applied s values)) places) (projected (applied (boxed area s) []) ps)) none.1
    (subst (λ (vs : List Applied). IsSame (projected (boxed area (applied s values)) places) (projected (applied (boxed area s) vs) (relocated n values places))) none.0 (apply_same area (Some places) s values t)))
    (under_project (applied (boxed area s) []) (boxed area s) places (none_applied (boxed area s)))

pub unused_type : (area : Option Bounds) (places : Option (List ℕ)) (s : Query) (values : List Applied) → IsTyped (pending area places (applied s values)) → names_none (length (schema_of s).attributes) places ≡ true → IsTyped (pending area places s)
unused_type area None s values t b = absurd cc
unused_type area (Some places) s values t b = (unused_same area places s values t b).keeps_type t

pub unused_done : (area : Option Bounds) (places : Option (List ℕ)) (s r : Query) (values : List Applied) → IsTyped (pending area places (applied s values)) → names_none (length (schema_of s).attributes) places ≡ true
    → IsRewritten (pending area places s) r → IsRewritten (pending area places (applied s values)) r
unused_done area None s r values t b h = absurd cc
unused_done area (Some places) s r values t b h = after_same (pending area (Some places) (applied s values)) (pending area (Some places) s) r t (unused_same area places s values t b) h

-- ---- other operators

may_show : (q : Query) → is_cellwise q ≡ false → (places : List ℕ) → may_project q places ≡ true
may_show (built schema e) apart places = refl
may_show (listed schema rows) apart places = refl
may_show (scanned leaf) apart places = refl
may_show (filtered source test) apart places = refl
may_show (applied source values) apart places = cc
may_show (projected source own) apart places = cc
may_show (between source area) apart places = refl
may_show (subarray source area) apart places = refl
may_show (sliced source fixed) apart places = refl
may_show (joined left right schema) apart places = refl
may_show (crossed left right pairs schema) apart places = refl
may_show (redimensioned source schema gs) apart places = refl
may_show (regridded source sizes gs) apart places = refl
may_show (windowed source reach gs) apart places = refl
may_show (aggregated source gs places) apart ps = refl
may_show (sorted source keys schema) apart places = refl
may_show (ranked source x dims) apart places = refl
may_show (cumulated source gs n) apart places = refl
may_show (transposed source) apart places = refl
may_show (reversed source) apart places = refl
may_show (unpacked source schema) apart places = refl
may_show (xgridded source sizes) apart places = refl
may_show (merged left right) apart places = refl
may_show (concatenated left right) apart places = refl

enclosed_settled : (area : Option Bounds) (places : Option (List ℕ)) (r : Query) → is_cellwise r ≡ false → is_settled r ≡ true → is_settled (pending area places r) ≡ true
enclosed_settled None places r apart s = show_settled places r (may_show r apart) s
enclosed_settled (Some area) places r apart s = show_settled places (between r area) (λ ps. refl) (and_from (not (is_cellwise r)) (is_settled r) (not_from_false (is_cellwise r) apart) s)

pub other_type : (area : Option Bounds) (places : Option (List ℕ)) (q : Query) → IsTyped (pending area places q) → IsTyped q
other_type None places q t = under_shown places q t
other_type (Some area) places q t = (under_shown places (between q area) t).0

pub other_done : (area : Option Bounds) (places : Option (List ℕ)) (q r : Query) → IsTyped (pending area places q) → IsSame q r → is_cellwise r ≡ false → is_settled r ≡ true → IsRewritten (pending area places q) (pending area places r)
other_done area places q r t same apart s =
    rewritten_by (pending area places q) (pending area places r) t (show_same places (boxed area q) (boxed area r) (box_same area q r same)) (enclosed_settled area places r apart s)
