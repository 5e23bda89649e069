-- Each plan has a code of its own.
use Rattle.std.specs.Prelude.{◌≡◌, ℕ, List, [], ◌∷◌}
use Rattle.std.proofs.Common.{ap, refl}
use Rattle.std.proofs.lemmas.Bool.{eqb-false}
use Rattle.std.specs.Coded.{Coded, coded_list, coded_ℕ}
use base.Stored.{coded_via, Gv, gnum, num}
use Rattle.cell_values.specs.declared.datum.Row.{Row}
use Rattle.cell_values.specs.contracts.datum.Row as row_type
use Rattle.cell_values.specs.declared.schema.Schema.{Schema}
use Rattle.cell_values.specs.contracts.schema.Schema as schema_type
use Rattle.cell_values.specs.declared.schema.Bounds.{Bounds}
use Rattle.cell_values.specs.contracts.schema.Bounds as bounds_type
use Rattle.expr_nulls.specs.Lemmas.ExprCode.{expr_code}
use Rattle.logical_plan.specs.declared.parts.Aggregate.{Aggregate}
use Rattle.logical_plan.specs.contracts.parts.Aggregate as aggregate_type
use Rattle.logical_plan.specs.declared.parts.Applied.{Applied}
use Rattle.logical_plan.specs.contracts.parts.Applied as applied_type
use Rattle.logical_plan.specs.declared.parts.Fixed.{Fixed}
use Rattle.logical_plan.specs.contracts.parts.Fixed as fixed_type
use Rattle.logical_plan.specs.declared.parts.Leaf.{Leaf}
use Rattle.logical_plan.specs.contracts.parts.Leaf as leaf_type
use Rattle.logical_plan.specs.declared.parts.Pair.{Pair}
use Rattle.logical_plan.specs.contracts.parts.Pair as pair_type
use Rattle.logical_plan.specs.declared.parts.Reach.{Reach}
use Rattle.logical_plan.specs.contracts.parts.Reach as reach_type
use Rattle.logical_plan.specs.Query.{Query, built, listed, scanned, filtered, applied, projected, between, subarray}
use Rattle.logical_plan.specs.Query.{sliced, joined, crossed, redimensioned, regridded, windowed, aggregated}
use Rattle.logical_plan.specs.Query.{sorted, ranked, cumulated, transposed, reversed, unpacked, xgridded, merged, concatenated}

abbrev schema_code : Coded Schema
schema_code = schema_type.the_row.coded

abbrev rows_code : Coded (List Row)
rows_code = coded_list row_type.the_row.coded

abbrev bounds_code : Coded Bounds
bounds_code = bounds_type.the_row.coded

abbrev leaf_code : Coded Leaf
leaf_code = leaf_type.the_row.coded

abbrev applied_code : Coded (List Applied)
applied_code = coded_list applied_type.the_row.coded

abbrev fixed_code : Coded (List Fixed)
fixed_code = coded_list fixed_type.the_row.coded

abbrev pairs_code : Coded (List Pair)
pairs_code = coded_list pair_type.the_row.coded

abbrev reach_code : Coded (List Reach)
reach_code = coded_list reach_type.the_row.coded

abbrev aggregates_code : Coded (List Aggregate)
aggregates_code = coded_list aggregate_type.the_row.coded

abbrev numbers_code : Coded (List ℕ)
numbers_code = coded_list coded_ℕ

abbrev first_number : List Gv → ℕ
first_number [] = 0
first_number (g ∷ gs) = num g

abbrev head : List Gv → Gv
head [] = gnum 0
head (g ∷ gs) = g

abbrev behind : List Gv → List Gv
behind [] = []
behind (g ∷ gs) = gs

abbrev second : List Gv → Gv
second gs = head (behind gs)

abbrev third : List Gv → Gv
third gs = head (behind (behind gs))

abbrev after_two : List Gv → List Gv
after_two gs = behind (behind gs)

abbrev after_three : List Gv → List Gv
after_three gs = behind (behind (behind gs))

-- the plan's codes, before further ones
pub numbers : Query → List Gv → List Gv
numbers (built s e) rest = gnum 0 ∷ schema_code.code s ∷ expr_code.code e ∷ rest
numbers (listed s rows) rest = gnum 1 ∷ schema_code.code s ∷ rows_code.code rows ∷ rest
numbers (scanned leaf) rest = gnum 2 ∷ leaf_code.code leaf ∷ rest
numbers (filtered q e) rest = gnum 3 ∷ expr_code.code e ∷ numbers q rest
numbers (applied q vs) rest = gnum 4 ∷ applied_code.code vs ∷ numbers q rest
numbers (projected q ns) rest = gnum 5 ∷ numbers_code.code ns ∷ numbers q rest
numbers (between q b) rest = gnum 6 ∷ bounds_code.code b ∷ numbers q rest
numbers (subarray q b) rest = gnum 7 ∷ bounds_code.code b ∷ numbers q rest
numbers (sliced q fs) rest = gnum 8 ∷ fixed_code.code fs ∷ numbers q rest
numbers (joined p q s) rest = gnum 9 ∷ schema_code.code s ∷ numbers p (numbers q rest)
numbers (crossed p q ps s) rest = gnum 10 ∷ pairs_code.code ps ∷ schema_code.code s ∷ numbers p (numbers q rest)
numbers (redimensioned q s gs) rest = gnum 11 ∷ schema_code.code s ∷ aggregates_code.code gs ∷ numbers q rest
numbers (regridded q ns gs) rest = gnum 12 ∷ numbers_code.code ns ∷ aggregates_code.code gs ∷ numbers q rest
numbers (windowed q rs gs) rest = gnum 13 ∷ reach_code.code rs ∷ aggregates_code.code gs ∷ numbers q rest
numbers (aggregated q gs ns) rest = gnum 14 ∷ aggregates_code.code gs ∷ numbers_code.code ns ∷ numbers q rest
numbers (sorted q ns s) rest = gnum 15 ∷ numbers_code.code ns ∷ schema_code.code s ∷ numbers q rest
numbers (ranked q n ns) rest = gnum 16 ∷ gnum n ∷ numbers_code.code ns ∷ numbers q rest
numbers (cumulated q gs n) rest = gnum 17 ∷ aggregates_code.code gs ∷ gnum n ∷ numbers q rest
numbers (transposed q) rest = gnum 18 ∷ numbers q rest
numbers (reversed q) rest = gnum 19 ∷ numbers q rest
numbers (unpacked q s) rest = gnum 20 ∷ schema_code.code s ∷ numbers q rest
numbers (xgridded q ns) rest = gnum 21 ∷ numbers_code.code ns ∷ numbers q rest
numbers (merged p q) rest = gnum 22 ∷ numbers p (numbers q rest)
numbers (concatenated p q) rest = gnum 23 ∷ numbers p (numbers q rest)

pub same_numbers : (p q : Query) (x y : List Gv) → numbers p x ≡ numbers q y → (p ≡ q) × (x ≡ y)
unfolding numbers
same_numbers (built s e) (built t f) x y h =
    let schemas : s ≡ t = schema_code.inj s t (ap second h) in
    let values : e ≡ f = expr_code.inj e f (ap third h) in (λ i. built (schemas i) (values i), ap after_three h)
same_numbers (listed s a) (listed t b) x y h =
    let schemas : s ≡ t = schema_code.inj s t (ap second h) in
    let rows : a ≡ b = rows_code.inj a b (ap third h) in (λ i. listed (schemas i) (rows i), ap after_three h)
same_numbers (scanned a) (scanned b) x y h = (ap scanned (leaf_code.inj a b (ap second h)), ap after_two h)
same_numbers (filtered p e) (filtered q f) x y h =
    let values : e ≡ f = expr_code.inj e f (ap second h) in
    let r : (p ≡ q) × (x ≡ y) = same_numbers p q x y (ap after_two h) in (λ i. filtered (r.0 i) (values i), r.1)
same_numbers (applied p a) (applied q b) x y h =
    let values : a ≡ b = applied_code.inj a b (ap second h) in
    let r : (p ≡ q) × (x ≡ y) = same_numbers p q x y (ap after_two h) in (λ i. applied (r.0 i) (values i), r.1)
same_numbers (projected p a) (projected q b) x y h =
    let places : a ≡ b = numbers_code.inj a b (ap second h) in
    let r : (p ≡ q) × (x ≡ y) = same_numbers p q x y (ap after_two h) in (λ i. projected (r.0 i) (places i), r.1)
same_numbers (between p a) (between q b) x y h =
    let areas : a ≡ b = bounds_code.inj a b (ap second h) in
    let r : (p ≡ q) × (x ≡ y) = same_numbers p q x y (ap after_two h) in (λ i. between (r.0 i) (areas i), r.1)
same_numbers (subarray p a) (subarray q b) x y h =
    let areas : a ≡ b = bounds_code.inj a b (ap second h) in
    let r : (p ≡ q) × (x ≡ y) = same_numbers p q x y (ap after_two h) in (λ i. subarray (r.0 i) (areas i), r.1)
same_numbers (sliced p a) (sliced q b) x y h =
    let fixed : a ≡ b = fixed_code.inj a b (ap second h) in
    let r : (p ≡ q) × (x ≡ y) = same_numbers p q x y (ap after_two h) in (λ i. sliced (r.0 i) (fixed i), r.1)
same_numbers (joined a b s) (joined c d t) x y h =
    let schemas : s ≡ t = schema_code.inj s t (ap second h) in
    let first : (a ≡ c) × (numbers b x ≡ numbers d y) = same_numbers a c (numbers b x) (numbers d y) (ap after_two h) in
    let second : (b ≡ d) × (x ≡ y) = same_numbers b d x y first.1 in
    (λ i. joined (first.0 i) (second.0 i) (schemas i), second.1)
same_numbers (crossed a b ps s) (crossed c d qs t) x y h =
    let pairs : ps ≡ qs = pairs_code.inj ps qs (ap second h) in
    let schemas : s ≡ t = schema_code.inj s t (ap third h) in
    let first : (a ≡ c) × (numbers b x ≡ numbers d y) = same_numbers a c (numbers b x) (numbers d y) (ap after_three h) in
    let second : (b ≡ d) × (x ≡ y) = same_numbers b d x y first.1 in
    (λ i. crossed (first.0 i) (second.0 i) (pairs i) (schemas i), second.1)
same_numbers (redimensioned p s a) (redimensioned q t b) x y h =
    let schemas : s ≡ t = schema_code.inj s t (ap second h) in
    let aggregates : a ≡ b = aggregates_code.inj a b (ap third h) in
    let r : (p ≡ q) × (x ≡ y) = same_numbers p q x y (ap after_three h) in (λ i. redimensioned (r.0 i) (schemas i) (aggregates i), r.1)
same_numbers (regridded p ns a) (regridded q ms b) x y h =
    let sizes : ns ≡ ms = numbers_code.inj ns ms (ap second h) in
    let aggregates : a ≡ b = aggregates_code.inj a b (ap third h) in
    let r : (p ≡ q) × (x ≡ y) = same_numbers p q x y (ap after_three h) in (λ i. regridded (r.0 i) (sizes i) (aggregates i), r.1)
same_numbers (windowed p rs a) (windowed q ss b) x y h =
    let reaches : rs ≡ ss = reach_code.inj rs ss (ap second h) in
    let aggregates : a ≡ b = aggregates_code.inj a b (ap third h) in
    let r : (p ≡ q) × (x ≡ y) = same_numbers p q x y (ap after_three h) in (λ i. windowed (r.0 i) (reaches i) (aggregates i), r.1)
same_numbers (aggregated p a ns) (aggregated q b ms) x y h =
    let aggregates : a ≡ b = aggregates_code.inj a b (ap second h) in
    let places : ns ≡ ms = numbers_code.inj ns ms (ap third h) in
    let r : (p ≡ q) × (x ≡ y) = same_numbers p q x y (ap after_three h) in (λ i. aggregated (r.0 i) (aggregates i) (places i), r.1)
same_numbers (sorted p ns s) (sorted q ms t) x y h =
    let keys : ns ≡ ms = numbers_code.inj ns ms (ap second h) in
    let schemas : s ≡ t = schema_code.inj s t (ap third h) in
    let r : (p ≡ q) × (x ≡ y) = same_numbers p q x y (ap after_three h) in (λ i. sorted (r.0 i) (keys i) (schemas i), r.1)
same_numbers (ranked p m ns) (ranked q n ms) x y h =
    let attributes : m ≡ n = ap (λ gs. num (second gs)) h in
    let places : ns ≡ ms = numbers_code.inj ns ms (ap third h) in
    let r : (p ≡ q) × (x ≡ y) = same_numbers p q x y (ap after_three h) in (λ i. ranked (r.0 i) (attributes i) (places i), r.1)
same_numbers (cumulated p a m) (cumulated q b n) x y h =
    let aggregates : a ≡ b = aggregates_code.inj a b (ap second h) in
    let dimensions : m ≡ n = ap (λ gs. num (third gs)) h in
    let r : (p ≡ q) × (x ≡ y) = same_numbers p q x y (ap after_three h) in (λ i. cumulated (r.0 i) (aggregates i) (dimensions i), r.1)
same_numbers (transposed p) (transposed q) x y h =
    let r : (p ≡ q) × (x ≡ y) = same_numbers p q x y (ap behind h) in (ap transposed r.0, r.1)
same_numbers (reversed p) (reversed q) x y h =
    let r : (p ≡ q) × (x ≡ y) = same_numbers p q x y (ap behind h) in (ap reversed r.0, r.1)
same_numbers (unpacked p s) (unpacked q t) x y h =
    let schemas : s ≡ t = schema_code.inj s t (ap second h) in
    let r : (p ≡ q) × (x ≡ y) = same_numbers p q x y (ap after_two h) in (λ i. unpacked (r.0 i) (schemas i), r.1)
same_numbers (xgridded p ns) (xgridded q ms) x y h =
    let sizes : ns ≡ ms = numbers_code.inj ns ms (ap second h) in
    let r : (p ≡ q) × (x ≡ y) = same_numbers p q x y (ap after_two h) in (λ i. xgridded (r.0 i) (sizes i), r.1)
same_numbers (merged a b) (merged c d) x y h =
    let first : (a ≡ c) × (numbers b x ≡ numbers d y) = same_numbers a c (numbers b x) (numbers d y) (ap behind h) in
    let second : (b ≡ d) × (x ≡ y) = same_numbers b d x y first.1 in
    (λ i. merged (first.0 i) (second.0 i), second.1)
same_numbers (concatenated a b) (concatenated c d) x y h =
    let first : (a ≡ c) × (numbers b x ≡ numbers d y) = same_numbers a c (numbers b x) (numbers d y) (ap behind h) in
    let second : (b ≡ d) × (x ≡ y) = same_numbers b d x y first.1 in
    (λ i. concatenated (first.0 i) (second.0 i), second.1)
same_numbers p q x y h = absurd (eqb-false (first_number (numbers p x)) (first_number (numbers q y)) refl (ap first_number h))

-- a code is its own code
abbrev itself : Coded Gv
itself = record { code = λ g. g; inj = λ x y p. p }

abbrev pub query_code : Coded Query
query_code = coded_via (coded_list itself) (λ q. numbers q []) (λ p q h. (same_numbers p q [] [] h).0)
