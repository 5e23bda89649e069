-- Small results of sort, rank and cumulate, as the definitions compute them.
use Rattle.std.proofs.Common.{◌≡◌, pos, true, false, [], ◌∷◌, Ok, Err, refl, codes}
use Rattle.std.specs.Fmt.{digits}
use Rattle.cell_values.specs.declared.datum.Cell.TheVariants.{Doubt}
use Rattle.cell_values.specs.declared.datum.Datum.TheVariants.{Null, Missing, Text, Truth, Bad}
use Rattle.cell_values.specs.declared.datum.FaultKind.TheVariants.{Overflow, DivideByZero}
use Rattle.array_rows.specs.Rows.{placed}
use Rattle.logical_plan.specs.declared.parts.AggFunction.TheVariants.{Sum, CountAll, Max}
use Rattle.logical_plan.specs.Meaning.{meaning}
use Rattle.logical_plan.specs.Ordered.{sort_rows, rank_rows, cumulate_rows}
use Rattle.logical_plan.specs.PlanSchema.{schema_of, sort_schema, sort_dimension}
use Rattle.logical_plan.specs.Query.{Query, listed, sorted, ranked, cumulated}
use Rattle.logical_plan.specs.Typing.{IsTyped}
use Rattle.logical_plan.proofs.Samples.{nothing, int, at1, at2, broken_at, dim, numbers, along, line, over}

-- three numbers, a null and no cell
source : Query
source = listed (along (line 4 2 0)) (at1 (pos 0) (int 3 ∷ []) ∷ at1 (pos 1) (Null ∷ []) ∷ at1 (pos 2) (int 1 ∷ []) ∷ at1 (pos 4) (int 3 ∷ []) ∷ [])

-- ---- sort

in_order : meaning nothing (sorted source (0 ∷ []) (sort_schema (schema_of source)))
    ≡ record {
      schema = record { attributes = numbers (codes "v") ∷ []; dimensions = dim (codes "n") (pos 0) (pos 4611686018427387903) 1000 0 ∷ [] };
      rows = Ok (at1 (pos 0) (Null ∷ []) ∷ at1 (pos 1) (int 1 ∷ []) ∷ at1 (pos 2) (int 3 ∷ []) ∷ at1 (pos 3) (int 3 ∷ []) ∷ []);
    }
unfolding source
in_order = refl

-- the second key decides between equal ones, and the place where all keys are equal
by_two_keys : sort_rows (1 ∷ 0 ∷ []) (at1 (pos 0) (Text (codes "b") ∷ Truth true ∷ int 1 ∷ []) ∷ at1 (pos 1) (Text (codes "a") ∷ Truth true ∷ int 2 ∷ []) ∷ at1 (pos 2) (Text (codes "b") ∷ Truth false ∷ int 3 ∷ []) ∷ at1 (pos 5) (Text (codes "a") ∷ Truth true ∷ int 4 ∷ []) ∷ [])
    ≡ Ok (at1 (pos 0) (Text (codes "b") ∷ Truth false ∷ int 3 ∷ []) ∷ at1 (pos 1) (Text (codes "a") ∷ Truth true ∷ int 2 ∷ []) ∷ at1 (pos 2) (Text (codes "a") ∷ Truth true ∷ int 4 ∷ []) ∷ at1 (pos 3) (Text (codes "b") ∷ Truth true ∷ int 1 ∷ []) ∷ [])
by_two_keys = refl

-- nulls by their codes
nulls_by_codes : sort_rows (0 ∷ []) (at1 (pos 0) (int 0 ∷ []) ∷ at1 (pos 1) (Missing 7 ∷ []) ∷ at1 (pos 2) (Missing 2 ∷ []) ∷ at1 (pos 3) (Null ∷ []) ∷ [])
    ≡ Ok (at1 (pos 0) (Null ∷ []) ∷ at1 (pos 1) (Missing 2 ∷ []) ∷ at1 (pos 2) (Missing 7 ∷ []) ∷ at1 (pos 3) (int 0 ∷ []) ∷ [])
nulls_by_codes = refl

-- a fault that is no key does not matter, and the first cell with one that is breaks the array
other_fault : sort_rows (0 ∷ []) (at1 (pos 0) (int 2 ∷ Bad Overflow ∷ []) ∷ at1 (pos 1) (int 1 ∷ int 0 ∷ []) ∷ [])
    ≡ Ok (at1 (pos 0) (int 1 ∷ int 0 ∷ []) ∷ at1 (pos 1) (int 2 ∷ Bad Overflow ∷ []) ∷ [])
other_fault = refl

first_fault : sort_rows (0 ∷ 1 ∷ []) (at1 (pos 0) (int 2 ∷ int 1 ∷ []) ∷ at1 (pos 3) (int 1 ∷ Bad Overflow ∷ []) ∷ placed (pos 4 ∷ []) (Doubt DivideByZero) ∷ []) ≡ Err (broken_at (pos 3 ∷ []) Overflow)
first_fault = refl

-- where an attribute has the name `n`
other_name : sort_dimension (numbers (codes "n") ∷ numbers (codes "n_2") ∷ []) ≡ dim (codes "n_3") (pos 0) (pos 4611686018427387903) 1000 0
unfolding digits
other_name = refl

-- ---- rank

ranks_of_all : meaning nothing (ranked source 0 [])
    ≡ record {
      schema = record { attributes = numbers (codes "v") ∷ numbers (codes "v_rank") ∷ []; dimensions = line 4 2 0 };
      rows = Ok (at1 (pos 0) (int 3 ∷ int 2 ∷ []) ∷ at1 (pos 1) (Null ∷ Null ∷ []) ∷ at1 (pos 2) (int 1 ∷ int 1 ∷ []) ∷ at1 (pos 4) (int 3 ∷ int 2 ∷ []) ∷ []);
    }
unfolding source
ranks_of_all = refl

-- by the first dimension: a fault in one group leaves the other alone, and a doubt stays one
ranks_by_rows : rank_rows 0 (0 ∷ [])
    (at2 (pos 0) (pos 0) (int 5 ∷ []) ∷ at2 (pos 0) (pos 1) (int 4 ∷ []) ∷ at2 (pos 1) (pos 0) (int 9 ∷ []) ∷ at2 (pos 1) (pos 1) (Bad Overflow ∷ []) ∷ placed (pos 1 ∷ pos 2 ∷ []) (Doubt DivideByZero) ∷ [])
    ≡ at2 (pos 0) (pos 0) (int 5 ∷ int 2 ∷ []) ∷ at2 (pos 0) (pos 1) (int 4 ∷ int 1 ∷ []) ∷ at2 (pos 1) (pos 0) (int 9 ∷ Bad Overflow ∷ [])
    ∷ at2 (pos 1) (pos 1) (Bad Overflow ∷ Bad Overflow ∷ []) ∷ placed (pos 1 ∷ pos 2 ∷ []) (Doubt DivideByZero) ∷ []
ranks_by_rows = refl

-- ---- cumulate

totals : meaning nothing (cumulated source (over Sum 0 (codes "v_sum") ∷ []) 0)
    ≡ record {
      schema = record { attributes = numbers (codes "v_sum") ∷ []; dimensions = line 4 2 0 };
      rows = Ok (at1 (pos 0) (int 3 ∷ []) ∷ at1 (pos 1) (int 3 ∷ []) ∷ at1 (pos 2) (int 4 ∷ []) ∷ at1 (pos 4) (int 7 ∷ []) ∷ []);
    }
unfolding source
totals = refl

-- along the first of two dimensions; the fault of a cell is that of all behind it on its line, and a doubt stays one
totals_down : cumulate_rows 0 (over Sum 0 (codes "s") ∷ over CountAll 0 (codes "n") ∷ [])
    (at2 (pos 0) (pos 0) (int 1 ∷ []) ∷ at2 (pos 0) (pos 1) (Bad Overflow ∷ []) ∷ at2 (pos 1) (pos 0) (int 2 ∷ []) ∷ at2 (pos 1) (pos 1) (int 5 ∷ []) ∷ placed (pos 2 ∷ pos 0 ∷ []) (Doubt DivideByZero) ∷ at2 (pos 3) (pos 0) (int 4 ∷ []) ∷ [])
    ≡ at2 (pos 0) (pos 0) (int 1 ∷ int 1 ∷ []) ∷ at2 (pos 0) (pos 1) (Bad Overflow ∷ int 1 ∷ []) ∷ at2 (pos 1) (pos 0) (int 3 ∷ int 2 ∷ []) ∷ at2 (pos 1) (pos 1) (Bad Overflow ∷ int 2 ∷ [])
    ∷ placed (pos 2 ∷ pos 0 ∷ []) (Doubt DivideByZero) ∷ at2 (pos 3) (pos 0) (Bad DivideByZero ∷ Bad DivideByZero ∷ []) ∷ []
totals_down = refl

-- ---- typed plans

typed_source : IsTyped source
unfolding source
typed_source = (refl, record { valid = refl; are_rows = record { rising = ((refl, (refl, (refl, tt))), ((refl, (refl, tt)), ((refl, tt), (tt, tt)))); in_bounds = (refl, (refl, (refl, (refl, tt)))) }; kinds = ((refl, tt), ((refl, tt), ((refl, tt), ((refl, tt), tt)))) }, (refl, (refl, (refl, (refl, tt)))))

typed_sort : IsTyped (sorted source (0 ∷ []) (sort_schema (schema_of source)))
unfolding source
typed_sort = (typed_source, refl, refl, refl)

typed_rank : IsTyped (ranked source 0 (0 ∷ []))
unfolding source
typed_rank = (typed_source, refl, refl)

typed_cumulate : IsTyped (cumulated source (over Max 0 (codes "m") ∷ []) 0)
unfolding source
typed_cumulate = (typed_source, refl, refl)
