use Rattle.std.proofs.Common.{◌≡◌, ℤ, pos, ◌+ℤ◌, ◌+◌, false, true, ◌&&◌, List, [], ◌∷◌, Some, drop, append-nil}
use Rattle.std.proofs.Common.{refl, sym, ap, subst, ◌∙◌, SFits, to_z, to_z-of_z, w64, arith, rules}
use Rattle.std.specs.Prelude.{◌≤ℤ◌, int_le, int_lt, IsTrue}
use Rattle.std.proofs.Math.Facts.{sfits_to_z}
use Rattle.std.proofs.lemmas.Bool.{and_from}
use Rattle.std.proofs.lemmas.Int.{ints}
use Rattle.std.proofs.lemmas.List.{drop_all}
use Rattle.array_rows.specs.Rows.{placed}
use Rattle.cell_values.specs.declared.datum.Cell.TheVariants.{Full}
use Rattle.cell_values.specs.declared.datum.Datum.{Datum}
use Rattle.check_rules.specs.LiteralRows.{fits_element, rows_from}
use Rattle.check_rules.proofs.RowLemmas.{onto, more_rows, same_rows}
use Rattle.check_rules.proofs.literals.rows.rows_of.Goals as goal
use Rattle.check_rules.proofs.literals.rows.rows_of.Goals.{then-not-is_empty+in_ok-copy+in_ok-push, else-not-is_empty}

room : (at hi : ℤ) → at ≤ℤ hi → hi ≤ℤ pos 4611686018427387903 → SFits w64 at → SFits w64 (at +ℤ pos 1)
room at hi p q r = grind (arith, ints)

not_above : (at hi : ℤ) → int_lt hi at ≡ false → at ≤ℤ hi
not_above at hi p = grind (arith, ints)

at_most : (at hi : ℤ) → at ≤ℤ hi → int_le at hi ≡ true
at_most at hi p = grind (arith, ints)

has_values : {P : Type 0} → (P → IsTrue false) → P → ⊥
has_values h p = let e : false ≡ true = h p in cc

has_none : {P : Type 0} → (IsTrue true → P) → P
has_none h = h refl

inside : (c : goal.Joined-not-is_empty) → to_z w64 c.loop-values.at-bits ≤ℤ c.args.dimension.now.hi
inside c =
    let at : ℤ = to_z w64 c.loop-values.at-bits in
    let high : SFits w64 c.args.dimension.now.hi = search rules in
    not_above at c.args.dimension.now.hi (sym (ap (λ (z : ℤ). int_lt z at) (to_z-of_z high)) ∙ c.if-at-dimension.false)

pub overflow_add-at : goal.overflow_add-at
overflow_add-at c = room (to_z w64 c.loop-values.at-bits) c.args.dimension.now.hi (inside c) c.requires (sfits_to_z c.loop-values.auto.at)

pub loop-values-preserved : goal.loop-values-preserved
loop-values-preserved c =
    let a = c.args.attributes.now in
    let hi = c.args.dimension.now.hi in
    let items = c.as_slice-values-items.result.now in
    let i = c.loop-values.values-index in
    let at : ℤ = to_z w64 c.loop-values.at-bits in
    let vs = c.values-item.result in
    let fits : (int_le at hi && fits_element a vs) ≡ true
    = and_from (int_le at hi) (fits_element a vs) (at_most at hi (inside c))
    (sym (c.fits_element.ensures ∙ ap (fits_element a) c.as_slice.ensures) ∙ c.if-not-fits_element.false) in
    subst (λ (z : ℤ). onto c.if-not-is_empty.rows (rows_from a hi z (drop (i + 1) items)) ≡ rows_from a hi c.args.dimension.now.lo items)
    (sym (to_z-of_z (room at hi (inside c) c.requires (sfits_to_z c.loop-values.auto.at))))
    (elim c.if-not-is_empty.branch [
      | then-not-is_empty+in_ok-copy+in_ok-push w ↦
          more_rows a hi items c.loop-values.rows c.if-not-is_empty.rows _ i vs at c.loop-values-test.true c.values-item.is fits
          (has_values w.if-not-is_empty.ensures.1)
          (ap (λ (l : List ℤ). placed l (Full w.in_ok-copy.field-0)) w.coord_of.ensures
          ∙ ap (λ (l : List Datum). placed (at ∷ []) (Full l)) w.in_ok-copy.ensures)
          (w.rows-is ∙ w.in_ok-push.ensures.ok) c.loop-values.invariant
      | else-not-is_empty w ↦
          same_rows a hi items c.loop-values.rows c.if-not-is_empty.rows i vs at c.loop-values-test.true c.values-item.is fits
          (has_none w.if-not-is_empty.ensures.0)
          w.rows-is c.loop-values.invariant
    ])

pub returns : goal.returns
returns c =
    let items = c.as_slice-values-items.result.now in
    let a = c.args.attributes.now in
    let hi = c.args.dimension.now.hi in
    sym (ap (λ l. onto c.loop-values.rows (rows_from a hi (to_z w64 c.loop-values.at-bits) l))
    (drop_all c.loop-values.values-index items c.loop-values-test.false)
    ∙ ap Some (append-nil c.loop-values.rows))
    ∙ c.loop-values.invariant
    ∙ ap (rows_from a hi c.args.dimension.now.lo) c.as_slice-values-items.ensures
