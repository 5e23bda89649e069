use Rattle.std.proofs.Common.{Bool, take, get_or, sym, ap, ◌∙◌}
use Rattle.std.specs.List.{list_all}
use Rattle.std.proofs.lemmas.Bool.{and_from}
use Rattle.std.proofs.lemmas.List.{take_all}
use Rattle.std.proofs.lemmas.List.Folds.{list_all_more, list_all_at}
use Rattle.plan_changes.specs.Allowed.{has_number}
use Rattle.version_catalog.specs.declared.rules.catalog.CatalogArray.{CatalogArray}
use Rattle.version_catalog.proofs.changing.rules.all_numbers.Goals as goal

pub loop-array-preserved : goal.loop-array-preserved
loop-array-preserved c =
    let arrays = c.args.arrays.now in
    let index = c.loop-array.array-index in
    let item = c.array-item.result in
    let test : CatalogArray → Bool = λ array. has_number c.args.name.now array.entry in
    list_all_more test arrays index item c.loop-array-test.true
    ∙ and_from (list_all test (take index arrays)) (test (get_or arrays index item)) c.loop-array.invariant (ap test (sym c.array-item.is) ∙ sym c.if-not-has_its_number.ensures)

pub returns-then-not-has_its_number : goal.returns-then-not-has_its_number
returns-then-not-has_its_number c =
    let test : CatalogArray → Bool = λ array. has_number c.args.name.now array.entry in
    sym (list_all_at test c.args.arrays.now c.loop-array.array-index c.array-item.result c.loop-array-test.true (ap test (sym c.array-item.is) ∙ sym c.if-not-has_its_number.ensures))

pub returns : goal.returns
returns c =
    sym c.loop-array.invariant
    ∙ ap (list_all (λ (array : CatalogArray). has_number c.args.name.now array.entry)) (take_all c.loop-array.array-index c.args.arrays.now c.loop-array-test.false)
