use Rattle.std.proofs.Common.{◌≡◌, [], ◌∷◌, ◌++◌, rules, sym, subst}
use Rattle.std.specs.Prelude.{OnOk}
use Rattle.cell_values.specs.declared.datum.Cell.{Cell}
use Rattle.cell_values.specs.declared.datum.Cell.TheVariants.{Full}
use Rattle.cell_values.specs.declared.datum.Datum.TheVariants.{Int}
use Rattle.order_exec.proofs.KeyedLaws.{cell_at_index}
use Rattle.order_exec.proofs.numbered_chunks.push_keyed.Goals as goal

pub returns-then-alone : goal.returns-then-alone
returns-then-alone c =
    let pushed : OnOk c.push_number.result (c.push_number.new.self ≡ c.args.cells.now ++ Full (Int c.args.keyed.now.key ∷ []) ∷ []) = search rules in
    subst (λ (cell : Cell). OnOk c.push_number.result (c.push_number.new.self ≡ c.args.cells.now ++ cell ∷ [])) (sym (c.requires.alone c.if-alone.true)) pushed

pub returns : goal.returns
returns c =
    subst (λ (cell : Cell). OnOk c.push_found.result (c.push_found.new.cells ≡ c.args.cells.now ++ cell ∷ []))
    (cell_at_index c.args.found.now c.args.keyed.now c.index-found-keyed.result c.requires.indexed c.index-found-keyed.is) c.push_found.ensures
