use Rattle.std.proofs.Common.{◌≡◌, ◌∷◌, ◌++◌, [], List, map, length, ap, sym, ◌∙◌}
use Rattle.cell_values.specs.declared.datum.Datum.{Datum}
use Rattle.cell_values.specs.declared.datum.Datum.TheVariants.{Int}
use Rattle.order_exec.proofs.RankedChunkLaws.{columns_long, ranked_columns}
use Rattle.order_exec.proofs.ranked_chunks.ranked_cells.Goals as goal

pub from_columns-requires : goal.from_columns-requires
from_columns-requires c =
    let first : c.from_numbers.result ≡ map Int c.args.numbers.now = c.from_numbers.ensures ∙ ap (map Int) c.in_ok-from_slice.ensures in
    let columns : c.into_vec.result.items ≡ map Int c.args.numbers.now ∷ map Int c.args.ranks ∷ [] =
    c.into_vec.ensures ∙ c.in_ok-push-2.ensures.ok ∙ (λ i. ((c.in_ok-push.ensures.ok ∙ (λ j. c.in_ok-columns.ensures j ++ first j ∷ [])) i) ++ c.from_numbers-2.ensures i ∷ []) in
    columns_long c.args.numbers.now c.args.ranks c.into_vec.result.items c.requires columns

pub returns : goal.returns
returns c =
    let first : c.from_numbers.result ≡ map Int c.args.numbers.now = c.from_numbers.ensures ∙ ap (map Int) c.in_ok-from_slice.ensures in
    let columns : c.into_vec.result.items ≡ map Int c.args.numbers.now ∷ map Int c.args.ranks ∷ [] =
    c.into_vec.ensures ∙ c.in_ok-push-2.ensures.ok ∙ (λ i. ((c.in_ok-push.ensures.ok ∙ (λ j. c.in_ok-columns.ensures j ++ first j ∷ [])) i) ++ c.from_numbers-2.ensures i ∷ []) in
    c.from_rows.ensures ∙ ranked_columns c.args.numbers.now c.args.ranks c.into_vec.result.items c.from_columns.result c.requires columns c.from_columns.ensures
