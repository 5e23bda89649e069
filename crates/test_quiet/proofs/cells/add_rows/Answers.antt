use Rattle.std.proofs.Common.{◌≡◌, ◌∙◌, List, [], ◌∷◌, ◌++◌, ap, sym, subst}
use Rattle.array_geom.specs.declared.chunk.Chunk.{Chunk}
use Rattle.array_parts.specs.Placed.{HavePlaces}
use Rattle.test_quiet.proofs.ReadLemmas.{alone_has_places}
use Rattle.test_quiet.proofs.cells.add_rows.Goals as goal

pub into_rows-requires : goal.into_rows-requires
into_rows-requires c =
    let chunks : c.push.new.self ≡ c.args.chunk ∷ [] = c.in_ok-push.ensures.ok ∙ ap (λ (xs : List Chunk). xs ++ c.args.chunk ∷ []) c.another-chunks.ensures in
    subst (λ (xs : List Chunk). HavePlaces c.in_ok-copy.field-0 c.margins_of.result.items xs) (sym chunks)
    (alone_has_places c.args.leaf.now.schema c.in_ok-copy.field-0 c.margins_of.result.items c.args.chunk c.in_ok-copy.ensures c.margins_of.ensures c.requires.valid c.requires.read)
