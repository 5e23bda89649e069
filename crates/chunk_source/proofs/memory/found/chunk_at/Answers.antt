use Rattle.std.proofs.Common.{◌≡◌, rules, sym, subst}
use Rattle.std.proofs.lemmas.Fn.{always_returns_same}
use Rattle.std.specs.declared.cmp.Ordering.TheVariants.{Equal}
use Rattle.array_geom.specs.declared.chunk.Chunk.{Chunk}
use Rattle.array_geom.specs.Link.{number_order}
use Rattle.chunk_source.proofs.SearchLaws.{is_found, same_at}
use Rattle.chunk_source.proofs.memory.found.chunk_at.Goals as goal

pub unreachable-requires : goal.unreachable-requires
unreachable-requires c =
    is_found c.args.chunks.now c.args.at.now.items _ c.requires.rising c.requires.listed
    (c.in-Err.ensures.position (λ chunk. number_order chunk.at.items c.args.at.now.items) (always_returns_same _ _ _ (λ a r g called. search rules)))

pub returns-clause-number : goal.returns-clause-number
returns-clause-number c =
    let equal = c.in-Ok.ensures.position (λ chunk. number_order chunk.at.items c.args.at.now.items) (always_returns_same _ _ _ (λ a r g called. search rules)) in
    same_at _ _ (rw (sym c.index-chunks-place.is) at (equal c.index-chunks-place.result))
