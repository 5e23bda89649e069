use Rattle.std.proofs.Common.{◌≡◌, List, rules, true, subst}
use Rattle.std.proofs.lemmas.Fn.{always_returns_same}
use Rattle.array_geom.specs.declared.chunk.Chunk.{Chunk}
use Rattle.array_geom.specs.Link.{is_listed, number_order, numbers}
use Rattle.changed_chunks.proofs.OverCores.{found_listed, no_chunk}
use Rattle.changed_chunks.proofs.chunks.wanted.has_chunk.Goals as goal

pub returns-in-Ok : goal.returns-in-Ok
returns-in-Ok c =
    let k = c.args.number.now.items in
    let chunks = c.as_slice-chunks.result.now in
    let equal = c.in-Ok.ensures.position (λ chunk. number_order chunk.at.items k) (always_returns_same _ _ _ (λ a r g called. search rules)) in
    λ _. subst (λ (z : List Chunk). is_listed k (numbers z) ≡ true) c.as_slice-chunks.ensures (found_listed chunks c.in-Ok.field-0 no_chunk k c.in-Ok.ensures.bound (equal no_chunk))
