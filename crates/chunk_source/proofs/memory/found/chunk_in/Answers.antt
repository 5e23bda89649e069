use Rattle.std.proofs.Common.{◌≡◌, rules, true, Some, List, sym, subst}
use Rattle.std.specs.Prelude.{Contains}
use Rattle.array_geom.specs.declared.chunk.Chunk.{Chunk}
use Rattle.array_geom.specs.Link.{NumbersRise, numbers, is_listed}
use Rattle.logical_plan.specs.Meaning.{Database}
use Rattle.chunk_source.specs.Source.{IsStored, IsChunkIn}
use Rattle.chunk_source.specs.Found.{array_of, database_of}
use Rattle.chunk_source.proofs.MemoryLeafLaws.{found, later_version, found_listed, found_stored, found_part, of_copy}
use Rattle.chunk_source.proofs.memory.found.chunk_in.Goals as goal

pub chunk_at-requires-clause-rising : goal.chunk_at-requires-clause-rising
chunk_at-requires-clause-rising c =
    let is : array_of c.args.arrays.now c.args.leaf.now.name c.args.leaf.now.version ≡ Some c.in-Some.stored.now = search rules in
    let f = found c.args.arrays.now c.args.leaf.now c.in-Some.stored.now c.requires.stored c.requires.reads (later_version c.args.arrays.now c.args.leaf.now c.args.at.now c.requires.listed) is in
    subst (λ (chunks : List Chunk). NumbersRise (numbers chunks)) (sym c.as_slice-in-Some.ensures) f.kept.rows.chunks.in_order

pub chunk_at-requires-clause-listed : goal.chunk_at-requires-clause-listed
chunk_at-requires-clause-listed c =
    let is : array_of c.args.arrays.now c.args.leaf.now.name c.args.leaf.now.version ≡ Some c.in-Some.stored.now = search rules in
    let f = found c.args.arrays.now c.args.leaf.now c.in-Some.stored.now c.requires.stored c.requires.reads (later_version c.args.arrays.now c.args.leaf.now c.args.at.now c.requires.listed) is in
    subst (λ (chunks : List Chunk). is_listed c.args.at.now.items (numbers chunks) ≡ true) (sym c.as_slice-in-Some.ensures) (found_listed c.args.arrays.now c.args.leaf.now c.in-Some.stored.now c.args.at.now f c.requires.listed)

pub returns-clause-stored : goal.returns-clause-stored
returns-clause-stored c =
    let is : array_of c.args.arrays.now c.args.leaf.now.name c.args.leaf.now.version ≡ Some c.in-Some.stored.now = search rules in
    let f = found c.args.arrays.now c.args.leaf.now c.in-Some.stored.now c.requires.stored c.requires.reads (later_version c.args.arrays.now c.args.leaf.now c.args.at.now c.requires.listed) is in
    let among = subst (λ (chunks : List Chunk). Contains chunks c.chunk_at.result.now) c.as_slice-in-Some.ensures c.chunk_at.ensures.among in
    of_copy (IsStored c.args.leaf.now.schema c.args.at.now) c.copy.result c.chunk_at.result.now c.copy.ensures
    (found_stored c.args.arrays.now c.args.leaf.now c.in-Some.stored.now c.args.at.now c.chunk_at.result.now f among c.chunk_at.ensures.number)

pub returns-clause-told : goal.returns-clause-told
returns-clause-told c =
    let is : array_of c.args.arrays.now c.args.leaf.now.name c.args.leaf.now.version ≡ Some c.in-Some.stored.now = search rules in
    let f = found c.args.arrays.now c.args.leaf.now c.in-Some.stored.now c.requires.stored c.requires.reads (later_version c.args.arrays.now c.args.leaf.now c.args.at.now c.requires.listed) is in
    let among = subst (λ (chunks : List Chunk). Contains chunks c.chunk_at.result.now) c.as_slice-in-Some.ensures c.chunk_at.ensures.among in
    of_copy (λ chunk. (db : Database) → db ≡ database_of c.args.arrays.now → IsChunkIn db c.args.leaf.now chunk) c.copy.result c.chunk_at.result.now c.copy.ensures
    (λ db is. subst (λ (d : Database). IsChunkIn d c.args.leaf.now c.chunk_at.result.now) (sym is) (found_part c.args.arrays.now c.args.leaf.now c.in-Some.stored.now c.chunk_at.result.now f among))
