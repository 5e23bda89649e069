use Rattle.std.proofs.Common.{◌≡◌, ℕ, rules, Some, List, sym, ap, ◌∙◌, subst, arith}
use Rattle.arrayvec.specs.ArrayVec.{ArrayVec}
use Rattle.array_geom.specs.declared.chunk.Chunk.{Chunk}
use Rattle.array_geom.specs.Link.{NumbersRise}
use Rattle.logical_plan.specs.Meaning.{Database}
use Rattle.chunk_source.specs.Source.{numbers_of, AreNumbersIn}
use Rattle.chunk_source.specs.Found.{array_of, database_of, numbers_in}
use Rattle.chunk_source.proofs.MemoryLeafLaws.{found, found_rising, found_array, of_copy}
use Rattle.chunk_source.proofs.memory.found.listed_in.Goals as goal

pub returns-in-Some-clause-rising : goal.returns-in-Some-clause-rising
returns-in-Some-clause-rising c =
    let is : array_of c.args.arrays.now c.args.leaf.now.name c.args.leaf.now.version ≡ Some c.in-Some.stored.now = search rules in
    let f = found c.args.arrays.now c.args.leaf.now c.in-Some.stored.now c.requires.stored c.requires.reads (search rules) is in
    of_copy (λ chunks. NumbersRise (numbers_of chunks)) c.numbers_of.result (numbers_in c.in-Some.stored.now.array.chunks) (rw c.as_slice-in-Some.ensures at c.numbers_of.ensures) (found_rising c.args.arrays.now c.args.leaf.now c.in-Some.stored.now f)

pub returns-in-Some-clause-told : goal.returns-in-Some-clause-told
returns-in-Some-clause-told c =
    let is : array_of c.args.arrays.now c.args.leaf.now.name c.args.leaf.now.version ≡ Some c.in-Some.stored.now = search rules in
    let f = found c.args.arrays.now c.args.leaf.now c.in-Some.stored.now c.requires.stored c.requires.reads (search rules) is in
    let numbers = numbers_in c.in-Some.stored.now.array.chunks in
    of_copy (λ chunks. (db : Database) → db ≡ database_of c.args.arrays.now → AreNumbersIn db c.args.leaf.now chunks) c.numbers_of.result numbers (rw c.as_slice-in-Some.ensures at c.numbers_of.ensures)
    (λ db is. subst (λ (d : Database). AreNumbersIn d c.args.leaf.now numbers) (sym is) (λ valid. found_array c.args.arrays.now c.args.leaf.now c.in-Some.stored.now f))
