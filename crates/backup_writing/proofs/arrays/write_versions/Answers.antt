use Rattle.std.proofs.Common.{◌∙◌, ◌≡◌, ℕ, List, length, get_or, ap, subst, arith}
use Rattle.std.specs.List.{flat_map}
use Rattle.logical_plan.specs.declared.parts.Leaf.{Leaf}
use Rattle.logical_plan.specs.Meaning.{Database}
use Rattle.backup_format.specs.Pieces.{version_of}
use Rattle.backup_format.specs.Spelling.{spell_version}
use Rattle.backup_writing.specs.Writing.{version_in}
use Rattle.backup_writing.proofs.Outs.{as_wrote, as_broke, each_wrote, each_broke, part_broke, item_at, failed_writes, less_wrote, less_broke, kept_then}
use Rattle.backup_writing.proofs.arrays.write_versions.Goals as goal

pub returns-in_err-leaf-clause-written : goal.returns-in_err-leaf-clause-written
returns-in_err-leaf-clause-written g c =
    let source = g.S.ChunkSource.state c.args.source.now in
    let entry = c.args.entry.now in
    failed_writes g.K.Sink.state source.tells c.from_residual.result (λ db. flat_map (λ (n : ℕ). spell_version (version_of entry.schema (version_in entry.name db n))) entry.versions) c.args.out.now c.loop-version.out c.from_residual.ensures.0
    (part_broke g.K.Sink.state source.tells (λ (db : Database) (n : ℕ). spell_version (version_of entry.schema (version_in entry.name db n))) entry.versions c.loop-version.version-index c.args.out.now c.loop-version.out c.loop-version.invariant.wrote)

pub returns-in-Err-clause-written : goal.returns-in-Err-clause-written
returns-in-Err-clause-written g c =
    let source = g.S.ChunkSource.state c.args.source.now in
    let between = g.S.ChunkSource.state c.loop-version.source in
    let entry = c.args.entry.now in
    each_broke g.K.Sink.state source.tells (λ (db : Database) (n : ℕ). spell_version (version_of entry.schema (version_in entry.name db n))) entry.versions c.loop-version.version-index (get_or c.as_slice-version-items.result.now c.loop-version.version-index 0)
    c.args.out.now c.loop-version.out c.write_version.new.out (omega (arith, c.loop-version-test.true, ap length c.as_slice-version-items.ensures))
    (subst (λ (ns : List ℕ). get_or c.as_slice-version-items.result.now c.loop-version.version-index 0 ≡ get_or ns c.loop-version.version-index (get_or c.as_slice-version-items.result.now c.loop-version.version-index 0)) c.as_slice-version-items.ensures
    (item_at c.as_slice-version-items.result.now c.loop-version.version-index 0 (omega (arith, c.loop-version-test.true)))) c.loop-version.invariant.wrote
    (as_broke g.K.Sink.state source.tells (λ db. spell_version (version_of c.in_ok-leaf.leaf.schema (version_in c.in_ok-leaf.leaf.name db c.in_ok-leaf.leaf.version)))
    (λ db. spell_version (version_of entry.schema (version_in entry.name db (get_or c.as_slice-version-items.result.now c.loop-version.version-index 0)))) c.loop-version.out c.write_version.new.out
    (λ db is. ap (λ (leaf : Leaf). spell_version (version_of leaf.schema (version_in leaf.name db leaf.version))) c.in_ok-leaf.ensures)
    (less_broke g.K.Sink.state source between (λ db. spell_version (version_of c.in_ok-leaf.leaf.schema (version_in c.in_ok-leaf.leaf.name db c.in_ok-leaf.leaf.version))) c.loop-version.out c.write_version.new.out c.loop-version.invariant.kept c.in-Err.ensures.written))

pub loop-version-preserved : goal.loop-version-preserved
loop-version-preserved g c =
    let source = g.S.ChunkSource.state c.args.source.now in
    let between = g.S.ChunkSource.state c.loop-version.source in
    let entry = c.args.entry.now in
    record {
      kept = kept_then source between (g.S.ChunkSource.state c.write_version.new.source) c.loop-version.invariant.kept c.write_version.ensures.kept;
      start = c.write_version.ensures.start ∙ c.loop-version.invariant.start;
      wrote = each_wrote g.K.Sink.state source.tells (λ (db : Database) (n : ℕ). spell_version (version_of entry.schema (version_in entry.name db n))) entry.versions c.loop-version.version-index (get_or c.as_slice-version-items.result.now c.loop-version.version-index 0)
          c.args.out.now c.loop-version.out c.write_version.new.out (omega (arith, c.loop-version-test.true, ap length c.as_slice-version-items.ensures))
          (subst (λ (ns : List ℕ). get_or c.as_slice-version-items.result.now c.loop-version.version-index 0 ≡ get_or ns c.loop-version.version-index (get_or c.as_slice-version-items.result.now c.loop-version.version-index 0)) c.as_slice-version-items.ensures
          (item_at c.as_slice-version-items.result.now c.loop-version.version-index 0 (omega (arith, c.loop-version-test.true)))) c.loop-version.invariant.wrote
          (as_wrote g.K.Sink.state source.tells (λ db. spell_version (version_of c.in_ok-leaf.leaf.schema (version_in c.in_ok-leaf.leaf.name db c.in_ok-leaf.leaf.version)))
          (λ db. spell_version (version_of entry.schema (version_in entry.name db (get_or c.as_slice-version-items.result.now c.loop-version.version-index 0)))) c.loop-version.out c.write_version.new.out
          (λ db is. ap (λ (leaf : Leaf). spell_version (version_of leaf.schema (version_in leaf.name db leaf.version))) c.in_ok-leaf.ensures)
          (less_wrote g.K.Sink.state source between (λ db. spell_version (version_of c.in_ok-leaf.leaf.schema (version_in c.in_ok-leaf.leaf.name db c.in_ok-leaf.leaf.version))) c.loop-version.out c.write_version.new.out c.loop-version.invariant.kept c.in-Ok.ensures.written));
    }
