use Rattle.std.specs.Int.{w32, to_le_bytes}
use Rattle.std.proofs.Common.{ℕ, ◌<◌, ◌≤◌, List, ◌++◌, length, slice_index_or, refl, ap, subst, ◌∙◌}
use Rattle.std.specs.List.{flat_map}
use Rattle.std.proofs.lemmas.List.{take_all}
use Rattle.version_catalog.specs.Spelling.{VersionAt, versions_at, spell_version}
use Rattle.version_catalog.proofs.Putting.{version_put}
use Rattle.version_catalog.proofs.catalogs.encoding.put_versions.Goals as goal

pub loop-index-preserved : goal.loop-index-preserved
loop-index-preserved c =
    version_put c.args.out.now (to_le_bytes w32 (length (versions_at c.args.numbers.now c.args.directories.now))) c.loop-index.out c.put_version.new.out c.args.numbers.now c.args.directories.now c.loop-index.index
    (slice_index_or c.args.numbers.now c.loop-index.index 0) c.index-directories-index.result refl c.index-directories-index.is (subst (λ (n : ℕ). c.loop-index.index < n) c.count_versions-count.ensures.count c.loop-index-test.true) c.loop-index.invariant c.in_ok-put_version.ensures

pub returns : goal.returns
returns c =
    let versions = versions_at c.args.numbers.now c.args.directories.now in
    let head = to_le_bytes w32 (length versions) in
    c.loop-index.invariant
    ∙ ap (λ (versions : List VersionAt). c.args.out.now ++ (head ++ flat_map spell_version versions))
    (take_all c.loop-index.index versions (subst (λ (n : ℕ). n ≤ c.loop-index.index) c.count_versions-count.ensures.count c.loop-index-test.false))
