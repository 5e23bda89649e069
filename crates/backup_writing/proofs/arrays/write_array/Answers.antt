use Rattle.std.proofs.Common.{◌≡◌, ◌∙◌, ℕ, List, ◌++◌, length, ap}
use Rattle.std.specs.List.{flat_map}
use Rattle.backup_format.specs.Pieces.{version_of}
use Rattle.backup_format.specs.Spelling.{before_versions, spell_array, spell_version}
use Rattle.backup_writing.specs.Writing.{array_pieces, version_in}
use Rattle.backup_writing.proofs.Outs.{head_broke, head_writes}
use Rattle.backup_writing.proofs.Texts.{array_text}
use Rattle.backup_writing.proofs.arrays.write_array.Goals as goal

pub returns-in-Err-clause-written : goal.returns-in-Err-clause-written
returns-in-Err-clause-written g c =
    let entry = c.args.entry.now in
    let tells = (g.S.ChunkSource.state c.args.source.now).tells in
    let text_is : c.as_slice.result.now ≡ before_versions entry.name entry.schema entry.next (length entry.versions) =
    c.as_slice.ensures ∙ c.in_ok-put_before_versions.ensures ∙ ap (λ (t : List ℕ). t ++ before_versions entry.name entry.schema entry.next c.len.result) c.new-head.ensures
    ∙ ap (λ (n : ℕ). before_versions entry.name entry.schema entry.next n) c.len.ensures in
    head_broke g.K.Sink.state tells c.as_slice.result.now (before_versions entry.name entry.schema entry.next (length entry.versions)) (λ db. flat_map (λ (n : ℕ). spell_version (version_of entry.schema (version_in entry.name db n))) entry.versions)
    (λ db. spell_array (array_pieces db entry)) c.args.out.now c.write.new.self text_is (λ db is. array_text db entry) c.in-Err.ensures.err

pub returns-clause-written : goal.returns-clause-written
returns-clause-written g c =
    let entry = c.args.entry.now in
    let tells = (g.S.ChunkSource.state c.args.source.now).tells in
    let text_is : c.as_slice.result.now ≡ before_versions entry.name entry.schema entry.next (length entry.versions) =
    c.as_slice.ensures ∙ c.in_ok-put_before_versions.ensures ∙ ap (λ (t : List ℕ). t ++ before_versions entry.name entry.schema entry.next c.len.result) c.new-head.ensures
    ∙ ap (λ (n : ℕ). before_versions entry.name entry.schema entry.next n) c.len.ensures in
    head_writes g.K.Sink.state tells c.write_versions.result c.as_slice.result.now (before_versions entry.name entry.schema entry.next (length entry.versions)) (λ db. flat_map (λ (n : ℕ). spell_version (version_of entry.schema (version_in entry.name db n))) entry.versions)
    (λ db. spell_array (array_pieces db entry)) c.args.out.now c.write.new.self c.write_versions.new.out text_is (λ db is. array_text db entry) c.in-Ok.ensures.ok c.in-Ok.ensures.digest c.write_versions.ensures.written
