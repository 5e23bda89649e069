use Rattle.std.proofs.Common.{◌≡◌, ◌∙◌, ℕ, List, ◌++◌, length, ap}
use Rattle.std.specs.List.{flat_map}
use Rattle.logical_plan.specs.declared.names.NameEntry.{NameEntry}
use Rattle.backup_format.specs.Spelling.{before_arrays, spell_array}
use Rattle.backup_writing.specs.Writing.{array_pieces, backup_text}
use Rattle.backup_writing.proofs.Outs.{head_broke, head_writes}
use Rattle.backup_writing.proofs.Texts.{arrays_text}
use Rattle.backup_writing.proofs.arrays.write_arrays.Goals as goal

pub returns-in-Err-clause-written : goal.returns-in-Err-clause-written
returns-in-Err-clause-written g c =
    let entries = c.args.entries.now in
    let tells = (g.S.ChunkSource.state c.args.source.now).tells in
    let text_is : c.as_slice.result.now ≡ before_arrays (length entries) =
    c.as_slice.ensures ∙ c.in_ok-put_before_arrays.ensures ∙ ap (λ (t : List ℕ). t ++ before_arrays (length entries)) c.new-head.ensures in
    head_broke g.K.Sink.state tells c.as_slice.result.now (before_arrays (length entries)) (λ db. flat_map (λ (entry : NameEntry). spell_array (array_pieces db entry)) entries) (backup_text entries) c.args.out.now c.write.new.self text_is
    (λ db is. arrays_text entries db) c.in-Err.ensures.err

pub returns-clause-written : goal.returns-clause-written
returns-clause-written g c =
    let entries = c.args.entries.now in
    let tells = (g.S.ChunkSource.state c.args.source.now).tells in
    let text_is : c.as_slice.result.now ≡ before_arrays (length entries) =
    c.as_slice.ensures ∙ c.in_ok-put_before_arrays.ensures ∙ ap (λ (t : List ℕ). t ++ before_arrays (length entries)) c.new-head.ensures in
    head_writes g.K.Sink.state tells c.write_each.result c.as_slice.result.now (before_arrays (length entries)) (λ db. flat_map (λ (entry : NameEntry). spell_array (array_pieces db entry)) entries) (backup_text entries) c.args.out.now c.write.new.self c.write_each.new.out text_is
    (λ db is. arrays_text entries db) c.in-Ok.ensures.ok c.in-Ok.ensures.digest c.write_each.ensures.written
