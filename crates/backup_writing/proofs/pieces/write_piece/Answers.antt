use Rattle.std.proofs.Common.{◌≡◌, ◌∙◌, ℕ, List, ◌++◌, length, ap}
use Rattle.logical_plan.specs.Meaning.{Database, version_rows}
use Rattle.backup_format.specs.Pieces.{piece_of}
use Rattle.backup_format.specs.Spelling.{before_payload, spell_piece}
use Rattle.backup_writing.proofs.Outs.{head_broke, head_writes, plain_writes}
use Rattle.backup_writing.proofs.Texts.{piece_text}
use Rattle.backup_writing.proofs.pieces.write_piece.Goals as goal

pub returns-in-Err-write-clause-written : goal.returns-in-Err-write-clause-written
returns-in-Err-write-clause-written g c =
    let payload = c.in-Ok.payload in
    let k = c.args.at.now.items in
    let schema = c.args.leaf.now.schema in
    let rows = λ (db : Database). version_rows db c.args.leaf.now.name c.args.leaf.now.version in
    let text_is : c.as_slice-2.result.now ≡ before_payload k (length payload) =
    c.as_slice-2.ensures ∙ c.in_ok-put_before_payload.ensures ∙ ap (λ (t : List ℕ). t ++ before_payload c.as_slice.result.now c.len.result) c.new-head.ensures
    ∙ ap (λ (at : List ℕ). before_payload at c.len.result) c.as_slice.ensures.value ∙ ap (λ (n : ℕ). before_payload k n) c.len.ensures in
    head_broke g.K.Sink.state (g.S.ChunkSource.state c.args.source.now).tells c.as_slice-2.result.now (before_payload k (length payload)) (λ db. payload) (λ db. spell_piece (piece_of schema (rows db) k)) c.args.out.now c.write.new.self text_is
    (λ db is. piece_text schema (rows db) k payload (c.in-Ok.ensures.told db is)) c.in-Err-write.ensures.err

pub returns-clause-written : goal.returns-clause-written
returns-clause-written g c =
    let payload = c.in-Ok.payload in
    let k = c.args.at.now.items in
    let schema = c.args.leaf.now.schema in
    let rows = λ (db : Database). version_rows db c.args.leaf.now.name c.args.leaf.now.version in
    let tells = (g.S.ChunkSource.state c.args.source.now).tells in
    let text_is : c.as_slice-2.result.now ≡ before_payload k (length payload) =
    c.as_slice-2.ensures ∙ c.in_ok-put_before_payload.ensures ∙ ap (λ (t : List ℕ). t ++ before_payload c.as_slice.result.now c.len.result) c.new-head.ensures
    ∙ ap (λ (at : List ℕ). before_payload at c.len.result) c.as_slice.ensures.value ∙ ap (λ (n : ℕ). before_payload k n) c.len.ensures in
    head_writes g.K.Sink.state tells c.write-2.result c.as_slice-2.result.now (before_payload k (length payload)) (λ db. c.as_slice-3.result.now) (λ db. spell_piece (piece_of schema (rows db) k)) c.args.out.now c.write.new.self c.write-2.new.self text_is
    (λ db is. ap (λ (t : List ℕ). before_payload k (length payload) ++ t) c.as_slice-3.ensures ∙ piece_text schema (rows db) k payload (c.in-Ok.ensures.told db is))
    c.in-Ok-write.ensures.ok c.in-Ok-write.ensures.digest
    (plain_writes g.K.Sink.state tells c.write-2.result c.as_slice-3.result.now c.write.new.self c.write-2.new.self c.write-2.ensures.ok c.write-2.ensures.digest c.write-2.ensures.err)
