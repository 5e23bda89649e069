use Rattle.std.proofs.Common.{◌≡◌, ◌∙◌, ℕ, List, ◌++◌, length, sym, ap, subst}
use Rattle.std.specs.Prelude.{◌==◌, IsTrue}
use Rattle.std.specs.List.{AllByRecursion, filter, flat_map}
use Rattle.arrayvec.specs.ArrayVec.{ArrayVec}
use Rattle.chunk_source.specs.Source.{is_among, listed}
use Rattle.backup_format.specs.Pieces.{version_of}
use Rattle.backup_format.specs.Spelling.{before_pieces, spell_version}
use Rattle.backup_writing.specs.Writing.{version_in}
use Rattle.backup_writing.proofs.Outs.{head_broke, head_writes, less_writes}
use Rattle.backup_writing.proofs.Sources.{numbers_among}
use Rattle.backup_writing.proofs.Texts.{kept_numbers, spell_at, version_text}
use Rattle.backup_writing.proofs.versions.write_version.Goals as goal

pub returns-in-Err-write-clause-written : goal.returns-in-Err-write-clause-written
returns-in-Err-write-clause-written g c =
    let leaf = c.args.leaf.now in
    let numbers = c.in_ok-numbers.numbers in
    let source = g.S.ChunkSource.state c.args.source.now in
    let numbers_are : numbers ≡ kept_numbers leaf c.in-Ok.chunks =
    c.in_ok-numbers.ensures ∙ ap (λ (n : ℕ). filter (λ (at : ArrayVec ℕ). length at.items == n) c.as_slice.result.now) c.len.ensures ∙ ap (λ (ats : List (ArrayVec ℕ)). kept_numbers leaf ats) c.as_slice.ensures in
    let text_is : c.as_slice-2.result.now ≡ before_pieces leaf.version (length numbers) =
    c.as_slice-2.ensures ∙ c.in_ok-put_before_pieces.ensures ∙ ap (λ (t : List ℕ). t ++ before_pieces leaf.version c.len-2.result) c.new-head.ensures ∙ ap (λ (n : ℕ). before_pieces leaf.version n) c.len-2.ensures in
    head_broke g.K.Sink.state source.tells c.as_slice-2.result.now (before_pieces leaf.version (length numbers)) (λ db. flat_map (spell_at leaf db) numbers) (λ db. spell_version (version_of leaf.schema (version_in leaf.name db leaf.version)))
    c.args.out.now c.write.new.self text_is
    (λ db is. version_text leaf db c.in-Ok.chunks numbers c.requires.version c.in-Ok.ensures.rising (c.in-Ok.ensures.told db is c.requires.valid) numbers_are) c.in-Err-write.ensures.err

pub write_pieces-requires-clause-listed : goal.write_pieces-requires-clause-listed
write_pieces-requires-clause-listed g c =
    let leaf = c.args.leaf.now in
    let later = g.S.ChunkSource.state c.listed.new.self in
    subst (λ (ats : List (ArrayVec ℕ)). AllByRecursion (λ (at : ArrayVec ℕ). IsTrue (is_among at (listed later leaf))) ats) (sym (c.as_slice-3.ensures ∙ c.in_ok-numbers.ensures))
    (numbers_among (g.S.ChunkSource.state c.args.source.now) later leaf c.as_slice.result.now (λ (at : ArrayVec ℕ). length at.items == c.len.result) c.listed.ensures.kept (c.as_slice.ensures ∙ c.in-Ok.ensures.listed))

pub returns-clause-written : goal.returns-clause-written
returns-clause-written g c =
    let leaf = c.args.leaf.now in
    let numbers = c.in_ok-numbers.numbers in
    let source = g.S.ChunkSource.state c.args.source.now in
    let numbers_are : numbers ≡ kept_numbers leaf c.in-Ok.chunks =
    c.in_ok-numbers.ensures ∙ ap (λ (n : ℕ). filter (λ (at : ArrayVec ℕ). length at.items == n) c.as_slice.result.now) c.len.ensures ∙ ap (λ (ats : List (ArrayVec ℕ)). kept_numbers leaf ats) c.as_slice.ensures in
    let text_is : c.as_slice-2.result.now ≡ before_pieces leaf.version (length numbers) =
    c.as_slice-2.ensures ∙ c.in_ok-put_before_pieces.ensures ∙ ap (λ (t : List ℕ). t ++ before_pieces leaf.version c.len-2.result) c.new-head.ensures ∙ ap (λ (n : ℕ). before_pieces leaf.version n) c.len-2.ensures in
    head_writes g.K.Sink.state source.tells c.write_pieces.result c.as_slice-2.result.now (before_pieces leaf.version (length numbers)) (λ db. flat_map (spell_at leaf db) c.as_slice-3.result.now)
    (λ db. spell_version (version_of leaf.schema (version_in leaf.name db leaf.version))) c.args.out.now c.write.new.self c.write_pieces.new.out text_is
    (λ db is. ap (λ (ats : List (ArrayVec ℕ)). before_pieces leaf.version (length numbers) ++ flat_map (spell_at leaf db) ats) c.as_slice-3.ensures
    ∙ version_text leaf db c.in-Ok.chunks numbers c.requires.version c.in-Ok.ensures.rising (c.in-Ok.ensures.told db is c.requires.valid) numbers_are)
    c.in-Ok-write.ensures.ok c.in-Ok-write.ensures.digest
    (less_writes g.K.Sink.state source (g.S.ChunkSource.state c.listed.new.self) c.write_pieces.result (λ db. flat_map (spell_at leaf db) c.as_slice-3.result.now) c.write.new.self c.write_pieces.new.out c.listed.ensures.kept c.write_pieces.ensures.written)
