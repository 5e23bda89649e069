use Rattle.std.proofs.Common.{◌≡◌, ◌≤◌, ◌⊎◌, inr, None, Ok, sym, ◌∙◌, ap, subst}
use Rattle.std.proofs.lemmas.Bool.{false≢true}
use Rattle.afl_outside.specs.Counts.{risen}
use Rattle.afl_outside.specs.Turns.{Turns, IsListed, failed}
use Rattle.afl_outside.specs.Inner.Records.{new_disk}
use Rattle.afl_outside.specs.Files.{file_of, without, MemoryShelf, OpensFile}
use Rattle.afl_outside.specs.declared.in_memory.mem_file.MemFile.{MemFile}
use Rattle.afl_outside.proofs.in_memory.mem_shelf.MemShelfShelf.device.Goals as goal

pub returns-in-Some-clause-exact : goal.returns-in-Some-clause-exact
returns-in-Some-clause-exact c =
    let inside = c.self.inside in
    let name = c.args.name.now in
    let named : c.as_bytes.result.now ≡ name = c.as_bytes.ensures.value in
    let rest = c.take_file.ensures.rest ∙ ap (without inside.files) named in
    let now : MemoryShelf = record {
      files = c.take_file.new.files;
      replies = inside.replies;
      turns = c.fails_next.new.self;
      wants = inside.wants;
      handed = c.saturating_add-self-inside.result;
    } in
    subst (λ (s : MemoryShelf). OpensFile (λ (f : MemFile). new_disk f.name f.content f.fails) risen name s now (Ok c.named.result)) c.self.view_is (
      c.in-Some.field-0,
      sym (c.in-Some.ensures.file ∙ ap (file_of inside.files) named),
      λ listed. absurd (false≢true (c.if-fails_next.ensures.listed.1 listed)),
      c.named.ensures,
      λ i. record { files = rest i; replies = inside.replies; turns = c.if-fails_next.ensures.passed i; wants = inside.wants; handed = c.saturating_add-self-inside.ensures i },
    )

pub returns-in-None-clause-exact : goal.returns-in-None-clause-exact
returns-in-None-clause-exact c =
    let inside = c.self.inside in
    let name = c.args.name.now in
    let named : c.as_bytes.result.now ≡ name = c.as_bytes.ensures.value in
    let turned : c.fault.new.self ≡ failed inside.turns = c.fault.ensures.faults ∙ ap (λ (t : Turns). record t { faults = risen t.faults }) c.if-fails_next.ensures.passed in
    let now : MemoryShelf = record { files = c.take_file.new.files; replies = inside.replies; turns = c.fault.new.self; wants = inside.wants; handed = inside.handed } in
    subst (λ (s : MemoryShelf). (IsListed s.turns ⊎ (file_of s.files name ≡ None)) × (now ≡ record s { turns = failed s.turns })) c.self.view_is (
      inr (sym (c.in-None.ensures.file ∙ ap (file_of inside.files) named)),
      λ i. record { files = c.in-None.ensures.none i; replies = inside.replies; turns = turned i; wants = inside.wants; handed = inside.handed },
    )

pub returns-in-Some-clause-later : goal.returns-in-Some-clause-later
returns-in-Some-clause-later c = subst (λ (s : MemoryShelf). s.turns.faults ≤ c.fails_next.new.self.faults) c.self.view_is c.fails_next.ensures.later
