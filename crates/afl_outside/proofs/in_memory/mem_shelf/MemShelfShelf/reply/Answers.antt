use Rattle.std.proofs.Common.{◌≡◌, ◌≤◌, inr, None, sym, ◌∙◌, subst, ap, arith}
use Rattle.std.proofs.lemmas.Bool.{false≢true}
use Rattle.afl_outside.specs.Counts.{risen}
use Rattle.afl_outside.specs.Turns.{IsListed, passed}
use Rattle.afl_outside.specs.Files.{file_of, MemoryShelf}
use Rattle.afl_outside.proofs.in_memory.mem_shelf.MemShelfShelf.reply.Goals as goal

pub returns-in-Some-clause-later : goal.returns-in-Some-clause-later
returns-in-Some-clause-later c = subst (λ (s : MemoryShelf). s.turns.faults ≤ c.fails_next.new.self.faults) c.self.view_is c.fails_next.ensures.later

pub returns-in-Some-clause-wants_later : goal.returns-in-Some-clause-wants_later
returns-in-Some-clause-wants_later c = omega (arith, ap (λ (s : MemoryShelf). s.wants) c.self.view_is)

pub returns-in-Ok-clause-later : goal.returns-in-Ok-clause-later
returns-in-Ok-clause-later c = subst (λ (s : MemoryShelf). s.turns.faults ≤ c.fails_next.new.self.faults) c.self.view_is c.fails_next.ensures.later

pub returns-in-Ok-clause-wants_later : goal.returns-in-Ok-clause-wants_later
returns-in-Ok-clause-wants_later c = omega (arith, ap (λ (s : MemoryShelf). s.wants) c.self.view_is)

pub returns-in-Err-clause-later : goal.returns-in-Err-clause-later
returns-in-Err-clause-later c = subst (λ (s : MemoryShelf). s.turns.faults ≤ c.fails_next.new.self.faults) c.self.view_is c.fails_next.ensures.later

pub returns-in-Err-clause-exact : goal.returns-in-Err-clause-exact
returns-in-Err-clause-exact c =
    let inside = c.self.inside in
    let name = c.args.name.now in
    let named : c.as_bytes.result.now ≡ name = c.as_bytes.ensures.value in
    let wants = c.saturating_add-self-inside-in-Err in
    let now : MemoryShelf = record { files = inside.files; replies = c.take_file.new.files; turns = c.fails_next.new.self; wants = wants.result; handed = inside.handed } in
    inr (subst (λ (s : MemoryShelf). (¬ IsListed s.turns) × (file_of s.replies name ≡ None) × (now ≡ record s { turns = passed s.turns; wants = risen s.wants })) c.self.view_is (
      λ listed. absurd (false≢true (c.if-fails_next.ensures.listed.1 listed)),
      sym (c.in-None.ensures.file ∙ ap (file_of inside.replies) named),
      λ i. record { files = inside.files; replies = c.in-None.ensures.none i; turns = c.if-fails_next.ensures.passed i; wants = wants.ensures i; handed = inside.handed },
    ))
