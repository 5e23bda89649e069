-- What two sessions are told of the removal of one array, over a disk of which nothing is known.
use Rattle.std.specs.Prelude.{ℕ, List, [], ◌++◌, false, codes, None, Some}
use Rattle.cell_values.specs.declared.name.Span.{Span}
use Rattle.schema_grammar.specs.declared.kinds.TypeKind.TheVariants.{UnknownArray}
use Rattle.afl_outside.specs.Disk.{Moment}
use Rattle.afl_trees.specs.Term.{Term, reference, call, no_terms, and_term}
use Rattle.plan_changes.specs.declared.change.Change.TheVariants.{Remove}
use Rattle.result_print.specs.declared.refusal.Refusal.{Refusal}
use Rattle.result_print.specs.declared.refusal.Refusal.TheVariants.{Typing, Damaged}
use Rattle.result_print.specs.Lines.{line_of_refusal}
use Rattle.statement_replies.specs.declared.replies.style.Style.{Style}
use Rattle.store_state.specs.declared.state.event.Event.{Event}
use Rattle.array_store.specs.Worked.{worked_others, worked_own, worked_seen, worked_start}
use Rattle.session_answers.specs.Acts.{looking, making}
use Rattle.session_answers.specs.Replies.{HadNoRoom, IsToldFor}
use Rattle.session_answers.specs.declared.replies.reply.Reply.{Reply}

-- what such a disk tells may be no file's
abbrev pub unknown_moment : Unit {0} → Moment
unknown_moment disk = record {
  state = record { name = None; first = None; seen = None; honest = false; moment = 0; faults = 0; wants = 0 };
  may_leave = λ image. Unit {0};
  left_since = λ since image. Unit {0};
}

-- remove(A)
abbrev pub array_name : Span
array_name = record { start = 7; end = 8 }

abbrev pub removal : Term
removal = call (record { start = 0; end = 9 }) (codes "remove") (and_term (reference array_name (codes "A")) no_terms)

abbrev pub refusal_told : Refusal → ℕ → Reply
refusal_told refusal place = record { text = line_of_refusal refusal; refusal = Some refusal; place = place }

abbrev pub made : Reply
made = record { text = codes "ok\n"; refusal = None; place = 2 }

-- session 0 has pinned, and session 1 has pinned, removed A, and unpinned
abbrev pub all_events : List Event
all_events = worked_seen ++ worked_others

abbrev pub no_such_array : Refusal
no_such_array = Typing array_name UnknownArray

-- each fact computes, in every style
pub record AreWorked (style : Style) : Type 0 where
  -- session 1 is told that A is removed, at the place of its commit: there was a next sequence number, and there were pages
  pub removed : IsToldFor unknown_moment worked_start 1 1 all_events [] [] removal made style None (making (Remove (codes "A")))
  -- session 0 is told in the turn of its commit that there is no A any more: right behind its pin the statement was a change
  pub refused : IsToldFor unknown_moment worked_start 0 0 all_events [] [] removal (refusal_told no_such_array 4) style (Some no_such_array) looking
  -- that page 4 is damaged it is told right behind its pin
  pub damaged : IsToldFor unknown_moment worked_start 0 0 worked_seen worked_own [] removal (refusal_told (Damaged 4) 1) style (Some (Damaged 4)) looking
  -- where three entries are the limit nobody pins
  pub full : HadNoRoom (record worked_start { limit = 3 }) [] [] 0
