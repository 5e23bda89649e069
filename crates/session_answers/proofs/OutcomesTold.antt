-- What replies without a change tell.
use Rattle.std.proofs.Common.{◌≡◌, inl, inr, ℕ, List, Option, None, Some, Ok, Err, ap, sym, subst}
use Rattle.std.proofs.lemmas.Option.{none-some}
use Rattle.cell_values.specs.declared.datum.Broken.{Broken}
use Rattle.cell_values.specs.declared.schema.Schema.{Schema}
use Rattle.afl_outside.specs.Disk.{Moment}
use Rattle.afl_trees.specs.Term.{Term}
use Rattle.logical_plan.specs.declared.names.Names.{Names}
use Rattle.plan_changes.specs.declared.change.Change.{Change}
use Rattle.plan_changes.specs.declared.change.Change.TheVariants.{Create, Store, Insert, Remove, RemoveVersions}
use Rattle.logical_plan.specs.PlanSchema.{schema_of}
use Rattle.logical_plan.specs.Query.{Query}
use Rattle.check_rules.specs.Checked.{Breach, Checked}
use Rattle.afl_types.specs.Checking.{check_of}
use Rattle.afl_types.specs.declared.types.statements.checking.Typed.{Typed}
use Rattle.afl_types.specs.declared.types.statements.checking.Typed.TheVariants.{Query as AQuery, Change as AChange, Versions, Show, ListArrays}
use Rattle.chunk_source.specs.declared.reading.fault.ExecFault.{ExecFault}
use Rattle.chunk_source.specs.declared.reading.fault.ExecFault.TheVariants.{Source, Damaged as Spoiled, Memory as Wanting}
use Rattle.result_print.specs.declared.refusal.Refusal.{Refusal}
use Rattle.result_print.specs.declared.refusal.Refusal.TheVariants.{Typing, Cell, Disk, Damaged, Memory}
use Rattle.statement_replies.specs.declared.replies.replies.Reply.{Reply as Told}
use Rattle.statement_replies.specs.Kinds.{IsRowsReply, IsTextOrRefusal}
use Rattle.statement_replies.specs.Reply.{cell_reply, refused, traced}
use Rattle.statement_replies.specs.StatementKinds.{HasChangeKind, HasStatementKind, IsAccepted, MayBreak}
use Rattle.statement_replies.specs.Statements.{Accepted, without_change}
use Rattle.statement_replies.specs.declared.replies.style.Style.{Style}
use Rattle.store_state.specs.declared.state.event.Event.{Event}
use Rattle.snapshot_manager.specs.Start.{Start}
use Rattle.session_answers.specs.Acts.{looking}
use Rattle.session_answers.specs.Refusals.{IsWant, Refuses}
use Rattle.session_answers.specs.Replies.{names_before, words_of, HasLine, IsToldFor}
use Rattle.session_answers.specs.declared.replies.reply.Reply.{Reply}
use Rattle.session_answers.specs.ToldReplies.{IsCausedSincePin, IsLookedReply, IsSaidBehindPin, SaidRepliesAreTold, UnreadRepliesAreTold}

-- ---- the words of a statement without a change refuse nothing, or for a rule or a cell

data Words (words : Told) : Type 0 where
  tells : words.refusal ≡ None → Words words
  breaks : (breach : Breach) → words ≡ refused (Typing breach.span breach.kind) → Words words
  fails : (broken : Broken) → words ≡ cell_reply broken → Words words

no_change : (style : Style) (words : Told) (names : Names) (change : Change) → IsAccepted style names change (without_change words) → Words words
no_change style words names change is = absurd (none-some change is.1)

said_words : (words other : Told) → without_change words ≡ without_change other → words ≡ other
said_words words other e = ap (λ (answer : Accepted). answer.reply) e

may_break : (style : Style) (words : Told) (names : Names) (change : Change) → MayBreak style names change (without_change words) → Words words
may_break style words names change (inl is) = no_change style words names change is
may_break style words names change (inr (broken, e)) = fails broken (said_words words (cell_reply broken) e)

of_change : (style : Style) (words : Told) (names : Names) (change : Change) → HasChangeKind style names change (without_change words) → Words words
of_change style words names (Create name schema) k = no_change style words names (Create name schema) k
of_change style words names (Store name schema plan) k = may_break style words names (Store name schema plan) k
of_change style words names (Insert name schema plan) k = may_break style words names (Insert name schema plan) k
of_change style words names (Remove name) k = no_change style words names (Remove name) k
of_change style words names (RemoveVersions name below) k = no_change style words names (RemoveVersions name below) k

of_text : (style : Style) (lines : List ℕ) (schema : Schema) (words : Told) → IsTextOrRefusal style lines schema words → Words words
of_text style lines schema words (inl (rows, are, e)) = tells (ap (λ (r : Told). r.refusal) e)
of_text style lines schema words (inr (broken, e)) = fails broken e

of_rows : (style : Style) (words : Told) (plan : Query) → IsRowsReply style plan words → Words words
of_rows style words plan (lines, are, kind) = of_text style (traced style lines) (schema_of plan) words kind

of_kind : (style : Style) (words : Told) (names : Names) (checked : Checked Typed) → HasStatementKind style names checked (without_change words) → Words words
of_kind style words names (Ok (AQuery plan)) k = of_rows style words plan k.0
of_kind style words names (Ok (AChange change)) k = of_change style words names change k
of_kind style words names (Ok (Versions name)) k = tells (ap (λ (answer : Accepted). answer.reply.refusal) k)
of_kind style words names (Ok (Show name)) k = tells (ap (λ (answer : Accepted). answer.reply.refusal) k)
of_kind style words names (Ok ListArrays) k = tells (ap (λ (answer : Accepted). answer.reply.refusal) k)
of_kind style words names (Err breach) k = breaks breach (said_words words (refused (Typing breach.span breach.kind)) k)

-- ---- replies

module _ {D : Type 0} (moment : D → Moment) (start : Start D) (session pin : ℕ) (events own : List Event) (text : List ℕ) (tree : Term) (reply : Reply)
    (style : Style) where
  abbrev Looked : Type 0
  Looked = IsLookedReply moment start session pin events own text tree reply style

  -- what holds for its refusal holds of it
  looked : (refusal : Option Refusal) → reply.refusal ≡ refusal → HasLine reply refusal →
      IsToldFor moment start session pin events own text tree reply style refusal looking → Looked
  looked refusal e line told = record {
    line = subst (λ (r : Option Refusal). HasLine reply r) (sym e) line;
    told = subst (λ (r : Option Refusal). IsToldFor moment start session pin events own text tree reply style r looking) (sym e) told;
  }

  refusal_is : (other : Told) → words_of reply ≡ other → reply.refusal ≡ other.refusal
  refusal_is other e = ap (λ (words : Told). words.refusal) e

  text_is : (other : Told) → words_of reply ≡ other → reply.text ≡ other.text
  text_is other e = ap (λ (words : Told). words.text) e

  module _ (s : IsSaidBehindPin moment start session pin events own text tree reply style) where
    by_words : Words (words_of reply) → Looked
    by_words (tells e) = looked None e tt (s.behind, s.said)
    by_words (breaks breach e) = looked (Some (Typing breach.span breach.kind)) (refusal_is (refused (Typing breach.span breach.kind)) e)
        (text_is (refused (Typing breach.span breach.kind)) e) (inl s.behind, s.said)
    by_words (fails broken e) = looked (Some (Cell broken.at broken.kind)) (refusal_is (cell_reply broken) e) (text_is (cell_reply broken) e) (inl s.behind, s.said)

    said_is_told : Looked
    said_is_told = by_words (of_kind style (words_of reply) (names_before start events reply.place)
        (check_of tree text (names_before start events reply.place)) s.said.kind)

  want_is_told : IsWant reply → Looked
  want_is_told w = looked (Some Memory) w.1 w.0 tt

  disk_is_told : IsCausedSincePin moment start session pin events own text tree reply Source → Refuses Disk reply → Looked
  disk_is_told c (inl e) = looked (Some Disk) (refusal_is (refused Disk) e) (text_is (refused Disk) e) (c.holds, c.cause, c.allowed)
  disk_is_told c (inr w) = want_is_told w

  page_is_told : (page : ℕ) → IsCausedSincePin moment start session pin events own text tree reply (Spoiled page) → Refuses (Damaged page) reply → Looked
  page_is_told page c (inl e) = looked (Some (Damaged page)) (refusal_is (refused (Damaged page)) e) (text_is (refused (Damaged page)) e)
      (c.holds, c.cause.0, c.cause.1, c.allowed)
  page_is_told page c (inr w) = want_is_told w

  unread_is_told : (fault : ExecFault) → IsCausedSincePin moment start session pin events own text tree reply fault → Looked
  unread_is_told Source c = disk_is_told c c.unread
  unread_is_told (Spoiled page) c = page_is_told page c c.unread
  unread_is_told Wanting c = want_is_told c.unread

pub said_replies_are_told : {D : Type 0} (moment : D → Moment) → SaidRepliesAreTold moment
said_replies_are_told moment style start session pin events own text tree reply s = said_is_told moment start session pin events own text tree reply style s

pub unread_replies_are_told : {D : Type 0} (moment : D → Moment) → UnreadRepliesAreTold moment
unread_replies_are_told moment style start session pin events own text tree reply fault c =
    unread_is_told moment start session pin events own text tree reply style fault c
