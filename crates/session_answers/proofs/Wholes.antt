-- The answer to a text: that to its tree, that of its stop, or that no memory was found.
use Rattle.std.proofs.Common.{◌≡◌, ◌∙◌, ℕ, List, [], length, inl, inr, Option, None, Some, Ok, Err, refl, ap, sym, subst, arith}
use Rattle.afl_outside.specs.Disk.{Moment}
use Rattle.afl_parser.specs.declared.fault.ParseFault.{ParseFault}
use Rattle.afl_parser.specs.declared.fault.ParseFault.TheVariants as stops
use Rattle.afl_parser.specs.Outcome.{AnswersStop, AnswersTree}
use Rattle.afl_trees.specs.Statement.{DerivesText, StopsText}
use Rattle.afl_trees.specs.Term.{Term}
use Rattle.afl_trees.specs.declared.kind.ParseKind.{ParseKind}
use Rattle.result_print.specs.declared.refusal.Refusal.{Refusal}
use Rattle.result_print.specs.declared.refusal.Refusal.TheVariants.{Memory, Parse}
use Rattle.statement_replies.specs.declared.replies.replies.Reply.{Reply as Told}
use Rattle.statement_replies.specs.Reply.{refused}
use Rattle.statement_replies.specs.declared.replies.style.Style.{Style}
use Rattle.store_state.specs.declared.state.event.Event.{Event}
use Rattle.session_answers.specs.Acts.{nothing}
use Rattle.session_answers.specs.Refusals.{IsWant, RefusesAt}
use Rattle.session_answers.specs.Replies.{words_of, HasLine, IsToldFor}
use Rattle.session_answers.specs.declared.replies.reply.Reply.{Reply}
use Rattle.snapshot_manager.specs.Start.{Start}
use Rattle.snapshot_manager.specs.Told.{entries_in}
use Rattle.session_sources.proofs.CourseLaws.{courses_may_be_empty}
use Rattle.session_answers.specs.Answered.{IsAnswered, IsStopReply}
use Rattle.session_answers.specs.Inner.Tree.{IsAnsweredTree, TellsUnparsed}
use Rattle.session_answers.specs.Reads.{ReadsOnce}
use Rattle.session_answers.proofs.Counting.{want_refuses}

module _ {D : Type 0} (style : Style) (moment : D → Moment) (start : Start D) (session last : ℕ) (old new : List Event) (text : List ℕ) (reply : Reply) where
  pub tree_is_answered : (tree : Term) → IsAnsweredTree style moment start session old new text tree reply → ((t : Term) → DerivesText text t → AnswersTree (Ok tree) t) →
      ((at : ℕ) (kind : ParseKind) → StopsText text at kind → AnswersStop (Ok tree) at kind) → IsAnswered style moment start session last old new text reply
  tree_is_answered tree a only_tree only_stop = record {
    own = a.own;
    course = a.course;
    pin = a.pin;
    adds = a.adds;
    acts = a.acts;
    began = a.began;
    unpin = a.unpin;
    ended = a.ended;
    line = a.line;
    told = λ t derives. (
      a.later,
      subst (λ (one : Term). IsToldFor moment start session a.pin new a.own text one reply style reply.refusal a.course) (only_tree t derives) a.told,
    );
    until = λ t derives. a.until;
    full = λ t derives is. a.full is;
    stopped = λ at kind stop. absurd (only_stop at kind stop);
  }

module _ {D : Type 0} (style : Style) (moment : D → Moment) (start : Start D) (session last : ℕ) (old : List Event) (text : List ℕ) (reply : Reply) where
  refused_line : (refusal : Option Refusal) → reply.refusal ≡ refusal → HasLine reply refusal → HasLine reply reply.refusal
  refused_line refusal e line = subst (λ (r : Option Refusal). HasLine reply r) (sym e) line

  want_is_whole : IsWant reply → reply.place ≡ length (entries_in old) → IsAnswered style moment start session last old old text reply
  want_is_whole w at = record {
    own = [];
    course = nothing;
    pin = 0;
    adds = courses_may_be_empty session old;
    acts = refl;
    began = tt;
    unpin = 0;
    ended = tt;
    line = refused_line (Some Memory) w.1 w.0;
    told = λ t derives. (
      omega (arith, at),
      subst (λ (r : Option Refusal). IsToldFor moment start session 0 old [] text t reply style r nothing) (sym w.1) tt,
    );
    until = λ t derives. omega (arith, at);
    full = λ t derives is. absurd (cc (w.1, is));
    stopped = λ there why stop. (refl, inr (w, omega (arith, at), omega (arith, at)));
  }

  module _ (at : ℕ) (kind : ParseKind) (only_tree : (t : Term) → DerivesText text t → AnswersTree (Err (stops.At at kind)) t)
      (only_stop : (there : ℕ) (why : ParseKind) → StopsText text there why → AnswersStop (Err (stops.At at kind)) there why) where
    stop_words : words_of reply ≡ refused (Parse at kind) → reply.place ≡ last → (there : ℕ) (why : ParseKind) → (at ≡ there) × (kind ≡ why) →
        IsStopReply last there why reply
    stop_words e place there why same = record {
      words = e ∙ ap (λ (n : ℕ). refused (Parse n kind)) same.0 ∙ ap (λ (k : ParseKind). refused (Parse there k)) same.1;
      place = place;
    }

    stop_is_whole : (mine count : ℕ) → mine ≡ last → count ≡ length (entries_in old) → RefusesAt (Parse at kind) mine count reply →
        IsAnswered style moment start session last old old text reply
    stop_is_whole mine count is_last is_all (inl (e, place)) = record {
      own = [];
      course = nothing;
      pin = 0;
      adds = courses_may_be_empty session old;
      acts = refl;
      began = tt;
      unpin = 0;
      ended = tt;
      line = refused_line (Some (Parse at kind)) (ap (λ (words : Told). words.refusal) e) (ap (λ (words : Told). words.text) e);
      told = λ t derives. absurd (only_tree t derives);
      until = λ t derives. absurd (only_tree t derives);
      full = λ t derives. absurd (only_tree t derives);
      stopped = λ there why stop. (refl, inl (stop_words e (place ∙ is_last) there why (only_stop there why stop)));
    }
    stop_is_whole mine count is_last is_all (inr (w, place)) = record {
      own = [];
      course = nothing;
      pin = 0;
      adds = courses_may_be_empty session old;
      acts = refl;
      began = tt;
      unpin = 0;
      ended = tt;
      line = refused_line (Some Memory) w.1 w.0;
      told = λ t derives. absurd (only_tree t derives);
      until = λ t derives. absurd (only_tree t derives);
      full = λ t derives. absurd (only_tree t derives);
      stopped = λ there why stop. (refl, inr (w, omega (arith, place, is_all), omega (arith, place, is_all)));
    }

  -- whatever kept it from a tree
  pub fault_is_whole : (fault : ParseFault) → ((t : Term) → DerivesText text t → AnswersTree (Err fault) t) →
      ((there : ℕ) (why : ParseKind) → StopsText text there why → AnswersStop (Err fault) there why) →
      (mine count : ℕ) → mine ≡ last → count ≡ length (entries_in old) → TellsUnparsed mine count fault reply → IsAnswered style moment start session last old old text reply
  fault_is_whole (stops.At at kind) only_tree only_stop mine count is_last is_all r = stop_is_whole at kind only_tree only_stop mine count is_last is_all r
  fault_is_whole stops.Memory only_tree only_stop mine count is_last is_all w = want_is_whole w.0 (w.1 ∙ is_all)

  pub fault_reads_none : (fault : ParseFault) → ((t : Term) → DerivesText text t → AnswersTree (Err fault) t) → (mine count : ℕ) → TellsUnparsed mine count fault reply →
      (tree : Term) → DerivesText text tree → (before after : ℕ) → reply.refusal ≡ None → ReadsOnce moment start session old old text tree before after
  fault_reads_none (stops.At at kind) only_tree mine count r tree derives before after accepts = absurd (only_tree tree derives)
  fault_reads_none stops.Memory only_tree mine count w tree derives before after accepts = absurd (want_refuses reply w.0 accepts)
