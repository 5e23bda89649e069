-- The reply to a statement that is too long.
use Rattle.std.proofs.Common.{◌≡◌, ◌∙◌, ◌≤◌, ℕ, List, length, inl, inr, ap, sym, subst, arith}
use Rattle.result_print.specs.declared.refusal.Refusal.TheVariants.{TooLong}
use Rattle.statement_replies.specs.Reply.{too_long}
use Rattle.store_state.specs.declared.state.event.Event.{Event}
use Rattle.session_answers.specs.Refusals.{RefusesAt}
use Rattle.session_answers.specs.declared.replies.reply.Reply.{Reply}
use Rattle.snapshot_manager.specs.Told.{entries_in}
use Rattle.afl_session.specs.Marked.{IsTooLongReply}

-- by its number of bytes, the place of the last reply, and how many entries were seen, as they were found
pub too_long_is : (old new : List Event) (last mine count bytes many : ℕ) (reply : Reply) → new ≡ old → mine ≡ last → count ≡ length (entries_in old) → bytes ≡ many →
    RefusesAt (TooLong bytes) mine count reply → IsTooLongReply old new last many reply
too_long_is old new last mine count bytes many reply same is_last is_all is_long (inl (e, place)) =
    record { same = same; words = inl (e ∙ ap too_long is_long, place ∙ is_last) }
too_long_is old new last mine count bytes many reply same is_last is_all is_long (inr (w, place)) = record {
  same = same;
  words = inr (
    w,
    omega (arith, place, is_all),
    subst (λ (es : List Event). reply.place ≤ length (entries_in es)) (sym same) (omega (arith, place, is_all)),
  );
}
