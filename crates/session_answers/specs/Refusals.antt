-- How a reply refuses.
use Rattle.std.specs.Prelude.{◌≡◌, ◌≤◌, ◌⊎◌, ℕ, List, [], length, Some}
use Rattle.chunk_source.specs.declared.reading.fault.ExecFault.{ExecFault}
use Rattle.chunk_source.specs.declared.reading.fault.ExecFault.TheVariants as reads
use Rattle.result_print.specs.declared.refusal.Refusal.{Refusal}
use Rattle.result_print.specs.declared.refusal.Refusal.TheVariants.{Disk, Damaged, SequenceEnd, Full, Memory}
use Rattle.statement_replies.specs.Reply.{refused}
use Rattle.store_state.specs.declared.state.event.Event.{Event}
use Rattle.array_store.specs.declared.told.commits.fault.CommitFault.{CommitFault}
use Rattle.array_store.specs.declared.told.commits.fault.CommitFault.TheVariants as commits
use Rattle.array_store.specs.Told.{entries_in}
use Rattle.session_answers.specs.Replies.{words_of}
use Rattle.session_answers.specs.declared.replies.reply.Reply.{Reply}

-- no memory was found for it
abbrev pub IsWant : Reply → Type 0
IsWant reply = (reply.text ≡ []) × (reply.refusal ≡ Some Memory)

-- no memory was found for it, and its place is behind all that its session had seen before, and among what it has seen then
abbrev pub IsWantBetween : List Event → List Event → Reply → Type 0
IsWantBetween old new reply = IsWant reply × (length (entries_in old) ≤ reply.place) × (reply.place ≤ length (entries_in new))

-- it tells this refusal, by its line, at a place; or at another one that no memory was found for that
abbrev pub RefusesAt : Refusal → ℕ → ℕ → Reply → Type 0
RefusesAt refusal place seen reply = ((words_of reply ≡ refused refusal) × (reply.place ≡ place)) ⊎ (IsWant reply × (reply.place ≡ seen))

-- it tells this refusal, by its line, if memory was found for that
abbrev pub Refuses : Refusal → Reply → Type 0
Refuses refusal reply = (words_of reply ≡ refused refusal) ⊎ IsWant reply

-- it tells why a source gave no answer
abbrev pub IsUnreadReply : ExecFault → Reply → Type 0
IsUnreadReply reads.Source reply = Refuses Disk reply
IsUnreadReply (reads.Damaged page) reply = Refuses (Damaged page) reply
IsUnreadReply reads.Memory reply = IsWant reply

-- it tells why a change was not committed, at the place of that; want of memory has none, and this one is taken
abbrev pub IsUncommittedReply : ℕ → CommitFault → Reply → Type 0
IsUncommittedReply seen (commits.SequenceEnd place) reply = Refuses SequenceEnd reply × (reply.place ≡ place)
IsUncommittedReply seen (commits.Full needed free place) reply = Refuses (Full needed free) reply × (reply.place ≡ place)
IsUncommittedReply seen (commits.Disk place) reply = Refuses Disk reply × (reply.place ≡ place)
IsUncommittedReply seen commits.Memory reply = IsWant reply × (reply.place ≡ seen)
