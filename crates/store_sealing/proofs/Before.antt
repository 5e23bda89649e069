-- A commit is prepared after the note that it is tried.
use Rattle.std.proofs.Common.{◌≡◌, ◌∙◌, ◌+◌, ◌-◌, ◌≤◌, ◌<◌, ◌^◌, ℕ, false, List, length, Option, None, Some, Result, Ok, Err, IfOk, IfSome, OnOk, IsTrue, vec_capacity, refl, sym, ap, subst}
use Rattle.afl_outside.specs.Disk.{Moment}
use Rattle.array_geom.specs.declared.chunk.Changed.{Changed}
use Rattle.std.specs.Option.{is_some}
use Rattle.plan_changes.specs.declared.change.Change.{Change}
use Rattle.plan_changes.specs.declared.change.Change.TheVariants.{Create, Store, Insert, Remove, RemoveVersions}
use Rattle.event_core.specs.Apart.{makes_version}
use Rattle.event_core.specs.Allowed.{is_pinned}
use Rattle.prepared_commits.specs.Written.{Written}
use Rattle.prepared_commits.specs.Changes.{AreValid, ComesWith}
use Rattle.prepared_commits.specs.Versions.{CanBeListed, IsWritten, draft, draft_of}
use Rattle.store_ledger.specs.Ledger.{LedgerState, has_room, history, is_noted, is_tried}
use Rattle.prepared_commits.specs.StoreParts.{StoreParts}
use Rattle.prepared_commits.specs.At.{IsAt, keeping, standing}
use Rattle.prepared_commits.specs.Standings.{Standing}
use Rattle.prepared_commits.specs.Keeping.{Keeping}
use Rattle.prepared_commits.specs.declared.commits.fault.PrepareFault.{PrepareFault}
use Rattle.prepared_commits.specs.declared.commits.fault.PrepareFault.TheVariants.{SequenceEnd, Full, Memory}
use Rattle.prepared_commits.specs.declared.commits.prepared.Prepared.{Prepared}
use Rattle.prepared_commits.specs.Needs.{needs_by, newest_now, next_sequence}
use Rattle.prepared_commits.specs.Prepared.{IsAsked, IsPreparedFor}
use Rattle.prepared_commits.specs.Parts.{IsFullFor, IsPreparedAs, is_short}
use Rattle.store_sealing.specs.Left.{HasNext, IsLeft, tried_now}
use Rattle.store_sealing.proofs.Noted.{at_tried, none_committed, tried_is_noted, was_tried}
use Rattle.store_sealing.proofs.Prepares.{IsBefore, IsFor, NeedsAreCosts, prepared_new}

listed_of : (n : ℕ) (changed : Option Changed) → IfSome changed (λ some. AreValid some → 1 ≤ n → CanBeListed (length some.schema.dimensions) (draft n some)) → IfSome changed AreValid → 1 ≤ n
    → IfSome changed (λ some. CanBeListed (length some.schema.dimensions) (draft n some))
listed_of n None listed valid one = tt
listed_of n (Some some) listed valid one = listed valid one

-- a change makes a version just where chunks come with it
comes_as : (change : Change) (changed : Option Changed) → ComesWith change changed → is_some changed ≡ makes_version change
comes_as (Create name schema) changed none = ap is_some none
comes_as (Store name schema plan) None none = absurd none
comes_as (Store name schema plan) (Some changed) of = refl
comes_as (Insert name schema plan) None none = absurd none
comes_as (Insert name schema plan) (Some changed) of = refl
comes_as (Remove name) changed none = ap is_some none
comes_as (RemoveVersions name below) changed none = ap is_some none

drafted : (n : ℕ) (changed : Option Changed) → is_some (draft_of n changed) ≡ is_some changed
drafted n None = refl
drafted n (Some changed) = refl

pub comes_so : (n : ℕ) (change : Change) (changed : Option Changed) (written : Option Written) → written ≡ draft_of n changed → ComesWith change changed
    → is_some written ≡ makes_version change
comes_so n change changed written spelled comes = ap is_some spelled ∙ drafted n changed ∙ comes_as change changed comes

-- the end is told only where there is no next sequence number
pub has_next : {A : Type 0} (sequence needed : ℕ) (r : Result A PrepareFault) (l : LedgerState) → sequence < 2 ^ 64 - 1 → IsFullFor needed r l → HasNext sequence r
has_next sequence needed (Ok x) l less full = less
has_next sequence needed (Err SequenceEnd) l less full = absurd full
has_next sequence needed (Err (Full most free)) l less full = less
has_next sequence needed (Err Memory) l less full = tt

pub before : {D : Type 0} (moment : D → Moment) (s : Standing D) (k : Keeping) (change : Change) (changed : Option Changed) (session sequence : ℕ) (written : Option Written) (l : LedgerState) → IsAt moment s k
    → IsAsked moment s change changed → sequence ≡ next_sequence s → 1 ≤ sequence → sequence < 2 ^ 64 → IsTrue (is_pinned session (history s.ledger)) → is_noted is_tried s.ledger session ≡ false
    → l ≡ (tried_now session change s).ledger → IsTrue (has_room l 2) → written ≡ draft_of sequence changed → IfSome written IsWritten
    → IfSome changed (λ some. AreValid some → 1 ≤ sequence → CanBeListed (length some.schema.dimensions) (draft sequence some)) → s.ledger.base.limit ≤ 2 ^ 32
    → IsBefore moment (tried_now session change s) k change changed session sequence
before moment s k change changed session sequence written l x asked next one small pinned tried same two spelled ready listed limit = record {
  at = at_tried moment s k session change x;
  asked = record { named = asked.named; typed = asked.typed; comes = asked.comes; valid = asked.valid; told = asked.told };
  next = next;
  small = small;
  pinned = pinned;
  first = none_committed moment s k session x pinned tried;
  noted = tried_is_noted s.ledger session change pinned;
  tried = was_tried s.ledger session change;
  room = subst (λ (m : LedgerState). IsTrue (has_room m 2)) same two;
  written = subst (λ (w : Option Written). IfSome w IsWritten) spelled ready;
  listed = listed_of sequence changed listed asked.valid one;
  records = x.kept.slots.fits;
  limit = limit;
}

pub prepared_for : {D : Type 0} (moment : D → Moment) (s : Standing D) (k : Keeping) (change : Change) (changed : Option Changed) (session sequence : ℕ) (r : Result Prepared PrepareFault) (parts : StoreParts D)
    → IsBefore moment s k change changed session sequence → ((t : Standing D) → IsAt moment t k → NeedsAreCosts moment t k) → keeping parts ≡ k
    → IsLeft (needs_by k.slots.target k.catalog (newest_now s change) change (draft_of sequence changed)) s r (standing moment parts)
    → IsFullFor (needs_by k.slots.target k.catalog (newest_now s change) change (draft_of sequence changed)) r parts.ledger
    → IfOk r (IsPreparedAs k.slots.target sequence k.catalog (newest_now s change) (length k.rows) change (draft_of sequence changed) session parts.ledger)
    → OnOk r ((length parts.acked.items < vec_capacity parts.acked) × (length parts.made.items < vec_capacity parts.made)) → IfOk r (IsPreparedFor moment parts changed)
prepared_for moment s k change changed session sequence (Ok p) parts is costs same left full made room =
    let n : ℕ = needs_by k.slots.target k.catalog (newest_now s change) change (draft_of sequence changed) in
    let new : IsFor moment (standing moment parts) k changed p = prepared_new moment s k change changed session sequence p (is_short n s.ledger) (standing moment parts) left is costs made full in
    let own : IsFor moment (standing moment parts) (keeping parts) changed p = subst (λ (j : Keeping). IsFor moment (standing moment parts) j changed p) (sym same) new in
    record { asked = own.asked; pages = own.pages; laid = own.laid; is_laid = own.is_laid; may_come = own.may_come; acked = room.0; made = room.1 }
prepared_for moment s k change changed session sequence (Err f) parts is costs same left full made room = tt
