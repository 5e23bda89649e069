-- What a pin sees stays, and stores open again.
use Rattle.std.proofs.Common.{◌≡◌, ◌∙◌, ℕ, suc, ◌-◌, ◌≤◌, inl, inr, List, [], ◌∷◌, ◌++◌, drop, length, reverse, Option, None, Some, IfSome, Err, refl, ap, sym, subst, arith, length-append}
use Rattle.std.proofs.lemmas.List.{reverse-append}
use Rattle.arrayvec.specs.ArrayVec.{ArrayVec}
use Rattle.array_geom.specs.declared.chunk.Chunk.{Chunk}
use Rattle.file_meaning.specs.Source.{IsChunkIn, IsStored}
use Rattle.logical_plan.specs.declared.parts.Leaf.{Leaf}
use Rattle.logical_plan.specs.Meaning.{version_rows}
use Rattle.plan_changes.specs.declared.change.Change.{Change}
use Rattle.plan_changes.specs.Databases.{Database, after, rows_of}
use Rattle.file_meaning.proofs.Payloads.{part_stored}
use Rattle.file_meaning.specs.Standing.{HoldsFound, Stands, stored_chunk}
use Rattle.event_core.specs.declared.entry.Entry.{Entry}
use Rattle.event_core.specs.Cells.{at}
use Rattle.event_core.specs.History.{History, up_to}
use Rattle.store_versions.specs.Pins.{PlaceTells}
use Rattle.store_versions.proofs.Pins.{places_tell_pins}
use Rattle.store_ledger.specs.Ledger.{history}
use Rattle.store_state.specs.Calls.{database_with, history_at}
use Rattle.store_state.specs.Laws.{IsNowOf, OpensAgain, PinnedCellsStay, StoresOpenAgain}
use Rattle.store_state.specs.Standings.{IsAttempt, StandsFor}

-- ---- what a pin sees

later_same : (place : ℕ) (entry : Entry) (h : History) → place ≤ length h → up_to place (entry ∷ h) ≡ up_to place h
later_same place entry h within =
    let e : suc (length h) - place ≡ suc (length h - place) = omega (arith, within) in
    ap (λ (n : ℕ). drop n (entry ∷ h)) e

beginning_stays : (later h : History) (place : ℕ) → place ≤ length h → up_to place (later ++ h) ≡ up_to place h
beginning_stays [] h place within = refl
beginning_stays (entry ∷ later) h place within =
    let more : place ≤ length (later ++ h) = omega (arith, within, length-append later h) in
    later_same place entry (later ++ h) more ∙ beginning_stays later h place within

-- a chunk that was read is the one that is stored
chunk_is : (db : Database) (leaf : Leaf) (number : ArrayVec ℕ) (chunk : Chunk) → IsStored leaf.schema number chunk → IsChunkIn (rows_of db) leaf chunk
    → chunk ≡ stored_chunk leaf.schema (version_rows (rows_of db) leaf.name leaf.version) number.items
chunk_is db leaf number chunk stored part =
    part_stored leaf.schema (version_rows (rows_of db) leaf.name leaf.version) chunk stored.valid.framed part
    ∙ ap (λ (n : ArrayVec ℕ). stored_chunk leaf.schema (version_rows (rows_of db) leaf.name leaf.version) n.items) stored.number

pub pinned_cells : (D : Type 0) → PinnedCellsStay D
pinned_cells D db s t later pinned leaf number first second grown o stored_first told_first stored_second told_second =
    let h : History = history s.ledger in
    let tells : PlaceTells h o.before = places_tell_pins pinned.session h o.before o.begun in
    let within : pinned.place ≤ length h = omega (arith, o.place, tells.within) in
    let stays : history_at t pinned.place ≡ history_at s pinned.place =
    ap (λ (entries : List Entry). up_to pinned.place (reverse entries)) grown ∙ ap (up_to pinned.place) (reverse-append s.ledger.entries later)
    ∙ beginning_stays (reverse later) h pinned.place within in
    let same : database_with db t pinned.place ≡ database_with db s pinned.place = ap (at db) stays in
    chunk_is (database_with db s pinned.place) leaf number first stored_first told_first
    ∙ sym (chunk_is (database_with db s pinned.place) leaf number second stored_second (subst (λ (d : Database). IsChunkIn (rows_of d) leaf second) same told_second))

-- ---- stores open again

pub open_again : StoresOpenAgain
open_again db notes least h image x = by_more x.more x.tried x.stands
  where
    opens : (more : Option Change) → IfSome more (IsAttempt db notes x.before) → (now : Database) → IsNowOf (at db x.before) more now → Stands image now → OpensAgain db notes least h image
    opens more tried now is stands = record {
      later = x.later;
      before = x.before;
      part = x.part;
      enough = x.enough;
      more = more;
      tried = tried;
      now = now;
      is = is;
      right = λ page wrong. let no : HoldsFound image now (Err page) = subst (HoldsFound image now) wrong stands.holds in no;
      begins = λ opened honest tells. record { honest = honest; file = image; tells = tells; stands = stands };
    }

    by_more : (more : Option Change) → IfSome more (IsAttempt db notes x.before) → StandsFor (at db x.before) more image → OpensAgain db notes least h image
    by_more None tried stands = opens None tried (at db x.before) refl stands
    by_more (Some change) tried (inl stands) = opens (Some change) tried (at db x.before) (inl refl) stands
    by_more (Some change) tried (inr stands) = opens (Some change) tried (after (at db x.before) change) (inr refl) stands
