-- Which databases an image of any moment of a commit stands for.
use Rattle.std.proofs.Common.{inl, inr, ⊎_elim, ◌≤◌, ℕ, ◌+◌, List, [], ◌∷◌, length, None, Some, refl, arith}
use Rattle.afl_outside.specs.Disk.{LeavesOnly, Moment}
use Rattle.page_chain.specs.Places.{other}
use Rattle.page_chain.specs.declared.slots.slots.slots.Slots.{Slots}
use Rattle.plan_changes.specs.declared.change.Change.{Change}
use Rattle.plan_changes.specs.Databases.{Database, after}
use Rattle.page_file.specs.Commits.{base_pages, commit_pages, record_of, root_of}
use Rattle.page_file.specs.Moments.{HasRecord, IsOpened, MayBe, MayHaveBase}
use Rattle.event_core.specs.Cells.{at}
use Rattle.event_core.specs.History.{History}
use Rattle.file_meaning.specs.Opening.{sequence_of}
use Rattle.file_meaning.specs.Standing.{Stands}
use Rattle.store_state.specs.LaidLaws.{LaidRecordsMakeNext, LaidBasesMakeNext, OpenedFilesStand, OpenedRootsStand}
use Rattle.store_state.specs.LaidPremises.{made_of}
use Rattle.file_meaning.specs.NextLaws.{WritesLeaveStanding}
use Rattle.file_meaning.specs.Next.{with_base, with_record}
use Rattle.file_meaning.specs.Premises.{MayChange, slots_with}
use Rattle.store_ledger.specs.declared.note.Note.{Note}
use Rattle.store_state.specs.Cells.{IsImage}
use Rattle.store_state.specs.Standings.{HaveStood, IsSound, StoodFor, current_slots}
use Rattle.store_sealing.specs.ImagesLaws.{ImagesHaveStood, RecordsHaveStood, BasesHaveStood, HaveStoodOver, HaveStoodNow}
use Rattle.store_sealing.proofs.ImageLaws.{untouched_images, unopened_images}
use Rattle.store_sealing.proofs.Laid.{laid_records_stand, laid_bases_stand}

-- ---- an image

pub images_have_stood : WritesLeaveStanding → OpenedFilesStand → OpenedRootsStand → ImagesHaveStood
images_have_stood writes own torn base given db notes h slots doubt found page pages change image store may same sound next_sound (inl now) =
    let i = untouched_images writes own torn base given db h slots doubt found page now.0.0 image store (record { its = may.its; unnamed = tt }) same now.0.1 now.0.2 now.1 in
    record { later = []; before = h; part = refl; enough = omega arith; more = doubt; tried = sound; stands = i.stands }
images_have_stood writes own torn base given db notes h slots doubt found page pages change image store may same sound next_sound (inr (inl now)) =
    let i = unopened_images writes own base given db h slots slots doubt found page pages now.0.0 image store may now.0.1 now.0.2 now.1 refl in
    record { later = []; before = h; part = refl; enough = omega arith; more = None; tried = tt; stands = i.stands }
images_have_stood writes own torn base given db notes h slots doubt found page pages change image store may same sound next_sound (inr (inr now)) =
    record { later = []; before = h; part = refl; enough = omega arith; more = Some change; tried = next_sound; stands = inr now.1 }

is_sound : (db : Database) (change : Change) → MayChange db change → IsSound db change
is_sound db change may = record { typed = may.typed; whole = may.sound }

may_be : (page : ℕ) (pages : List ℕ) (slots : Slots) (P Q before : List ℕ → Type 0) (c : List ℕ) → (IsOpened (page ∷ pages) P before c → Q c) → MayBe page pages slots P before c → MayBe page pages slots Q before c
may_be page pages slots P Q before c go (inl now) = inl now
may_be page pages slots P Q before c go (inr (inl now)) = inr (inl now)
may_be page pages slots P Q before c go (inr (inr now)) = inr (inr (now.0, go now))

pub records_have_stood : WritesLeaveStanding → OpenedFilesStand → OpenedRootsStand → LaidRecordsMakeNext → RecordsHaveStood
records_have_stood writes own torn make base given db notes h slots doubt found any change changed newest catalogue pages laid image store may same sound tried commit is now =
    let its : List ℕ = commit_pages laid.blobs laid.chain in
    let log : ℕ = slots.current.root.log in
    let before : List ℕ → Type 0 = IsImage base.core given db h slots doubt found in
    images_have_stood writes own torn base given db notes h slots doubt found log its change image store may same sound (record { sound = is_sound (at db h) change commit.may; tried = tried })
    (may_be log its slots (HasRecord slots laid.blobs laid.chain) (λ c. Stands c (after (at db h) change)) before image
    (λ (o : IsOpened (log ∷ its) (HasRecord slots laid.blobs laid.chain) before image).
    (own image (slots_with (current_slots slots) (record_of laid.chain)) (after (at db h) change) (with_record found laid.chain.pages change (made_of laid))
    (laid_records_stand make base given db h slots doubt found any o.0.0 image change changed newest catalogue pages laid commit is o.0.1 o.0.2 o.1.1) o.1.0).1) now)

pub bases_have_stood : WritesLeaveStanding → OpenedFilesStand → OpenedRootsStand → LaidBasesMakeNext → BasesHaveStood
bases_have_stood writes own torn make base given db notes h slots doubt found any change changed newest pages log laid image store may same sound tried commit is now =
    let its : List ℕ = base_pages laid.blobs laid.chain log in
    let sequence : ℕ = sequence_of (current_slots slots) + 1 in
    let before : List ℕ → Type 0 = IsImage base.core given db h slots doubt found in
    images_have_stood writes own torn base given db notes h slots doubt found 0 its change image store may same sound (record { sound = is_sound (at db h) change commit.may; tried = tried })
    (may_be 0 its slots (MayHaveBase slots laid.blobs laid.chain sequence log) (λ c. Stands c (after (at db h) change)) before image
    (λ (o : IsOpened (0 ∷ its) (MayHaveBase slots laid.blobs laid.chain sequence log) before image).
    (torn image (other slots.current.side) (root_of sequence laid.chain log) (after (at db h) change) (with_base found laid.chain.pages change (made_of laid))
    (laid_bases_stand make base given db h slots doubt found any o.0.0 image change changed newest pages log laid commit is o.0.1 o.0.2 o.1.1) o.1.0).1) now)

-- ---- moments

fewer : (db : Database) (notes : List Note) (h : History) (least : ℕ) (image : List ℕ) → least ≤ length h → StoodFor db notes (length h) h image → StoodFor db notes least h image
fewer db notes h least image le x = record {
  later = x.later;
  before = x.before;
  part = x.part;
  enough = omega (arith, le, x.enough);
  more = x.more;
  tried = x.tried;
  stands = x.stands;
}

-- what has stood goes on to over moments whose images have P
pub have_stood_by : (P : List ℕ → Type 0) (old new : Moment) (db : Database) (notes : List Note) (h : History) (least since : ℕ) → ((image : List ℕ) → P image → StoodFor db notes (length h) h image)
    → LeavesOnly old.state.moment new.state.moment old.left_since new.left_since P → HaveStood old db notes h least since → HaveStood new db notes h least since
have_stood_by P old new db notes h least since stand time x = record {
  gone = omega (arith, x.gone, time.later);
  made = x.made;
  images = λ image left. ⊎_elim (λ past. x.images image past) (λ here. fewer db notes h least image x.made (stand image here)) (time.earlier since image x.gone left);
}

pub have_stood_over : (old new : Moment) → HaveStoodOver old new
have_stood_over old new db notes h least since time x = have_stood_by (StoodFor db notes (length h) h) old new db notes h least since (λ image here. here) time x

pub have_stood_now : (now : Moment) → ((image : List ℕ) → now.left_since now.state.moment image → now.may_leave image) → HaveStoodNow now
have_stood_now now only db notes h stand = record {
  gone = omega arith;
  made = omega arith;
  images = λ image left. record { later = []; before = h; part = refl; enough = omega arith; more = None; tried = tt; stands = stand image (only image left) };
}
