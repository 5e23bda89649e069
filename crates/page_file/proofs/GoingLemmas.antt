-- How the calls of a commit go on.
use Rattle.std.proofs.Common.{◌≡◌, ◌⊎◌, ◌≤◌, inl, inr, ⊎_elim, ℕ, ◌+◌, Bool, List, [], ◌∷◌, IsTrue, Option, Some, None, IfSome, refl, sym, ◌∙◌, subst, arith}
use Rattle.afl_outside.specs.Disk.{LeavesOnly, Moment, DiskGoesOn, Only}
use Rattle.page_chain.specs.Places.{IsNone, KeepsPages}
use Rattle.page_chain.specs.Opens.{OpensAs}
use Rattle.page_chain.specs.Inner.Runs.{OnlyWrites, Over, Sees}
use Rattle.page_chain.proofs.Kept.{keeps_on, keeps_more}
use Rattle.page_chain.proofs.RunLemmas.{goes}
use Rattle.page_chain.specs.Puts.{OnlyPuts}
use Rattle.page_chain.specs.Standing.{gate_place, target_page, IsClosed, IsDurable, IsSound, IsTarget, KeepsSound, LeavesOpening, MayOpen}
use Rattle.page_chain.specs.Steps.{emptied}
use Rattle.page_chain.specs.declared.slots.slots.slots.Slots.{Slots}
use Rattle.page_chain.proofs.Lies.{has_target}
use Rattle.page_chain.proofs.Settling.{settled}
use Rattle.page_file.specs.Written.{MayWrite}
use Rattle.page_file.proofs.Kept.{at_some}
use Rattle.page_file.proofs.Emptied.{still_root, still_entry}
use Rattle.page_file.proofs.Puts.{put_writes, put_sees}
use Rattle.page_file.proofs.Stays.{writes_opens}
use Rattle.page_file.specs.Inner.Going.{Goes}
use Rattle.page_file.specs.Commits.{HoldsAll, commit_pages}
use Rattle.page_file.specs.Moments.{IsKnown, StaysKnown, MayBe}
use Rattle.page_file.specs.declared.commits.placed.Placed.{Placed}
use Rattle.page_file.proofs.BlobLemmas.{all_on, first_of}

both : (a b : ℕ) (past since : ℕ → List ℕ → Type 0) (P Q : List ℕ → Type 0) → LeavesOnly a b past since P → LeavesOnly a b past since Q → LeavesOnly a b past since (λ c. P c × Q c)
both a b past since P Q p q = record {
  later = p.later;
  each = λ c left. (p.each c left, q.each c left);
  earlier = λ t c le left. ⊎_elim inl (λ x. ⊎_elim inl (λ y. inr (x, y)) (q.earlier t c le left)) (p.earlier t c le left);
}

pub wrote : (pages : List ℕ) (P : List ℕ → Type 0) (old new : Moment) → OnlyWrites pages old new → LeavesOnly old.state.moment new.state.moment old.left_since new.left_since P → Goes pages P old new
wrote pages P old new writes time = record {
  same = writes.same;
  crash = writes.crash;
  time = both old.state.moment new.state.moment old.left_since new.left_since (Over pages old.may_leave) P writes.time time;
}

pub widen : (pages : List ℕ) (P Q : List ℕ → Type 0) (old new : Moment) → ((c : List ℕ) → Over pages old.may_leave c → P c → Q c) → Goes pages P old new → Goes pages Q old new
widen pages P Q old new more p = record {
  same = p.same;
  crash = p.crash;
  time = record {
    later = p.time.later;
    each = λ c left. let h = p.time.each c left in (h.0, more c h.0 h.1);
    earlier = λ t c le left. ⊎_elim inl (λ h. inr (h.0, more c h.0 h.1)) (p.time.earlier t c le left);
  };
}

-- two runs, one after the other
pub run_on : (a b c : ℕ) (past mid since : ℕ → List ℕ → Type 0) (P Q R : List ℕ → Type 0) → ((x : List ℕ) → P x → R x) → ((x : List ℕ) → Q x → R x)
    → LeavesOnly a b past mid P → LeavesOnly b c mid since Q → LeavesOnly a c past since R
run_on a b c past mid since P Q R one other p q = record {
  later = omega (arith, p.later, q.later);
  each = λ x left. ⊎_elim (λ m. one x (p.each x m)) (other x) (q.earlier a x p.later left);
  earlier = λ t x le left. ⊎_elim (λ m. ⊎_elim inl (λ h. inr (one x h)) (p.earlier t x le m)) (λ h. inr (other x h)) (q.earlier t x (omega (arith, le, p.later)) left);
}

-- an image now is one of those over pages before
pub lower : (few more many : List ℕ) (before between : List ℕ → Type 0) → ((n : ℕ) → IsNone many n → IsNone few n) → ((n : ℕ) → IsNone many n → IsNone more n)
    → ((x : List ℕ) → between x → Over few before x) → (x : List ℕ) → Over more between x → Over many before x
lower few more many before between fewer others crash x over =
    let under = crash over.0 over.1 in
    (under.0, under.1, keeps_on many under.0 over.0 x (keeps_more few many under.0 over.0 fewer under.2) (keeps_more more many over.0 x others over.2))

pub goes_then : (few more many : List ℕ) (P Q R : List ℕ → Type 0) (a b c : Moment) → ((n : ℕ) → IsNone many n → IsNone few n) → ((n : ℕ) → IsNone many n → IsNone more n)
    → ((x : List ℕ) → P x → R x) → ((x : List ℕ) → Q x → R x) → Goes few P a b → Goes more Q b c → Goes many R a c
goes_then few more many P Q R a b c fewer others one next p q = record {
  same = goes a.state b.state c.state p.same q.same;
  crash = λ x left. down x (q.crash x left);
  time = run_on a.state.moment b.state.moment c.state.moment a.left_since b.left_since c.left_since (λ x. Over few a.may_leave x × P x) (λ x. Over more b.may_leave x × Q x) (λ x. Over many a.may_leave x × R x)
      (λ x h. (up x h.0, one x h.1)) (λ x h. (down x h.0, next x h.1)) p.time q.time;
}
  where
    up : (x : List ℕ) → Over few a.may_leave x → Over many a.may_leave x
    up x over = (over.0, over.1, keeps_more few many over.0 x fewer over.2)

    down : (x : List ℕ) → Over more b.may_leave x → Over many a.may_leave x
    down x over = lower few more many a.may_leave b.may_leave fewer others p.crash x over

-- each image now is one of those of the moments since
pub image_of : (pages : List ℕ) (P : List ℕ → Type 0) (old new : Moment) → ((t : ℕ) (c : List ℕ) → t ≤ new.state.moment → new.may_leave c → new.left_since t c) → Goes pages P old new
    → (c : List ℕ) → new.may_leave c → Over pages old.may_leave c × P c
image_of pages P old new counts went c left = went.time.each c (counts old.state.moment c went.time.later left)

pub stays_known : (slots later : Slots) (old new : Moment) → DiskGoesOn old.state new.state → KeepsSound slots later old new → StaysKnown slots later old new
stays_known slots later old new same sound = λ seen known.
    let s = at_some old.state.seen seen (λ x. IsSound slots x old.may_leave → (now : List ℕ) × (new.state.seen ≡ Some now) × IsSound later now new.may_leave) known.tells (sound known.honest) known.sound in
    (s.0, record { honest = subst (λ (x : Bool). IsTrue x) (sym same.honest) known.honest; tells = s.1; sound = s.2 })

-- bytes of the target were put
pub put_goes : (slots during : Slots) (page at n : ℕ) (seen : List ℕ) (old new : Moment) → page ≡ target_page slots.target slots → IsKnown slots seen old → IsTarget slots → IfSome old.state.seen old.may_leave
    → gate_place slots.target slots ≤ at → at + n ≤ gate_place slots.target slots + 32 → OnlyPuts at n old new → LeavesOpening slots during old new → Goes (page ∷ []) (MayOpen during) old new
put_goes slots during page at n seen old new is known there read low high put opens =
    let here = at_some old.state.seen seen old.may_leave known.tells read in
    let place = has_target slots seen there (known.sound.images seen here) in
    subst (λ (p : ℕ). Goes (p ∷ []) (MayOpen during) old new) (sym is) (wrote (target_page slots.target slots ∷ []) (MayOpen during) old new
    (put_writes (target_page slots.target slots) at n old.state new.state old.left_since new.left_since old.may_leave new.may_leave (omega (arith, place.from, low)) (omega (arith, place.to, high))
    (λ d left. (has_target slots d there (known.sound.images d left)).whole) put)
    (at_some old.state.seen seen (λ s. IsSound slots s old.may_leave → LeavesOnly old.state.moment new.state.moment old.left_since new.left_since (MayOpen during)) known.tells (opens known.honest) known.sound))

pub put_keeps : (slots : Slots) (page at n : ℕ) (seen : List ℕ) (old new : Moment) → page ≡ target_page slots.target slots → IsKnown slots seen old → IsTarget slots → IfSome old.state.seen old.may_leave
    → gate_place slots.target slots ≤ at → at + n ≤ gate_place slots.target slots + 32 → OnlyPuts at n old new → Sees old.state new.state (KeepsPages (page ∷ []))
put_keeps slots page at n seen old new is known there read low high put =
    let here = at_some old.state.seen seen old.may_leave known.tells read in
    let place = has_target slots seen there (known.sound.images seen here) in
    subst (λ (p : ℕ). Sees old.state new.state (KeepsPages (p ∷ []))) (sym is)
    (put_sees (target_page slots.target slots) at n old.state new.state old.may_leave (omega (arith, place.from, low)) (omega (arith, place.to, high)) (λ d left. (has_target slots d there (known.sound.images d left)).whole) read put.seen)

-- what each page had stands in each image behind a put that is durable
pub put_holds : (page : ℕ) (blobs : List Placed) (chain : Placed) (x : List ℕ) (old new : Moment) → IsTrue old.state.honest → old.state.seen ≡ Some x → IsNone (commit_pages blobs chain) page → HoldsAll x blobs chain
    → Sees old.state new.state (KeepsPages (page ∷ [])) → IsDurable old new → (c : List ℕ) → new.may_leave c → HoldsAll c blobs chain
put_holds page blobs chain x old new honest tells none holds sees durable c left =
    let s = at_some old.state.seen x (λ y. (now : List ℕ) × (new.state.seen ≡ Some now) × KeepsPages (page ∷ []) y now) tells (sees honest) in
    let d = at_some old.state.seen x (λ y. (now : List ℕ) × (new.state.seen ≡ Some now) × Only now new.may_leave) tells (durable honest) in
    let one : d.0 ≡ s.0 = cc (d.1, s.1) in
    subst (λ (y : List ℕ). HoldsAll y blobs chain) (sym (d.2 c left ∙ one)) (all_on page blobs chain x s.0 none s.2 holds)

-- pages were written
pub pages_go : (slots : Slots) (pages seen : List ℕ) (old new : Moment) → IsKnown slots seen old → IsClosed slots → MayWrite pages slots → OnlyWrites pages old new → Goes pages (OpensAs slots.current slots.records) old new
pages_go slots pages seen old new known closed may writes =
    widen pages (MayOpen (emptied slots)) (OpensAs slots.current slots.records) old new
    (λ c over opens. settled (emptied slots) c (still_root slots.other (known.sound.sure closed.sure).0) (still_entry slots.next (known.sound.sure closed.sure).1) opens)
    (wrote pages (MayOpen (emptied slots)) old new writes
    (at_some old.state.seen seen (λ s. IsSound slots s old.may_leave → LeavesOnly old.state.moment new.state.moment old.left_since new.left_since (MayOpen (emptied slots))) known.tells
    (writes_opens slots pages old.state new.state old.left_since new.left_since old.may_leave new.may_leave closed may writes known.honest) known.sound))

pub sound_self : (slots : Slots) (m : Moment) → KeepsSound slots slots m m
sound_self slots m = λ honest. each m.state.seen refl
  where
    each : (o : Option (List ℕ)) → m.state.seen ≡ o → IfSome o (λ seen. IsSound slots seen m.may_leave → (now : List ℕ) × (m.state.seen ≡ Some now) × IsSound slots now m.may_leave)
    each None is = tt
    each (Some x) is = λ sound. (x, is, sound)

-- the slot was closed, and then the rest went on
pub during_is : (page : ℕ) (pages : List ℕ) (slots : Slots) (New Q : List ℕ → Type 0) (a b c : Moment) → ((x : List ℕ) → Q x → OpensAs slots.current slots.records x ⊎ New x)
    → Goes (page ∷ []) (MayOpen slots) a b → Goes (page ∷ pages) Q b c
    → LeavesOnly a.state.moment c.state.moment a.left_since c.left_since (MayBe page pages slots New a.may_leave)
during_is page pages slots New Q a b c more p q =
    run_on a.state.moment b.state.moment c.state.moment a.left_since b.left_since c.left_since (λ x. Over (page ∷ []) a.may_leave x × MayOpen slots x) (λ x. Over (page ∷ pages) b.may_leave x × Q x) (MayBe page pages slots New a.may_leave)
    (λ x h. inl h) then_ p.time q.time
  where
    then_ : (x : List ℕ) → (Over (page ∷ pages) b.may_leave x × Q x) → MayBe page pages slots New a.may_leave x
    then_ x h =
        let over = lower (page ∷ []) (page ∷ pages) (page ∷ pages) a.may_leave b.may_leave (first_of (page ∷ []) pages) (λ n none. none) p.crash x h.0 in
        ⊎_elim (λ o. inr (inl (over, o))) (λ n. inr (inr (over, n))) (more x h.1)

-- the slot wasn't closed
pub closing_is : (page : ℕ) (pages : List ℕ) (slots : Slots) (New : List ℕ → Type 0) (a b : Moment) → Goes (page ∷ []) (MayOpen slots) a b
    → LeavesOnly a.state.moment b.state.moment a.left_since b.left_since (MayBe page pages slots New a.may_leave)
closing_is page pages slots New a b p = record {
  later = p.time.later;
  each = λ c left. inl (p.time.each c left);
  earlier = λ t c le left. ⊎_elim inl (λ h. inr (inl h)) (p.time.earlier t c le left);
}

-- an image behind both
pub left_is : (page : ℕ) (pages : List ℕ) (P Q : List ℕ → Type 0) (a b c : Moment) → ((t : ℕ) (x : List ℕ) → t ≤ c.state.moment → c.may_leave x → c.left_since t x)
    → Goes (page ∷ []) P a b → Goes (page ∷ pages) Q b c → (x : List ℕ) → c.may_leave x → Over (page ∷ pages) a.may_leave x × Q x
left_is page pages P Q a b c counts p q x left =
    let h = image_of (page ∷ pages) Q b c counts q x left in
    (lower (page ∷ []) (page ∷ pages) (page ∷ pages) a.may_leave b.may_leave (first_of (page ∷ []) pages) (λ n none. none) p.crash x h.0, h.1)

pub more_pages : (few many : List ℕ) (P : List ℕ → Type 0) (old new : Moment) → ((n : ℕ) → IsNone many n → IsNone few n) → Goes few P old new → Goes many P old new
more_pages few many P old new fewer p = record {
  same = p.same;
  crash = λ c left. up c (p.crash c left);
  time = record {
    later = p.time.later;
    each = λ c left. let h = p.time.each c left in (up c h.0, h.1);
    earlier = λ t c le left. ⊎_elim inl (λ h. inr (up c h.0, h.1)) (p.time.earlier t c le left);
  };
}
  where
    up : (x : List ℕ) → Over few old.may_leave x → Over many old.may_leave x
    up x over = (over.0, over.1, keeps_more few many over.0 x fewer over.2)

pub reread_of : (pages seen : List ℕ) (slots : Slots) (old new : Moment) → IsKnown slots seen old → Sees old.state new.state (KeepsPages pages) → (now : List ℕ) × (new.state.seen ≡ Some now) × KeepsPages pages seen now
reread_of pages seen slots old new known sees = at_some old.state.seen seen (λ y. (now : List ℕ) × (new.state.seen ≡ Some now) × KeepsPages pages y now) known.tells (sees known.honest)

pub reread_then : (few more many seen x y : List ℕ) (b c : Moment) → ((n : ℕ) → IsNone many n → IsNone few n) → ((n : ℕ) → IsNone many n → IsNone more n) → b.state.seen ≡ Some x → b.state.seen ≡ Some y → KeepsPages few seen x
    → ((now : List ℕ) × (c.state.seen ≡ Some now) × KeepsPages more y now) → (now : List ℕ) × (c.state.seen ≡ Some now) × KeepsPages many seen now
reread_then few more many seen x y b c fewer others first second keeps next =
    let same : y ≡ x = cc (first, second) in
    (next.0, next.1, keeps_on many seen x next.0 (keeps_more few many seen x fewer keeps) (keeps_more more many x next.0 others (subst (λ (l : List ℕ). KeepsPages more l next.0) same next.2)))
