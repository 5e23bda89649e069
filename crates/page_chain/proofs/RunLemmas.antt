-- How runs of calls of a disk go on.
use Rattle.std.proofs.Common.{◌≡◌, ◌≤◌, inl, inr, ⊎_elim, ℕ, List, ◌+◌, ◌++◌, length, refl, sym, ◌∙◌, ap, subst, arith, length-append}
use Rattle.std.proofs.lemmas.List.{get_or_append_left, get_or-append-add}
use Rattle.std.specs.Prelude.{IsTrue, IfSome, Some, None, Ok, Err, IsErrOf}
use Rattle.std.specs.declared.option.Option.{Option}
use Rattle.afl_outside.specs.Counts.{Rose}
use Rattle.afl_outside.specs.Disk.{DiskState, DiskGoesOn, Elapses, LeavesOnly, Follows}
use Rattle.afl_outside.proofs.Moments.{started, goes_on, moment_at}
use Rattle.page_chain.specs.Places.{IsNone, KeepsPages}
use Rattle.page_chain.specs.Inner.Runs.{OnlyReads, OnlyWrites, Over, Sees}
use Rattle.page_chain.specs.declared.fault.BlobFault.TheVariants as faults
use Rattle.page_chain.specs.declared.fault.OpenCause.TheVariants as causes
use Rattle.page_chain.specs.declared.fault.Stopped.TheVariants as stops
use Rattle.page_chain.proofs.Kept.{keeps_self, keeps_on, keeps_more}

pub stands : (s : DiskState) → DiskGoesOn s s
stands s = record { name = refl; first = refl; honest = refl; later = omega arith; wants_later = omega arith }

pub goes : (a b c : DiskState) → DiskGoesOn a b → DiskGoesOn b c → DiskGoesOn a c
goes a b c p q = record {
  name = q.name ∙ p.name;
  first = q.first ∙ p.first;
  honest = q.honest ∙ p.honest;
  later = omega (arith, p.later, q.later);
  wants_later = omega (arith, p.wants_later, q.wants_later);
}

-- two runs, one after the other
run_on : (a b c : ℕ) (past mid since : ℕ → List ℕ → Type 0) (P Q R : List ℕ → Type 0) → ((x : List ℕ) → P x → R x) → ((x : List ℕ) → Q x → R x)
    → LeavesOnly a b past mid P → LeavesOnly b c mid since Q → LeavesOnly a c past since R
run_on a b c past mid since P Q R one other p q = record {
  later = omega (arith, p.later, q.later);
  each = λ x left. ⊎_elim (λ m. one x (p.each x m)) (other x) (q.earlier a x p.later left);
  earlier = λ t x le left. ⊎_elim (λ m. ⊎_elim inl (λ h. inr (one x h)) (p.earlier t x le m)) (λ h. inr (other x h)) (q.earlier t x (omega (arith, le, p.later)) left);
}

-- no call
pub reads_none : (s : DiskState) (past : ℕ → List ℕ → Type 0) (before : List ℕ → Type 0) → ((c : List ℕ) → past s.moment c → before c) → OnlyReads (moment_at s past before) (moment_at s past before)
reads_none s past before only = record { seen = refl; same = stands s; crash = λ c left. left; time = started s.moment past before only }

-- one call that reads
pub reads_once : (old new : DiskState) (past since : ℕ → List ℕ → Type 0) (before now : List ℕ → Type 0) → ((c : List ℕ) → past old.moment c → before c)
    → new.seen ≡ old.seen → DiskGoesOn old new → ((c : List ℕ) → now c → before c) → Elapses old.moment new.moment past since now → OnlyReads (moment_at old past before) (moment_at new since now)
reads_once old new past since before now only seen same crash time = record {
  seen = seen;
  same = same;
  crash = crash;
  time = goes_on old.moment old.moment new.moment past past since now before (started old.moment past before only) time crash;
}

pub reads_on : (a b c : DiskState) (past mid since : ℕ → List ℕ → Type 0) (before between now : List ℕ → Type 0)
    → OnlyReads (moment_at a past before) (moment_at b mid between) → OnlyReads (moment_at b mid between) (moment_at c since now) → OnlyReads (moment_at a past before) (moment_at c since now)
reads_on a b c past mid since before between now p q = record {
  seen = q.seen ∙ p.seen;
  same = goes a b c p.same q.same;
  crash = λ x left. p.crash x (q.crash x left);
  time = run_on a.moment b.moment c.moment past mid since before between before (λ x h. h) p.crash p.time q.time;
}

pub writes_none : (pages : List ℕ) (s : DiskState) (past : ℕ → List ℕ → Type 0) (before : List ℕ → Type 0) → ((c : List ℕ) → past s.moment c → before c) → OnlyWrites pages (moment_at s past before) (moment_at s past before)
writes_none pages s past before only = record {
  same = stands s;
  crash = λ c left. (c, left, keeps_self pages c);
  time = started s.moment past (Over pages before) (λ c left. (c, only c left, keeps_self pages c));
}

-- one call that writes these pages
pub writes_once : (pages : List ℕ) (old new : DiskState) (past since : ℕ → List ℕ → Type 0) (before now : List ℕ → Type 0) → ((c : List ℕ) → past old.moment c → before c)
    → DiskGoesOn old new → Follows (KeepsPages pages) before now → Elapses old.moment new.moment past since now → OnlyWrites pages (moment_at old past before) (moment_at new since now)
writes_once pages old new past since before now only same crash time = record {
  same = same;
  crash = crash;
  time = goes_on old.moment old.moment new.moment past past since now (Over pages before)
      (started old.moment past (Over pages before) (λ c left. (c, only c left, keeps_self pages c))) time crash;
}

pub writes_more : (few many : List ℕ) (old new : DiskState) (past since : ℕ → List ℕ → Type 0) (before now : List ℕ → Type 0) → ((number : ℕ) → IsNone many number → IsNone few number)
    → OnlyWrites few (moment_at old past before) (moment_at new since now) → OnlyWrites many (moment_at old past before) (moment_at new since now)
writes_more few many old new past since before now fewer p = record {
  same = p.same;
  crash = λ c left. wider c (p.crash c left);
  time = record {
    later = p.time.later;
    each = λ c left. wider c (p.time.each c left);
    earlier = λ t c le left. ⊎_elim inl (λ h. inr (wider c h)) (p.time.earlier t c le left);
  };
}
  where
    wider : (c : List ℕ) → Over few before c → Over many before c
    wider c over = (over.0, over.1, keeps_more few many over.0 c fewer over.2)

pub writes_on : (pages : List ℕ) (a b c : DiskState) (past mid since : ℕ → List ℕ → Type 0) (before between now : List ℕ → Type 0)
    → OnlyWrites pages (moment_at a past before) (moment_at b mid between) → OnlyWrites pages (moment_at b mid between) (moment_at c since now) → OnlyWrites pages (moment_at a past before) (moment_at c since now)
writes_on pages a b c past mid since before between now p q = record {
  same = goes a b c p.same q.same;
  crash = λ x left. lower x (q.crash x left);
  time = run_on a.moment b.moment c.moment past mid since (Over pages before) (Over pages between) (Over pages before) (λ x h. h) lower p.time q.time;
}
  where
    lower : (x : List ℕ) → Over pages between x → Over pages before x
    lower x over = let under = p.crash over.0 over.1 in (under.0, under.1, keeps_on pages under.0 over.0 x under.2 over.2)

-- pages that are none of both are none of either
fewer_first : (first second : List ℕ) (number : ℕ) → IsNone (first ++ second) number → IsNone first number
fewer_first first second number none k low is =
    none k (omega (arith, length-append first second, low)) (get_or_append_left first second 0 k low ∙ is)

fewer_second : (first second : List ℕ) (number : ℕ) → IsNone (first ++ second) number → IsNone second number
fewer_second first second number none k low is =
    none (length first + k) (omega (arith, length-append first second, low)) (get_or-append-add first second k 0 ∙ is)

-- these pages were written, and then those
pub writes_follow : (first second : List ℕ) (a b c : DiskState) (past mid since : ℕ → List ℕ → Type 0) (before between now : List ℕ → Type 0)
    → OnlyWrites first (moment_at a past before) (moment_at b mid between) → OnlyWrites second (moment_at b mid between) (moment_at c since now) → OnlyWrites (first ++ second) (moment_at a past before) (moment_at c since now)
writes_follow first second a b c past mid since before between now p q =
    writes_on (first ++ second) a b c past mid since before between now (writes_more first (first ++ second) a b past mid before between (fewer_first first second) p)
    (writes_more second (first ++ second) b c mid since between now (fewer_second first second) q)

pub map_some : (o : Option (List ℕ)) (P Q : List ℕ → Type 0) → ((x : List ℕ) → P x → Q x) → IfSome o P → IfSome o Q
map_some None P Q f h = tt
map_some (Some x) P Q f h = f x h

with_some : (o : Option (List ℕ)) (P : List ℕ → Type 0) → ((x : List ℕ) → o ≡ Some x → P x) → IfSome o P
with_some None P f = tt
with_some (Some x) P f = f x refl

pub sees_self : (s : DiskState) (P : List ℕ → List ℕ → Type 0) → ((x : List ℕ) → P x x) → Sees s s P
sees_self s P here honest = with_some s.seen (λ seen. (now : List ℕ) × (s.seen ≡ Some now) × P seen now) (λ x is. (x, is, here x))

pub sees_on : (a b c : DiskState) (P Q R : List ℕ → List ℕ → Type 0) → ((x y z : List ℕ) → P x y → Q y z → R x z) → DiskGoesOn a b → Sees a b P → Sees b c Q → Sees a c R
sees_on a b c P Q R join same p q honest =
    map_some a.seen (λ seen. (now : List ℕ) × (b.seen ≡ Some now) × P seen now) (λ seen. (now : List ℕ) × (c.seen ≡ Some now) × R seen now) turn (p honest)
  where
    turn : (x : List ℕ) → ((now : List ℕ) × (b.seen ≡ Some now) × P x now) → (now : List ℕ) × (c.seen ≡ Some now) × R x now
    turn x h =
        let next : IfSome (Some h.0) (λ seen. (now : List ℕ) × (c.seen ≡ Some now) × Q seen now) =
        subst (λ (o : Option (List ℕ)). IfSome o (λ seen. (now : List ℕ) × (c.seen ≡ Some now) × Q seen now)) h.1 (q (subst IsTrue (sym same.honest) honest)) in
        (next.0, next.1, join x h.0 next.0 h.2 next.2)

pub sees_more : (a b : DiskState) (P Q : List ℕ → List ℕ → Type 0) → ((x y : List ℕ) → P x y → Q x y) → Sees a b P → Sees a b Q
sees_more a b P Q f p honest =
    map_some a.seen (λ seen. (now : List ℕ) × (b.seen ≡ Some now) × P seen now) (λ seen. (now : List ℕ) × (b.seen ≡ Some now) × Q seen now) (λ x h. (h.0, h.1, f x h.0 h.2)) (p honest)

pub some_unit : (o : Option (List ℕ)) → IfSome o (λ seen. Unit {0})
some_unit None = tt
some_unit (Some x) = tt

pub some_all : (o : Option (List ℕ)) (P : List ℕ → Type 0) → ((x : List ℕ) → P x) → IfSome o P
some_all None P f = tt
some_all (Some x) P f = f x

-- a later call's fault is one of the run
pub rose_on : (a b c : ℕ) → a ≤ b → Rose b c → Rose a c
rose_on a b c low rose = omega (arith, low, rose)

pub rose_told : (a b x y : ℕ) → x ≡ a → y ≡ b → Rose x y → Rose a b
rose_told a b x y before now rose = omega (arith, before, now, rose)

-- other answers are no fault of the disk
pub ok_no_fault : {T E P : Type 0} (x : T) (e : E) → IsErrOf (Ok x) e → P
ok_no_fault x e is = cc

pub want_no_fault : {T P : Type 0} → IsErrOf {T = T} (Err stops.Memory) stops.Disk → P
want_no_fault is = cc

pub blob_want_no_fault : {T P : Type 0} → IsErrOf {T = T} (Err faults.Memory) faults.Disk → P
blob_want_no_fault is = cc

pub damage_no_fault : {T P : Type 0} (page : ℕ) → IsErrOf {T = T} (Err (faults.Damaged page)) faults.Disk → P
damage_no_fault page is = cc

pub chain_want_no_fault : {T P : Type 0} → IsErrOf {T = T} (Err causes.Memory) causes.Disk → P
chain_want_no_fault is = cc

pub wrong_no_fault : {T P : Type 0} (page : ℕ) → IsErrOf {T = T} (Err (causes.NotDatabase page)) causes.Disk → P
wrong_no_fault page is = cc

pub same_fault : {T U E : Type 0} (cause e : E) → IsErrOf {T = T} (Err cause) e → IsErrOf {T = U} (Err cause) e
same_fault {E = E} cause e is = let same : cause ≡ e = cc in ap (λ (x : E). Err x) same
