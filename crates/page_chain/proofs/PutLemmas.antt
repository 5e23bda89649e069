-- How a write and its sync go on.
use Rattle.std.proofs.Common.{◌≡◌, inl, inr, ⊎_elim, ℕ, List, length, IsTrue, Option, Some, None, IfSome, ◌∙◌, arith}
use Rattle.afl_outside.specs.Disk.{DiskState, DiskGoesOn, Elapses, Follows, LeavesOnly, Torn, written}
use Rattle.afl_outside.specs.Lemmas.TornLaws.{Torn-same, Torn-written}
use Rattle.afl_outside.proofs.Moments.{started, goes_on, moment_at}
use Rattle.page_chain.specs.Puts.{Over, SeesTorn, OnlyPuts, OnlySyncs}

pub if_some : {A : Type 0} (o : Option A) (P Q : A → Type 0) → ((x : A) → P x → Q x) → IfSome o P → IfSome o Q
if_some None P Q f h = h
if_some (Some x) P Q f h = f x h

pub goes_twice : (a b c : DiskState) → DiskGoesOn a b → DiskGoesOn b c → DiskGoesOn a c
goes_twice a b c p q = record {
  name = q.name ∙ p.name;
  first = q.first ∙ p.first;
  honest = q.honest ∙ p.honest;
  later = omega (arith, p.later, q.later);
  wants_later = omega (arith, p.wants_later, q.wants_later);
}

pub one_put : (at n : ℕ) (old new : DiskState) (past since : ℕ → List ℕ → Type 0) (before now : List ℕ → Type 0) → ((c : List ℕ) → past old.moment c → before c) → DiskGoesOn old new
    → SeesTorn at n old new → Follows (Torn at n) before now → Elapses old.moment new.moment past since now → OnlyPuts at n (moment_at old past before) (moment_at new since now)
one_put at n old new past since before now only same sees crash time = record {
  same = same;
  seen = sees;
  crash = crash;
  time = goes_on old.moment old.moment new.moment past past since now (Over at n before) (started old.moment past (Over at n before) (λ c left. (c, only c left, Torn-same at n c))) time crash;
}

pub then_sync : (at n : ℕ) (old mid new : DiskState) (past between since : ℕ → List ℕ → Type 0) (before done now : List ℕ → Type 0) → OnlyPuts at n (moment_at old past before) (moment_at mid between done) → DiskGoesOn mid new
    → new.seen ≡ mid.seen → ((c : List ℕ) → now c → done c) → Elapses mid.moment new.moment between since now → OnlyPuts at n (moment_at old past before) (moment_at new since now)
then_sync at n old mid new past between since before done now put same is crash time = record {
  same = goes_twice old mid new put.same same;
  seen = λ honest. if_some old.seen (λ seen. (torn : List ℕ) × (mid.seen ≡ Some torn) × Torn at n seen torn) (λ seen. (torn : List ℕ) × (new.seen ≡ Some torn) × Torn at n seen torn) (λ seen tore. (tore.0, is ∙ tore.1, tore.2)) (put.seen honest);
  crash = λ c left. put.crash c (crash c left);
  time = goes_on old.moment mid.moment new.moment past between since now (Over at n before) put.time time (λ c left. put.crash c (crash c left));
}

pub one_sync : (old new : DiskState) (past since : ℕ → List ℕ → Type 0) (before now : List ℕ → Type 0) → ((c : List ℕ) → past old.moment c → before c) → DiskGoesOn old new → new.seen ≡ old.seen
    → ((c : List ℕ) → now c → before c) → Elapses old.moment new.moment past since now → OnlySyncs (moment_at old past before) (moment_at new since now)
one_sync old new past since before now only same seen crash time = record {
  same = same;
  seen = seen;
  crash = crash;
  time = goes_on old.moment old.moment new.moment past past since now before (started old.moment past before only) time crash;
}

-- the sync failed: the written bytes are one of the torn outcomes
pub put_torn : (at : ℕ) (bytes : List ℕ) (old mid new : DiskState) → new.seen ≡ mid.seen → (IsTrue old.honest → IfSome old.seen (λ seen. mid.seen ≡ Some (written at bytes seen)))
    → IsTrue old.honest → IfSome old.seen (λ seen. (torn : List ℕ) × (new.seen ≡ Some torn) × Torn at (length bytes) seen torn)
put_torn at bytes old mid new same wrote honest =
    if_some old.seen (λ seen. mid.seen ≡ Some (written at bytes seen)) (λ seen. (torn : List ℕ) × (new.seen ≡ Some torn) × Torn at (length bytes) seen torn)
    (λ seen is. (written at bytes seen, same ∙ is, Torn-written at bytes seen)) (wrote honest)

-- what holds of all that is left holds of what follows from it
pub wider : (before now : ℕ) (past since : ℕ → List ℕ → Type 0) (P Q : List ℕ → Type 0) → ((c : List ℕ) → P c → Q c) → LeavesOnly before now past since P → LeavesOnly before now past since Q
wider before now past since P Q more leaves = record {
  later = leaves.later;
  each = λ c left. more c (leaves.each c left);
  earlier = λ t c le left. ⊎_elim (λ was. inl was) (λ is. inr (more c is)) (leaves.earlier t c le left);
}

-- nothing was written: that is a put whose bytes stayed
pub sync_is_put : (at n : ℕ) (old new : DiskState) (past since : ℕ → List ℕ → Type 0) (before now : List ℕ → Type 0) → OnlySyncs (moment_at old past before) (moment_at new since now) → OnlyPuts at n (moment_at old past before) (moment_at new since now)
sync_is_put at n old new past since before now syncs = record {
  same = syncs.same;
  seen = λ honest. stays old.seen syncs.seen;
  crash = λ c left. (c, syncs.crash c left, Torn-same at n c);
  time = wider old.moment new.moment past since before (Over at n before) (λ c left. (c, left, Torn-same at n c)) syncs.time;
}
  where
    stays : (o : Option (List ℕ)) → new.seen ≡ o → IfSome o (λ seen. (torn : List ℕ) × (new.seen ≡ Some torn) × Torn at n seen torn)
    stays None is = tt
    stays (Some x) is = (x, is, Torn-same at n x)

pub if_some_with : {A : Type 0} (o : Option A) (P R Q : A → Type 0) → ((x : A) → P x → R x → Q x) → IfSome o P → IfSome o R → IfSome o Q
if_some_with None P R Q f h k = h
if_some_with (Some x) P R Q f h k = f x h k
