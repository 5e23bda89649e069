-- Counts before and after the writes of a commit, and what it came to.
use Rattle.std.proofs.Common.{◌≡◌, ◌≤◌, ◌↔◌, ◌∙◌, ℕ, Bool, List, [], ◌∷◌, ◌++◌, length, map, Result, Ok, Err, IsTrue, arith, ap, sym, subst}
use Rattle.std.proofs.lemmas.List.{map-append}
use Rattle.afl_outside.specs.declared.source.Failed.{Failed}
use Rattle.afl_outside.specs.Counts.{Rose}
use Rattle.afl_outside.specs.Disk.{DiskGoesOn, DiskState, Moment}
use Rattle.page_file.specs.FilesOpened.{OpenFile}
use Rattle.page_file.specs.declared.commits.stopped.Stopped.{Stopped}
use Rattle.prepared_commits.specs.declared.commits.prepared.Prepared.{Prepared}
use Rattle.store_sealing.specs.Inner.Ends.{EndsSo, Held, held_sealed, held_stopped}
use Rattle.store_sealing.specs.Inner.Writing.{acked_after}

pub no_fall : (before now : ℕ) (old new : DiskState) → before ≡ old.faults → now ≡ new.faults → DiskGoesOn old new → before ≤ now
no_fall before now old new b n on = let le = on.later in omega (arith, b, n, le)

pub count_of : (rose : Bool) (before now : ℕ) (old new : DiskState) → before ≡ old.faults → now ≡ new.faults → (IsTrue rose ↔ Rose before now)
    → IsTrue rose ↔ Rose old.faults new.faults
count_of rose before now old new b n count =
    subst (λ (x : ℕ). IsTrue rose ↔ Rose x new.faults) b (subst (λ (x : ℕ). IsTrue rose ↔ Rose before x) n count)

-- what is made of a list with one item more
pub map_push : {A B : Type 0} (old new : List A) (x : A) → new ≡ old ++ x ∷ [] → (f : A → B) (y : B) → f x ≡ y → map f new ≡ map f old ++ y ∷ []
map_push {A} {B} old new x e f y is = ap (map f) e ∙ map-append f old (x ∷ []) ∙ ap (λ (z : B). map f old ++ z ∷ []) is

pub moment_of : {D : Type 0} (moment : D → Moment) (a b : OpenFile D) → a ≡ b → (moment a.disk).state.moment ≡ (moment b.disk).state.moment
moment_of {D} moment a b e = ap (λ (file : OpenFile D). (moment file.disk).state.moment) e

pub acked_done : (end : Result (Unit {0}) Stopped) (u : Unit {0}) → end ≡ Ok u → (old new : List ℕ) (moment : ℕ) → new ≡ old ++ moment ∷ [] → new ≡ acked_after end old moment
acked_done end u is old new moment e = subst (λ (r : Result (Unit {0}) Stopped). new ≡ acked_after r old moment) (sym is) e

-- ---- how it ended

pub ends_done : (end : Result (Unit {0}) Stopped) (u : Unit {0}) → end ≡ Ok u → (rose : Bool) (p : Prepared) (old new : Held) (place : ℕ)
    → place ≡ length old.ledger.entries → new ≡ held_sealed p rose old → EndsSo end rose p old (Ok place) new
ends_done end u is rose p old new place at same = subst (λ (e : Result (Unit {0}) Stopped). EndsSo e rose p old (Ok place) new) (sym is) (at, same)

pub ends_stopped : (end : Result (Unit {0}) Stopped) (stage : Stopped) → end ≡ Err stage → (rose : Bool) (p : Prepared) (old new : Held) (failed : Failed)
    → new ≡ held_stopped stage p rose old → EndsSo end rose p old (Err failed) new
ends_stopped end stage is rose p old new failed same = subst (λ (e : Result (Unit {0}) Stopped). EndsSo e rose p old (Err failed) new) (sym is) same
