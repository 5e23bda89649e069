-- The disk of a store goes on.
use Rattle.std.proofs.Common.{◌≡◌, ◌⊎◌, ◌≤◌, ℕ, Bool, true, false, Option, Some, None, IfSome, IsSome, Result, Ok, Err, IfOk, OnErr, OnOk, if◌then◌else◌, inl, inr, refl, sym, ap, subst, ◌∙◌, arith}
use Rattle.afl_outside.specs.Counts.{Rose}
use Rattle.afl_outside.specs.Disk.{DiskGoesOn, DiskState, FailsWithCause, Moment}
use Rattle.plan_changes.specs.declared.change.Change.{Change}
use Rattle.page_file.specs.FilesOpened.{OpenFile}
use Rattle.page_chain.proofs.PutLemmas.{goes_twice}
use Rattle.store_opening.specs.StoreParts.{StoreParts}
use Rattle.store_opening.specs.At.{AreParts, standing}
use Rattle.store_opening.specs.Standings.{Standing}
use Rattle.array_store.specs.Kept.{HasFailed, IsStore}

-- the file as it was opened, and the disk, are the same
pub record IsUnmoved {D : Type 0} (old new : Standing D) : Type 0 where
  pub opened : new.opened ≡ old.opened
  pub disk : new.disk ≡ old.disk
  pub doubt : new.doubt ≡ old.doubt

pub unmoved : {D : Type 0} (s : Standing D) → IsUnmoved s s
unmoved s = record { opened = refl; disk = refl; doubt = refl }

-- whichever answer there was
pub by_either : {D T F : Type 0} (s a b new : Standing D) (result : Result T F) → IsUnmoved s a → IsUnmoved s b → OnOk result (new ≡ a) → OnErr result (new ≡ b) → IsUnmoved s new
by_either s a b new (Ok x) one other ok err = subst (IsUnmoved s) (sym ok) one
by_either s a b new (Err x) one other ok err = subst (IsUnmoved s) (sym err) other

pub by_choice : {D F : Type 0} (s a b c new : Standing D) (result : Result Bool F) → IsUnmoved s a → IsUnmoved s b → IsUnmoved s c
    → IfOk result (λ comes. new ≡ (if comes then a else b)) → OnErr result (new ≡ c) → IsUnmoved s new
by_choice s a b c new (Ok true) one other third ok err = subst (IsUnmoved s) (sym ok) one
by_choice s a b c new (Ok false) one other third ok err = subst (IsUnmoved s) (sym ok) other
by_choice s a b c new (Err x) one other third ok err = subst (IsUnmoved s) (sym err) third

pub by_bool : {D : Type 0} (s a b new : Standing D) (comes : Bool) → IsUnmoved s a → IsUnmoved s b → new ≡ (if comes then a else b) → IsUnmoved s new
by_bool s a b new true one other is = subst (IsUnmoved s) (sym is) one
by_bool s a b new false one other is = subst (IsUnmoved s) (sym is) other

-- ---- a change in doubt

failed_before : (first mid last : DiskState) → DiskGoesOn mid last → HasFailed first mid → HasFailed first last
failed_before first mid last on failed = elim failed [
  | inl rose ↦ inl (let le = on.later in omega (arith, le, rose))
  | inr rose ↦ inr (let le = on.wants_later in omega (arith, le, rose))
]

failed_since : (first mid last : DiskState) → DiskGoesOn first mid → HasFailed mid last → HasFailed first last
failed_since first mid last on failed = elim failed [
  | inl rose ↦ inl (let le = on.later in omega (arith, le, rose))
  | inr rose ↦ inr (let le = on.wants_later in omega (arith, le, rose))
]

-- it was in doubt before, or a call failed
failed_over : (first mid last : DiskState) (o e : Option Change) → DiskGoesOn first mid → DiskGoesOn mid last → IfSome o (λ _. IsSome e ⊎ HasFailed mid last)
    → IfSome e (λ _. HasFailed first mid) → IfSome o (λ _. HasFailed first last)
failed_over first mid last None e one two now before = tt
failed_over first mid last (Some c) None one two now before = elim now [ inl some ↦ absurd (cc (some)) | inr failed ↦ failed_since first mid last one failed ]
failed_over first mid last (Some c) (Some d) one two now before = failed_before first mid last two before

-- the same change is in doubt as before
pub same_doubt : (mid last : DiskState) (o e : Option Change) → o ≡ e → IfSome o (λ _. IsSome e ⊎ HasFailed mid last)
same_doubt mid last None e is = tt
same_doubt mid last (Some c) None is = absurd (cc (is))
same_doubt mid last (Some c) (Some d) is = inl refl

-- none is where the call was done, and where it wasn't, it failed
pub seal_doubt : {T E : Type 0} (old now : Moment) (o e : Option Change) (result : Result T E) → OnOk result (o ≡ None) → FailsWithCause result old now
    → IfSome o (λ _. IsSome e ⊎ HasFailed old.state now.state)
seal_doubt old now None e result done cause = tt
seal_doubt old now (Some c) e (Ok x) done cause = absurd (cc (done))
seal_doubt old now (Some c) e (Err x) done cause = inr cause

-- where it was done, the store is one that has none
pub no_doubt : {D T E : Type 0} (result : Result T E) (P : T → Type 0) (new made : Standing D) → IfOk result (λ x. P x × (new ≡ made)) → made.doubt ≡ None → OnOk result (new.doubt ≡ None)
no_doubt (Ok x) P new made is none = ap (λ s. s.doubt) is.1 ∙ none
no_doubt (Err x) P new made is none = tt

module _ {D : Type 0} (moment : D → Moment) where
  doubt_stays : (old new : Standing D) → IsUnmoved old new → IfSome old.doubt (λ _. HasFailed (moment old.opened.disk).state (moment old.disk).state)
      → IfSome new.doubt (λ _. HasFailed (moment new.opened.disk).state (moment new.disk).state)
  doubt_stays old new same failed =
      subst (λ (o : Option Change). IfSome o (λ _. HasFailed (moment new.opened.disk).state (moment new.disk).state)) (sym same.doubt)
      (subst (λ (file : OpenFile D). IfSome old.doubt (λ _. HasFailed (moment file.disk).state (moment new.disk).state)) (sym same.opened)
      (subst (λ (disk : D). IfSome old.doubt (λ _. HasFailed (moment old.opened.disk).state (moment disk).state)) (sym same.disk) failed))

module _ {D : Type 0} (moment : D → Moment) (parts new : StoreParts D) (is : IsStore moment parts) (at : AreParts moment new) where
  pub stays : IsUnmoved (standing moment parts) (standing moment new) → IsStore moment new
  stays same = record {
    at = at;
    goes_on = subst (λ (file : OpenFile D). DiskGoesOn (moment file.disk).state (moment new.file.disk).state) (sym same.opened)
        (subst (λ (disk : D). DiskGoesOn (moment parts.opened.value.disk).state (moment disk).state) (sym same.disk) is.goes_on);
    doubt = doubt_stays moment (standing moment parts) (standing moment new) same is.doubt;
  }

  pub moves : (standing moment new).opened ≡ (standing moment parts).opened → DiskGoesOn (moment parts.file.disk).state (moment new.file.disk).state
      → IfSome new.doubt (λ _. IsSome parts.doubt ⊎ HasFailed (moment parts.file.disk).state (moment new.file.disk).state) → IsStore moment new
  moves opened on now = record {
    at = at;
    goes_on = subst (λ (file : OpenFile D). DiskGoesOn (moment file.disk).state (moment new.file.disk).state) (sym opened)
        (goes_twice (moment parts.opened.value.disk).state (moment parts.file.disk).state (moment new.file.disk).state is.goes_on on);
    doubt = subst (λ (file : OpenFile D). IfSome new.doubt (λ _. HasFailed (moment file.disk).state (moment new.file.disk).state)) (sym opened)
        (failed_over (moment parts.opened.value.disk).state (moment parts.file.disk).state (moment new.file.disk).state new.doubt parts.doubt is.goes_on on now is.doubt);
  }
