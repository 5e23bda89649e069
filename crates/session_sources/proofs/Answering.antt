-- What a source answers, by the answer of the store.
use Rattle.std.proofs.Common.{◌≡◌, ◌∙◌, ℕ, ◌+◌, ◌-◌, ◌^◌, ◌≤◌, inr, min, List, [], ◌∷◌, ◌++◌, length, Result, Ok, Err, IfOk, refl, ap, sym, subst, arith, length-append}
use Rattle.arrayvec.specs.ArrayVec.{ArrayVec}
use Rattle.afl_outside.specs.Counts.{risen}
use Rattle.cell_values.specs.declared.datum.Row.{Row}
use Rattle.logical_plan.specs.declared.parts.Leaf.{Leaf}
use Rattle.logical_plan.specs.Meaning.{Database, version_rows}
use Rattle.chunk_source.specs.declared.sources.fault.SourceFault.{SourceFault}
use Rattle.chunk_source.specs.Source.{SourceState, asks, version_chunks, AreNumbersIn, AsksFor, Blames, HasArray}
use Rattle.snapshot_manager.specs.ReadFault.{ReadFault}
use Rattle.snapshot_manager.specs.ReadFault.TheVariants.{Disk, Damaged, Memory}
use Rattle.session_sources.specs.declared.marks.Marks.{Marks}
use Rattle.session_sources.specs.Inner.Marking.{answer_of, marks_after}

-- a chunk was asked for
abbrev pub with_asked : ℕ → ArrayVec ℕ → Marks → Marks
with_asked number at marks = record marks { asked = marks.asked ++ asks number at ∷ [] }

pub same_le : (n : ℕ) → n ≤ n
same_le n = omega arith

-- ---- no chunks of version 0

pub no_chunks : (chunks : List ℕ → ℕ → List (ArrayVec ℕ)) (leaf : Leaf) → leaf.version ≡ 0 → [] ≡ version_chunks chunks leaf.name leaf.version
no_chunks chunks leaf e = sym (ap (version_chunks chunks leaf.name) e)

pub no_numbers : (rows : Database) (leaf : Leaf) → leaf.version ≡ 0 → AreNumbersIn rows leaf []
no_numbers rows leaf e = λ valid. subst (λ (rs : List Row). HasArray leaf rs []) (sym (ap (version_rows rows leaf.name) e)) (record {
  rows_of = record { valid = valid; are_rows = record { rising = tt; in_bounds = tt }; kinds = tt };
  sound = tt;
  listed = λ k l. refl;
})

-- ---- a chunk

-- one more was asked for, and one more was counted
pub one_counted : (a n : ℕ) → risen (min (a + n) (2 ^ 64 - 1)) ≡ min (a + (n + 1)) (2 ^ 64 - 1)
one_counted a n = omega arith

module _ {A : Type 0} where
  pub same_asked : (answer : Result A ReadFault) (marks : Marks) → (marks_after answer marks).asked ≡ marks.asked
  same_asked (Ok value) marks = refl
  same_asked (Err Disk) marks = refl
  same_asked (Err (Damaged page)) marks = refl
  same_asked (Err Memory) marks = refl

  pub asked_count : (answer : Result A ReadFault) (number : ℕ) (at : ArrayVec ℕ) (marks : Marks) →
      length (marks_after answer (with_asked number at marks)).asked ≡ length marks.asked + 1
  asked_count answer number at marks =
      ap length (same_asked answer (with_asked number at marks)) ∙ length-append marks.asked (asks number at ∷ [])

  pub ok_answer : (answer : Result A ReadFault) (result : Result A SourceFault) (P : A → Type 0) → result ≡ answer_of answer → IfOk answer P → IfOk result P
  ok_answer (Ok value) result P e p = subst (λ (x : Result A SourceFault). IfOk x P) (sym e) p
  ok_answer (Err Disk) result P e p = subst (λ (x : Result A SourceFault). IfOk x P) (sym e) tt
  ok_answer (Err (Damaged page)) result P e p = subst (λ (x : Result A SourceFault). IfOk x P) (sym e) tt
  ok_answer (Err Memory) result P e p = subst (λ (x : Result A SourceFault). IfOk x P) (sym e) tt

  pub asks_by : (result : Result A SourceFault) (number : ℕ) (at : ArrayVec ℕ) (old new : SourceState) → new.asked ≡ old.asked ++ asks number at ∷ [] →
      AsksFor number at old new result
  asks_by (Ok value) number at old new e = e
  asks_by (Err fault) number at old new e = inr e

  pub blames_by : (answer : Result A ReadFault) (old new : SourceState) (marks : Marks) → old.damaged ≡ marks.damaged → old.faults ≡ marks.faults →
      new.damaged ≡ (marks_after answer marks).damaged → new.faults ≡ (marks_after answer marks).faults → Blames old new (answer_of answer)
  blames_by (Ok value) old new marks a b c d = c ∙ sym a
  blames_by (Err Disk) old new marks a b c d =
      (subst (λ (n : ℕ). risen old.faults ≤ n) (sym (d ∙ ap risen (sym b))) (same_le (risen old.faults)), c ∙ sym a)
  blames_by (Err (Damaged page)) old new marks a b c d = c
  blames_by (Err Memory) old new marks a b c d = c ∙ sym a

  pub blames : (answer : Result A ReadFault) (result : Result A SourceFault) (old new : SourceState) (marks : Marks) → result ≡ answer_of answer →
      old.damaged ≡ marks.damaged → old.faults ≡ marks.faults →
      new.damaged ≡ (marks_after answer marks).damaged → new.faults ≡ (marks_after answer marks).faults → Blames old new result
  blames answer result old new marks e a b c d = subst (λ (x : Result A SourceFault). Blames old new x) (sym e) (blames_by answer old new marks a b c d)

-- ---- what a source keeps, behind an ask and an answer

pub record Marked {A : Type 0} (answer : Result A ReadFault) (number : ℕ) (at : ArrayVec ℕ) (marks next : Marks) : Type 0 where
  pub is : next ≡ marks_after answer (with_asked number at marks)
  pub asked : next.asked ≡ marks.asked ++ asks number at ∷ []
  pub later : marks.faults ≤ next.faults

pub marked : {A : Type 0} (answer : Result A ReadFault) (number : ℕ) (at : ArrayVec ℕ) (marks between next : Marks) → between ≡ with_asked number at marks →
    next ≡ marks_after answer between → between.faults ≤ next.faults → Marked answer number at marks next
marked answer number at marks between next e f later =
    let is : next ≡ marks_after answer (with_asked number at marks) = f ∙ ap (marks_after answer) e in
    record {
      is = is;
      asked = ap (λ (m : Marks). m.asked) is ∙ same_asked answer (with_asked number at marks);
      later = subst (λ (m : Marks). m.faults ≤ next.faults) e later;
    }
