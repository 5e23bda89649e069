-- Lines that stand behind a text, those of a change, and what keeps them.
use Rattle.std.proofs.Common.{◌≡◌, ℕ, Bool, true, false, cond, List, [], ◌∷◌, ◌++◌, length, Result, Ok, Err, IfOk, OnOk, refl, sym, ap, ◌∙◌, subst}
use Rattle.std.specs.List.{AllByRecursion}
use Rattle.cell_values.specs.declared.schema.Bounds.{Bounds}
use Rattle.cell_values.specs.declared.schema.Schema.{Schema}
use Rattle.array_geom.specs.Geometry.{core_meets}
use Rattle.commit_pages.specs.Costs.{numbers_of}
use Rattle.logical_plan.specs.declared.names.Names.{Names}
use Rattle.logical_plan.specs.declared.parts.Leaf.{Leaf}
use Rattle.logical_plan.specs.Leaves.{leaves}
use Rattle.logical_plan.specs.Meaning.{Database as Rows, version_rows}
use Rattle.logical_plan.specs.Query.{Query}
use Rattle.plan_changes.specs.Changes.{newest_of}
use Rattle.plan_changes.specs.Databases.{Database, fitted, names_of, newest_rows, rows_if_whole, rows_of}
use Rattle.plan_changes.specs.declared.change.Change.{Change}
use Rattle.plan_changes.specs.declared.change.Change.TheVariants.{Create, Store, Insert, Remove, RemoveVersions}
use Rattle.chunk_source.specs.Source.{SourceState}
use Rattle.chunk_source.specs.declared.reading.fault.ExecFault.{ExecFault}
use Rattle.changed_chunks.specs.declared.traces.asking.Asking.{Asking}
use Rattle.plan_needs.specs.Wanted.{whole_need}
use Rattle.changed_chunks.specs.Line.{trace_line}
use Rattle.changed_chunks.specs.Traced.{AreLinesOf, asking_where, askings_in, askings_over, leaf_line, lines_of, lines_over, plan_askings, plan_lines}
use Rattle.changed_chunks.proofs.Tracing.{append_each, askings_over_each, lines_more, plan_askings_each, plan_lines_are}
use Rattle.changed_chunks.specs.Targets.{asking_put, target_asking}
use Rattle.statement_replies.specs.Reply.{traced}
use Rattle.statement_replies.specs.StatementKinds.{IsAccepted}
use Rattle.statement_replies.specs.Statements.{Accepted, change_text, text_alone}
use Rattle.statement_replies.specs.Traces.{IsTracedIn, askings_by, change_askings_over, change_lines, change_lines_over, newest_leaf, read_by}
use Rattle.statement_replies.specs.declared.replies.style.Style.{Style}

-- ---- lines that are wanted, or not

untraced : (style : Style) (lines : List ℕ) → style.trace ≡ false → traced style lines ≡ []
untraced style lines none = ap (λ (b : Bool). cond b lines []) none

is_traced : (style : Style) (lines : List ℕ) → style.trace ≡ true → traced style lines ≡ lines
is_traced style lines some = ap (λ (b : Bool). cond b lines []) some

pub unwanted : (style : Style) (lines text : List ℕ) → style.trace ≡ false → text ≡ [] → text ≡ traced style lines
unwanted style lines text none e = e ∙ sym (untraced style lines none)

module _ {E : Type 0} (answer : Result (List ℕ) E) (style : Style) (some : style.trace ≡ true) where
  pub wanted : (lines : List ℕ) → IfOk answer (λ text. text ≡ lines) → IfOk answer (λ text. text ≡ traced style lines)
  wanted lines is = of_answer answer is
    where
      of_answer : (r : Result (List ℕ) E) → IfOk r (λ text. text ≡ lines) → IfOk r (λ text. text ≡ traced style lines)
      of_answer (Ok text) is = is ∙ sym (is_traced style lines some)
      of_answer (Err fault) is = tt

  pub wanted_told : {A : Type 0} (Tells : A → Type 0) (lines : A → List ℕ) → IfOk answer (λ text. (a : A) → Tells a → text ≡ lines a)
      → IfOk answer (λ text. (a : A) → Tells a → text ≡ traced style (lines a))
  wanted_told {A} Tells lines told = of_answer answer told
    where
      of_answer : (r : Result (List ℕ) E) → IfOk r (λ text. (a : A) → Tells a → text ≡ lines a) → IfOk r (λ text. (a : A) → Tells a → text ≡ traced style (lines a))
      of_answer (Ok text) told = λ a t. told a t ∙ sym (is_traced style (lines a) some)
      of_answer (Err fault) told = tt

-- ---- the lines of an insert

pub newest_line : {T E : Type 0} (answer : Result T E) (names : Names) (name : List ℕ) (version : ℕ) (asking : Asking) (before after : List ℕ) → version ≡ newest_of names.arrays name
    → OnOk answer (after ≡ before ++ trace_line name version asking.asked asking.stored)
    → OnOk answer ((schema : Schema) → after ≡ before ++ leaf_line (newest_leaf names name schema) asking)
newest_line (Ok x) names name version asking before after e is = λ schema. is ∙ ap (λ (v : ℕ). before ++ trace_line name v asking.asked asking.stored) e
newest_line (Err fault) names name version asking before after e is = tt

-- one more line behind those of a plan
module _ (plan : Query) (leaf : Leaf) (target : Asking) (lines text : List ℕ) (pushed : text ≡ lines ++ leaf_line leaf target) where
  one_more : (counts : List Asking) → length counts ≡ length (leaves plan) → lines ≡ lines_of (leaves plan) counts → text ≡ lines_of (leaves plan ++ leaf ∷ []) (counts ++ target ∷ [])
  one_more counts each is = pushed ∙ ap (λ (z : List ℕ). z ++ leaf_line leaf target) is ∙ sym (lines_more (leaves plan) counts leaf target each)

  pub one_more_over : (source : SourceState) → lines ≡ lines_over source plan → text ≡ lines_of (leaves plan ++ leaf ∷ []) (askings_over source plan ++ target ∷ [])
  one_more_over source = one_more (askings_over source plan) (askings_over_each source plan)

  pub one_more_told : (rows : Rows) → lines ≡ plan_lines rows plan → text ≡ lines_of (leaves plan ++ leaf ∷ []) (plan_askings rows plan ++ target ∷ [])
  one_more_told rows = one_more (plan_askings rows plan) (plan_askings_each rows plan)

-- ---- the lines of a change over a source

module _ (names : Names) (source : SourceState) (change : Change) (target : Asking) where
  abbrev IsTold : Change → List ℕ → Type 0
  IsTold made text = (db : Database) → IsTracedIn names source made target db → text ≡ change_lines db made

  abbrev IsOver : Change → List ℕ → Type 0
  IsOver made text = text ≡ change_lines_over names source target made

  module _ (name : List ℕ) (schema : Schema) (plan : Query) (answer : Result (List ℕ) ExecFault) where
    pub store_over : change ≡ Store name schema plan → IfOk answer (λ lines. lines ≡ lines_over source plan) → IfOk answer (IsOver change)
    store_over e = subst (λ (z : Change). IfOk answer (IsOver z)) (sym e)

    pub store_told : change ≡ Store name schema plan → IfOk answer (λ lines. (rows : Rows) → source.tells rows → lines ≡ plan_lines rows plan) → IfOk answer (IsTold change)
    store_told e told = subst (λ (z : Change). IfOk answer (IsTold z)) (sym e) (of_answer answer told)
      where
        of_answer : (a : Result (List ℕ) ExecFault) → IfOk a (λ lines. (rows : Rows) → source.tells rows → lines ≡ plan_lines rows plan) → IfOk a (IsTold (Store name schema plan))
        of_answer (Ok text) told = λ db is. told (rows_of db) is.tells
        of_answer (Err fault) told = tt

    pub insert_over : change ≡ Insert name schema plan
        → IfOk answer (λ lines. (other : Schema) → lines ≡ lines_of (leaves plan ++ newest_leaf names name other ∷ []) (askings_over source plan ++ target ∷ []))
        → IfOk answer (IsOver change)
    insert_over e is = subst (λ (z : Change). IfOk answer (IsOver z)) (sym e) (of_answer answer is)
      where
        of_answer : (a : Result (List ℕ) ExecFault)
            → IfOk a (λ lines. (other : Schema) → lines ≡ lines_of (leaves plan ++ newest_leaf names name other ∷ []) (askings_over source plan ++ target ∷ []))
            → IfOk a (IsOver (Insert name schema plan))
        of_answer (Ok text) is = is schema
        of_answer (Err fault) is = tt

    pub insert_told : change ≡ Insert name schema plan
        → IfOk answer (λ lines. (rows : Rows) → source.tells rows → (other : Schema)
        → lines ≡ lines_of (leaves plan ++ newest_leaf names name other ∷ []) (plan_askings rows plan ++ target ∷ []))
        → IfOk answer (IsTold change)
    insert_told e told = subst (λ (z : Change). IfOk answer (IsTold z)) (sym e) (of_answer answer told)
      where
        of_answer : (a : Result (List ℕ) ExecFault) → IfOk a (λ lines. (rows : Rows) → source.tells rows → (other : Schema)
            → lines ≡ lines_of (leaves plan ++ newest_leaf names name other ∷ []) (plan_askings rows plan ++ target ∷ [])) → IfOk a (IsTold (Insert name schema plan))
        of_answer (Ok text) told = λ db is.
            told (rows_of db) is.tells schema
            ∙ (λ i. lines_of (leaves plan ++ newest_leaf (sym is.named i) name schema ∷ []) (plan_askings (rows_of db) plan ++ is.counted i ∷ []))
        of_answer (Err fault) told = tt

  -- each array that is read has a number of chunks that are asked for
  askings_are : (made : Change) → length (change_askings_over source target made) ≡ length (read_by names made)
  askings_are (Create name schema) = refl
  askings_are (Store name schema plan) = askings_over_each source plan
  askings_are (Insert name schema plan) = append_each (askings_over source plan) (leaves plan) target (newest_leaf names name schema) (askings_over_each source plan)
  askings_are (Remove name) = refl
  askings_are (RemoveVersions name below) = refl

  pub lines_are : AreLinesOf (read_by names change) (change_lines_over names source target change)
  lines_are = (change_askings_over source target change, askings_are change, refl)

-- ---- the lines of a change in a database

pub change_lines_are : (db : Database) (change : Change) → AreLinesOf (read_by (names_of db) change) (change_lines db change)
change_lines_are db (Create name schema) = ([], refl, refl)
change_lines_are db (Store name schema plan) = plan_lines_are (rows_of db) plan
change_lines_are db (Insert name schema plan) =
    let leaf = newest_leaf (names_of db) name schema in
    let target = target_asking db name schema plan in
    (askings_by db (Insert name schema plan), append_each (plan_askings (rows_of db) plan) (leaves plan) target leaf (plan_askings_each (rows_of db) plan), refl)
change_lines_are db (Remove name) = ([], refl, refl)
change_lines_are db (RemoveVersions name below) = ([], refl, refl)

-- ---- the lines of a change over databases that tell it the same

module _ (a b : Database) where
  abbrev ReadsAlike : Leaf → Type 0
  ReadsAlike leaf = version_rows (rows_of a) leaf.name leaf.version ≡ version_rows (rows_of b) leaf.name leaf.version

  askings_stay : (all : List Leaf) (boxes : List Bounds) → AllByRecursion ReadsAlike all → askings_in (rows_of a) all boxes ≡ askings_in (rows_of b) all boxes
  askings_stay [] boxes same = refl
  askings_stay (leaf ∷ all) [] same = refl
  askings_stay (leaf ∷ all) (area ∷ boxes) same =
      let dims = leaf.schema.dimensions in
      λ i. asking_where (core_meets dims area) (numbers_of dims (same.0 i)) ∷ askings_stay all boxes same.1 i

  -- each version that its plan reads has the same rows, and an insert's plan and target have
  abbrev pub AreReadAlike : Change → Type 0
  AreReadAlike (Create name schema) = Unit {0}
  AreReadAlike (Store name schema plan) = AllByRecursion ReadsAlike (leaves plan)
  AreReadAlike (Insert name schema plan) = AllByRecursion ReadsAlike (leaves plan)
      × (rows_if_whole (fitted schema plan a) ≡ rows_if_whole (fitted schema plan b)) × (newest_rows a name ≡ newest_rows b name)
      × (newest_of (names_of a).arrays name ≡ newest_of (names_of b).arrays name)
  AreReadAlike (Remove name) = Unit {0}
  AreReadAlike (RemoveVersions name below) = Unit {0}

  pub change_lines_stay : (change : Change) → AreReadAlike change → change_lines a change ≡ change_lines b change
  change_lines_stay (Create name schema) same = refl
  change_lines_stay (Store name schema plan) same = ap (lines_of (leaves plan)) (askings_stay (leaves plan) (whole_need plan) same)
  change_lines_stay (Insert name schema plan) (leaves_same, put, old, newest) =
      λ i. lines_of
      (leaves plan ++ record { name = name; version = newest i; schema = schema } ∷ [])
      (askings_stay (leaves plan) (whole_need plan) leaves_same i ++ asking_put schema.dimensions (put i) (old i) ∷ [])
  change_lines_stay (Remove name) same = refl
  change_lines_stay (RemoveVersions name below) same = refl

-- ---- replies to a change over names that tell it the same

pub accepted_stays : (style : Style) (a b : Names) (change : Change) (answer : Accepted) → read_by b change ≡ read_by a change → change_text b change ≡ change_text a change
    → IsAccepted style a change answer → IsAccepted style b change answer
accepted_stays style a b change answer same_read same_text ((lines, are, is), some) = (
  (
    lines,
    subst (λ (all : List Leaf). AreLinesOf all lines) (sym same_read) are,
    is ∙ ap (λ (text : List ℕ). text_alone (text ++ traced style lines)) (sym same_text),
  ),
  some,
)
