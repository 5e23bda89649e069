-- What is asked for: the chunks of a plan's leaves, and then those of a target.
use Rattle.std.proofs.Common.{◌≡◌, ℕ, List, [], ◌++◌, length, map, Option, Result, Ok, Err, OnErr, sym, ap, ◌∙◌, subst, append_assoc}
use Rattle.std.specs.Prelude.{IfOk, OnOk}
use Rattle.arrayvec.specs.ArrayVec.{ArrayVec}
use Rattle.cell_values.specs.declared.datum.Broken.{Broken}
use Rattle.cell_values.specs.declared.datum.Row.{Row}
use Rattle.cell_values.specs.declared.schema.Dimension.{Dimension}
use Rattle.cell_values.specs.declared.schema.Schema.{Schema}
use Rattle.array_geom.specs.declared.chunk.Changed.{Changed}
use Rattle.logical_plan.specs.declared.parts.Leaf.{Leaf}
use Rattle.logical_plan.specs.Leaves.{leaves}
use Rattle.logical_plan.specs.Query.{Query}
use Rattle.plan_changes.specs.declared.change.Change.{Change}
use Rattle.plan_changes.specs.declared.change.Change.TheVariants.{Store, Insert}
use Rattle.plan_changes.specs.Databases.{Database, fitted, rows_if_whole, rows_of}
use Rattle.chunk_source.specs.declared.reading.fault.ExecFault.{ExecFault}
use Rattle.chunk_source.specs.declared.sources.asked.Asked.{Asked}
use Rattle.chunk_source.specs.Source.{AsksFront, Keeps, SourceState, asks, listed}
use Rattle.chunk_source.proofs.ReadLemmas.{front_after, listed_still}
use Rattle.chunk_exec.specs.Computed.{asked_for_plan}
use Rattle.changed_chunks.specs.declared.traces.asking.Asking.{Asking}
use Rattle.changed_chunks.specs.Changing.{AsksOnly, IsToldOf, asked_for, asked_of_all, asked_or_fault, asked_with, rows_without_fault, unless_fault}
use Rattle.changed_chunks.specs.Inner.Input.{IsFound}
use Rattle.changed_chunks.specs.Targets.{asking_over, asking_put}
use Rattle.changed_chunks.specs.Wanted.{target_wanted}
use Rattle.changed_chunks.proofs.Counted.{asking_among}

module _ (plan : Query) (target : Leaf) (dims : List Dimension) (rows : List Row) where
  abbrev behind : SourceState → List Asked
  behind source = map (asks (length (leaves plan))) (target_wanted dims rows (listed source target))

  module _ (old mid new : SourceState) (kept : Keeps old mid) (before : mid.asked ≡ old.asked ++ asked_for_plan old plan) where
    same_behind : behind mid ≡ behind old
    same_behind = ap (λ (z : List (ArrayVec ℕ)). map (asks (length (leaves plan))) (target_wanted dims rows z)) (listed_still old mid target kept)

    pub counted_then : (asking : Asking) → asking ≡ asking_over mid rows target → asking ≡ asking_over old rows target
    counted_then asking is = is ∙ ap (asking_among target rows) (listed_still old mid target kept)

    pub asked_then : new.asked ≡ mid.asked ++ behind mid → new.asked ≡ old.asked ++ (asked_for_plan old plan ++ behind old)
    asked_then after = after ∙ (λ i. before i ++ same_behind i) ∙ append_assoc old.asked (asked_for_plan old plan) (behind old)

    pub front_then : AsksFront (behind mid) mid new → AsksFront (asked_for_plan old plan ++ behind old) old new
    front_then front = record {
      done = asked_for_plan old plan ++ front.done;
      rest = front.rest;
      in_order = ap (λ (z : List Asked). asked_for_plan old plan ++ z) (sym same_behind ∙ front.in_order) ∙ sym (append_assoc (asked_for_plan old plan) front.done front.rest);
      asked = front.asked ∙ ap (λ (z : List Asked). z ++ front.done) before ∙ append_assoc old.asked (asked_for_plan old plan) front.done;
    }

  -- the plan's array was not computed
  pub front_plan : (old new : SourceState) → AsksFront (asked_for_plan old plan) old new → AsksFront (asked_for_plan old plan ++ behind old) old new
  front_plan old new front = record {
    done = front.done;
    rest = front.rest ++ behind old;
    in_order = ap (λ (z : List Asked). z ++ behind old) front.in_order ∙ append_assoc front.done front.rest (behind old);
    asked = front.asked;
  }

-- ---- an insert, in a database where its plan's rows are those that are put in

module _ (schema : Schema) (plan : Query) (target : Leaf) (old new : SourceState) (input : List Row) (db : Database) (some : Result (List Row) Broken) (is : some ≡ Ok input) (finds : IsFound (fitted schema plan db) some) where
  found : IsFound (fitted schema plan db) (Ok input)
  found = subst (IsFound (fitted schema plan db)) is finds

  same_rows : rows_if_whole (fitted schema plan db) ≡ input
  same_rows = ap rows_if_whole found.0

  -- there is no fault
  same_put : rows_without_fault (fitted schema plan db) ≡ input
  same_put = ap (λ (fault : Option Broken). unless_fault fault (rows_if_whole (fitted schema plan db))) found.1 ∙ same_rows

  there : (P : List Row → Type 0) → P input → P (rows_without_fault (fitted schema plan db))
  there P p = subst P (sym same_put) p

  pub asked_there : new.asked ≡ old.asked ++ asked_with input old (Insert [] schema plan) target → new.asked ≡ old.asked ++ asked_of_all db old (Insert [] schema plan) target
  asked_there = there (λ rows. new.asked ≡ old.asked ++ asked_with rows old (Insert [] schema plan) target)

  pub front_there : AsksFront (asked_with input old (Insert [] schema plan) target) old new → AsksFront (asked_of_all db old (Insert [] schema plan) target) old new
  front_there = there (λ rows. AsksFront (asked_with rows old (Insert [] schema plan) target) old new)

  pub counted_there : (asking : Asking) (rows : List Row) → asking ≡ asking_put schema.dimensions input rows → asking ≡ asking_put schema.dimensions (rows_if_whole (fitted schema plan db)) rows
  counted_there asking rows = subst (λ (new : List Row). asking ≡ asking_put schema.dimensions new rows) (sym same_rows)

-- ---- a change, of whatever name

module _ (change : Change) (target : Leaf) (name : List ℕ) (schema : Schema) (plan : Query) (old new : SourceState) where
  abbrev AsksTold : Change → Result (Result Changed Broken) ExecFault → Type 0
  AsksTold made answer = IfOk answer (λ some. (db : Database) → IsToldOf old made target db → new.asked ≡ old.asked ++ asked_for db old made target some)

  abbrev FrontTold : Change → Result (Result Changed Broken) ExecFault → Type 0
  FrontTold made answer = OnErr answer ((db : Database) → IsToldOf old made target db → AsksFront (asked_of_all db old made target) old new)

  pub store_asked : (answer : Result (Result Changed Broken) ExecFault) → change ≡ Store name schema plan → OnOk answer (new.asked ≡ old.asked ++ asked_for_plan old plan) → AsksTold change answer
  store_asked (Err fault) e asked = tt
  store_asked (Ok (Ok changed)) e asked = subst (λ (z : Change). AsksTold z (Ok (Ok changed))) (sym e) (λ db is. asked)
  store_asked (Ok (Err broken)) e asked = subst (λ (z : Change). AsksTold z (Ok (Err broken))) (sym e) (λ db is. asked)

  pub store_front : (answer : Result (Result Changed Broken) ExecFault) → change ≡ Store name schema plan → OnErr answer (AsksFront (asked_for_plan old plan) old new) → FrontTold change answer
  store_front (Ok made) e front = tt
  store_front (Err fault) e front = subst (λ (z : Change). FrontTold z (Err fault)) (sym e) (λ db is. front)

  pub store_only : (asking : Asking) (answer : Result (Result Changed Broken) ExecFault) → change ≡ Store name schema plan → OnOk answer (new.asked ≡ old.asked ++ asked_for_plan old plan)
      → OnErr answer (AsksFront (asked_for_plan old plan) old new) → AsksOnly old new change target asking answer
  store_only asking (Ok (Ok changed)) e asked front = subst (λ (z : Change). AsksOnly old new z target asking (Ok (Ok changed))) (sym e) ([], asked, tt)
  store_only asking (Ok (Err broken)) e asked front = subst (λ (z : Change). AsksOnly old new z target asking (Ok (Err broken))) (sym e) ([], asked, tt)
  store_only asking (Err fault) e asked front = subst (λ (z : Change). AsksOnly old new z target asking (Err fault)) (sym e) ([], front)

  pub insert_asked : (answer : Result (Result Changed Broken) ExecFault) → change ≡ Insert name schema plan
      → IfOk answer (λ some. (db : Database) → old.tells (rows_of db) → new.asked ≡ old.asked ++ asked_for db old (Insert [] schema plan) target some) → AsksTold change answer
  insert_asked (Err fault) e asked = tt
  insert_asked (Ok (Ok changed)) e asked = subst (λ (z : Change). AsksTold z (Ok (Ok changed))) (sym e) (λ db is. asked db is.tells)
  insert_asked (Ok (Err broken)) e asked = subst (λ (z : Change). AsksTold z (Ok (Err broken))) (sym e) (λ db is. asked db is.tells)

  pub insert_front : (answer : Result (Result Changed Broken) ExecFault) → change ≡ Insert name schema plan
      → OnErr answer ((db : Database) → old.tells (rows_of db) → AsksFront (asked_of_all db old (Insert [] schema plan) target) old new) → FrontTold change answer
  insert_front (Ok made) e front = tt
  insert_front (Err fault) e front = subst (λ (z : Change). FrontTold z (Err fault)) (sym e) (λ db is. front db is.tells)

  pub insert_only : (asking : Asking) (answer : Result (Result Changed Broken) ExecFault) → change ≡ Insert name schema plan
      → IfOk answer (λ made. (rows : List Row) × (new.asked ≡ old.asked ++ asked_or_fault rows old (Insert [] schema plan) target made)
      × IfOk made (λ changed. asking ≡ asking_over old rows target))
      → OnErr answer ((rows : List Row) × AsksFront (asked_with rows old (Insert [] schema plan) target) old new) → AsksOnly old new change target asking answer
  insert_only asking (Ok (Ok changed)) e only some = subst (λ (z : Change). AsksOnly old new z target asking (Ok (Ok changed))) (sym e) only
  insert_only asking (Ok (Err broken)) e only some = subst (λ (z : Change). AsksOnly old new z target asking (Ok (Err broken))) (sym e) only
  insert_only asking (Err fault) e only some = subst (λ (z : Change). AsksOnly old new z target asking (Err fault)) (sym e) some

-- ---- a list of chunks that is asked for

pub asked_listed : {T E : Type 0} (answer : Result T E) (number : ℕ) (old mid new : SourceState) (chunks these : List (ArrayVec ℕ)) → chunks ≡ these → mid.asked ≡ old.asked
    → OnOk answer (new.asked ≡ mid.asked ++ map (asks number) chunks) → OnOk answer (new.asked ≡ old.asked ++ map (asks number) these)
asked_listed (Ok read) number old mid new chunks these e same asked = asked ∙ (λ i. same i ++ map (asks number) (e i))
asked_listed (Err fault) number old mid new chunks these e same asked = tt

pub front_listed : {T E : Type 0} (answer : Result T E) (number : ℕ) (old mid new : SourceState) (chunks these : List (ArrayVec ℕ)) → chunks ≡ these → mid.asked ≡ old.asked
    → OnErr answer (AsksFront (map (asks number) chunks) mid new) → OnErr answer (AsksFront (map (asks number) these) old new)
front_listed (Ok read) number old mid new chunks these e same front = tt
front_listed (Err fault) number old mid new chunks these e same front = front_after _ _ old mid new (ap (map (asks number)) e) same front
