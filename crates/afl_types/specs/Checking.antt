-- Checking: what a statement's tree is, over the stored arrays, or the first rule that it breaks.
use Rattle.std.specs.Prelude.{ℕ, List}
use Rattle.afl_trees.specs.Term.{Term}
use Rattle.logical_plan.specs.declared.names.Names.{Names}
use Rattle.check_rules.specs.Checked.{Checked}
pub use Rattle.afl_types.specs.Arrays.{AreValid}
use Rattle.afl_types.specs.Statements.{statement_of}
use Rattle.afl_types.specs.declared.types.statements.checking.Typed.{Typed}

-- a tree of a text
abbrev pub check_of : Term → List ℕ → Names → Checked Typed
check_of tree text names = statement_of names.arrays text tree
