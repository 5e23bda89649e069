-- The line that tells why a statement was refused.
use Rattle.std.specs.Prelude.{ℕ, List, ◌++◌, codes}
use Rattle.std.specs.Fmt.{decimal}
use Rattle.cell_values.specs.declared.datum.FaultKind.{FaultKind}
use Rattle.cell_values.specs.declared.datum.FaultKind.TheVariants as faults
use Rattle.afl_trees.specs.declared.kind.ParseKind.{ParseKind}
use Rattle.afl_trees.specs.declared.kind.ParseKind.TheVariants as stops
use Rattle.schema_grammar.specs.declared.kinds.TypeKind.{TypeKind}
use Rattle.schema_grammar.specs.declared.kinds.TypeKind.TheVariants as types
use Rattle.result_print.specs.declared.refusal.Refusal.{Refusal}
use Rattle.result_print.specs.declared.refusal.Refusal.TheVariants.{TooLong, Parse, HistoryFull, Typing, Disk, Damaged}
use Rattle.result_print.specs.declared.refusal.Refusal.TheVariants.{Cell, SequenceEnd, Full, Memory}
use Rattle.result_print.specs.Texts.{place_text}

-- The words of a kind are its name's words, with spaces between.

abbrev pub fault_text : FaultKind → List ℕ
fault_text faults.Overflow = codes "overflow"
fault_text faults.DivideByZero = codes "divide by zero"
fault_text faults.OutOfBounds = codes "out of bounds"
fault_text faults.Collision = codes "collision"
fault_text faults.NullInNotNull = codes "null in not null"

abbrev pub stop_text : ParseKind → List ℕ
stop_text stops.UnknownCharacter = codes "unknown character"
stop_text stops.OpenText = codes "open text"
stop_text stops.BadEscape = codes "bad escape"
stop_text stops.TextTooLong = codes "text too long"
stop_text stops.NameTooLong = codes "name too long"
stop_text stops.LiteralTooLarge = codes "literal too large"
stop_text stops.Unexpected = codes "unexpected"
stop_text stops.TooDeep = codes "too deep"

abbrev pub type_text : TypeKind → List ℕ
type_text types.UnknownType = codes "unknown type"
type_text types.RepeatedName = codes "repeated name"
type_text types.BoundsOrder = codes "bounds order"
type_text types.BoundsRange = codes "bounds range"
type_text types.ZeroChunk = codes "zero chunk"
type_text types.OverlapTooLarge = codes "overlap too large"
type_text types.TooManyDimensions = codes "too many dimensions"
type_text types.TooManyAttributes = codes "too many attributes"
type_text types.ChunkTooLarge = codes "chunk too large"
type_text types.UnknownArray = codes "unknown array"
type_text types.UnknownVersion = codes "unknown version"
type_text types.UnknownName = codes "unknown name"
type_text types.WrongType = codes "wrong type"
type_text types.WrongCount = codes "wrong count"
type_text types.OutOfRange = codes "out of range"
type_text types.BoundsDiffer = codes "bounds differ"
type_text types.NotBounded = codes "not bounded"
type_text types.EmptyBox = codes "empty box"
type_text types.BadLiteral = codes "bad literal"
type_text types.TooManyCells = codes "too many cells"
type_text types.NameTooLong = codes "name too long"
type_text types.WindowTooLarge = codes "window too large"
type_text types.ArrayExists = codes "array exists"
type_text types.SchemaDiffers = codes "schema differs"
type_text types.TooManyArrays = codes "too many arrays"
type_text types.TooManyVersions = codes "too many versions"

-- `error: too long: 1048577 bytes`, `error: parse at 28: open text`, `error: type at 8..13: unknown name`,
-- `error: cell {0,-1}: divide by zero`, `error: full: needs 3 pages, 1 free`
abbrev pub line_of_refusal : Refusal → List ℕ
line_of_refusal (TooLong bytes) = codes "error: too long: " ++ decimal bytes ++ codes " bytes\n"
line_of_refusal (Parse at kind) = codes "error: parse at " ++ decimal at ++ codes ": " ++ stop_text kind ++ codes "\n"
line_of_refusal HistoryFull = codes "error: history full\n"
line_of_refusal (Typing span kind) = codes "error: type at " ++ decimal span.start ++ codes ".." ++ decimal span.end
    ++ codes ": " ++ type_text kind ++ codes "\n"
line_of_refusal Disk = codes "error: disk\n"
line_of_refusal (Damaged page) = codes "error: damaged page " ++ decimal page ++ codes "\n"
line_of_refusal (Cell at kind) = codes "error: cell " ++ place_text at.items ++ codes ": " ++ fault_text kind ++ codes "\n"
line_of_refusal SequenceEnd = codes "error: sequence end\n"
line_of_refusal (Full needed free) = codes "error: full: needs " ++ decimal needed ++ codes " pages, " ++ decimal free ++ codes " free\n"
line_of_refusal Memory = codes "error: memory\n"
