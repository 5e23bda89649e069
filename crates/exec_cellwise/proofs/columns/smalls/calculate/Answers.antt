use Rattle.std.proofs.Common.{◌∙◌, ◌*ℤ◌, w64, FitsSigned, ap, sym}
use Rattle.std.specs.Option.{SomeIff}
use Rattle.std.proofs.lemmas.Int.{to_z-of_z}
use Rattle.cell_values.specs.declared.datum.Datum.TheVariants.{Int}
use Rattle.expr_nulls.specs.declared.expr.ArithOp.{ArithOp}
use Rattle.expr_nulls.specs.ExprValue.{calculated}
use Rattle.array_rows.specs.Seen.{seen}
use Rattle.exec_cellwise.proofs.SmallLaws.{exactly_seen}
use Rattle.exec_cellwise.proofs.columns.smalls.calculate.Goals as goal

pub returns-in-Mul : goal.returns-in-Mul
returns-in-Mul c =
    let a = c.args.a in
    let b = c.args.b in
    let first : FitsSigned w64 a = c.ranges.a in
    let second : FitsSigned w64 b = c.ranges.b in
    let made : SomeIff c.checked_mul.result (FitsSigned w64 (a *ℤ b)) (a *ℤ b) = simp to_z-of_z at c.checked_mul.ensures in
    exactly_seen c.checked_mul.result (a *ℤ b) c.checked-in-Mul.result made c.checked-in-Mul.ensures
    ∙ ap (λ (op : ArithOp). seen (calculated op (Int a) (Int b))) (sym c.in-Mul.is)
