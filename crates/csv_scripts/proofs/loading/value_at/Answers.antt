use Rattle.csv_scripts.proofs.loading.value_at.Goals as goal

pub returns-in-Some : goal.returns-in-Some
returns-in-Some c = rw (c.in-Some.is, c.decimals_at.ensures, c.as_slice-columns.ensures, c.field_of-field.ensures) at c.in_ok-value.ensures
