-- What a writer of records has written.
use Rattle.std.specs.Prelude.{◌≡◌, ℕ, true, false, List, ◌++◌, Vec}
use Rattle.std.specs.declared.alloc.Global.{Global}
use Rattle.csv.specs.Writing.{default_writer, fields_written, has_written, with_flexible, writer_pending, writer_setup, writer_under}
use Rattle.csv.specs.declared.writer.Writer.{Writer}
use Rattle.csv.specs.declared.writer.WriterBuilder.{WriterBuilder}

-- records of any lengths, and else as by default
abbrev pub any_lengths : WriterBuilder
any_lengths = with_flexible default_writer true

-- the text so far
abbrev pub written : Writer (Vec ℕ Global) → List ℕ
written w = (writer_under w).items ++ writer_pending w

-- it stands before a record
pub record IsReady (w : Writer (Vec ℕ Global)) : Type 0 where
  pub settings : writer_setup w ≡ any_lengths
  pub fields : fields_written w ≡ 0
  pub clean : has_written w ≡ false
