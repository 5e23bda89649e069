use Rattle.page_file.proofs.Puts.{put_writes, put_sees}
use Rattle.page_file.proofs.page_writes.puts_are_writes.Goals as goal

pub returns : goal.returns
returns g c = λ page at n old new low high each puts.
    let a = g.D.Disk.moment old in
    let b = g.D.Disk.moment new in (
      put_writes page at n a.state b.state a.left_since b.left_since a.may_leave b.may_leave low high each puts,
      put_sees page at n a.state b.state a.may_leave low high each (g.met.D.Disk.as_read old) puts.seen,
    )
