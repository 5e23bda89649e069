-- A put within a page is a write of that page.
use Rattle.std.proofs.Common.{◌≡◌, ◌≤◌, ℕ, ◌+◌, ◌*◌, List, [], ◌∷◌, length, Some, IfSome}
use Rattle.page_chain.proofs.Moments.{moment_at}
use Rattle.page_chain.specs.Disk.{DiskState, Torn}
use Rattle.page_chain.specs.Places.{KeepsPages}
use Rattle.page_chain.specs.Inner.Runs.{OnlyWrites, Sees}
use Rattle.page_chain.specs.Inner.Runs as runs
use Rattle.page_chain.specs.Puts.{OnlyPuts, SeesTorn}
use Rattle.page_chain.specs.Puts as puts
use Rattle.page_chain.proofs.PutLemmas.{if_some_with, wider}
use Rattle.page_chain.proofs.Within.{torn_within}

pub put_writes : (page at n : ℕ) (old new : DiskState) (past since : ℕ → List ℕ → Type 0) (before now : List ℕ → Type 0) → 4096 * page ≤ at → at + n ≤ 4096 * (page + 1) → ((d : List ℕ) → before d → 4096 * (page + 1) ≤ length d)
    → OnlyPuts at n (moment_at old past before) (moment_at new since now) → OnlyWrites (page ∷ []) (moment_at old past before) (moment_at new since now)
put_writes page at n old new past since before now low high each put = record {
  same = put.same;
  crash = λ c left. over c (put.crash c left);
  time = wider old.moment new.moment past since (puts.Over at n before) (runs.Over (page ∷ []) before) over put.time;
}
  where
    over : (c : List ℕ) → puts.Over at n before c → runs.Over (page ∷ []) before c
    over c h = (h.0, h.1, torn_within page at n h.0 c low high (each h.0 h.1) h.2)

pub put_sees : (page at n : ℕ) (old new : DiskState) (before : List ℕ → Type 0) → 4096 * page ≤ at → at + n ≤ 4096 * (page + 1) → ((d : List ℕ) → before d → 4096 * (page + 1) ≤ length d) → IfSome old.seen before
    → SeesTorn at n old new → Sees old new (KeepsPages (page ∷ []))
put_sees page at n old new before low high each read torn = λ honest.
    if_some_with old.seen before (λ seen. (t : List ℕ) × (new.seen ≡ Some t) × Torn at n seen t) (λ seen. (x : List ℕ) × (new.seen ≡ Some x) × KeepsPages (page ∷ []) seen x)
    (λ seen here t. (t.0, t.1, torn_within page at n seen t.0 low high (each seen here) t.2)) read (torn honest)
