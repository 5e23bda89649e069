-- Parts of a reading that are read or stop, one behind the other.
use Rattle.std.proofs.Common.{◌≡◌, ℕ, Bool, true, cond, List, length, Result, Ok, Err, sym, ap, subst, ◌∙◌}
use Rattle.file_items.specs.Items.{◌>>=◌, Reading, item, Stopped}
use Rattle.file_items.specs.declared.bytes.stop.Stop.{Stop}
use Rattle.file_items.proofs.Puts.{stops_then}

-- a part that is read, and a stop behind it
pub stops_behind : {A B : Type 0} (stop : Stop) (part : Result A ℕ) (x : A) (more : A → Result B ℕ) → part ≡ Ok x → Stopped stop (more x) → Stopped stop (part >>= more)
stops_behind {B = B} stop part x more read stopped = subst (λ r. Stopped stop (r >>= more)) (sym read) stopped

-- a part that is read, and what is read behind it
pub reads_behind : {A B : Type 0} (part : Result A ℕ) (x : A) (more : A → Result B ℕ) (all : Result B ℕ) → part ≡ Ok x → more x ≡ all → (part >>= more) ≡ all
reads_behind part x more all read behind = ap (λ r. r >>= more) read ∙ behind

-- an item that is cut, passes its test, or fails it
pub item_stops : {A : Type 0} (reads : Reading A) (test : A → Bool) (bytes : List ℕ) (stop : Stop) → Stopped stop (reads bytes) → Stopped stop (item reads test bytes)
item_stops reads test bytes stop stopped = stops_then stop (reads bytes) (λ x. cond (test x.0) (Ok x) (Err (length bytes))) stopped

pub item_passes : {A : Type 0} (reads : Reading A) (test : A → Bool) (bytes : List ℕ) (x : A) (rest : List ℕ) → reads bytes ≡ Ok (x, rest) → test x ≡ true → item reads test bytes ≡ Ok (x, rest)
item_passes {A} reads test bytes x rest read passes =
    reads_behind (reads bytes) (x, rest) (λ x. cond (test x.0) (Ok x) (Err (length bytes))) (Ok (x, rest)) read (ap (λ (b : Bool). cond b (Ok (x, rest)) (Err (length bytes))) passes)
