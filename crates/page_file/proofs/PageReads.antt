-- A page that was read.
use Rattle.std.proofs.Common.{◌≡◌, ◌⊎◌, inr, ⊎_elim, ℕ, ◌+◌, ◌*◌, List, length, take, drop, slice_index, ◌==◌, Bool, false, IsTrue, MatchBool, Option, None, Some, IfSome, refl, sym, ◌∙◌, ap, subst, arith}
use Rattle.std.proofs.lemmas.List.{get_or-take, get_or-drop}
use Rattle.std.proofs.lemmas.Bool.{cases_eq, false≢true}
use Rattle.std.proofs.lemmas.Bool.Decides.{nat_tests}
use Rattle.page_chain.proofs.Moments.{moment_at, started}
use Rattle.page_chain.proofs.RunLemmas.{stands}
use Rattle.page_chain.specs.Counts.{Rose}
use Rattle.page_chain.specs.Disk.{ReadsAt, DiskGoesOn, DiskState}
use Rattle.page_chain.specs.Puts.{OnlySyncs}
use Rattle.page_chain.proofs.PutLemmas.{goes_twice, if_some}
use Rattle.page_chain.specs.declared.fault.OpenCause.{OpenCause}
use Rattle.page_chain.specs.declared.fault.OpenCause.TheVariants.{Disk, NotDatabase, Memory}
use Rattle.page_file.specs.OpeningOpened.{HasPage, CutsPage, HasCause, IsDeviceFault}

pub page_whole : (number count : ℕ) (page seen : List ℕ) → length page ≡ 4096 → ReadsAt seen (number * 4096) count page → count ≡ 4096 → HasPage number page seen
page_whole number count page seen size read is = record {
  whole = omega (arith, read.most);
  bytes = λ k low.
      let same : slice_index (take count page) k ≡ slice_index (take count (drop (number * 4096) seen)) k = ap (λ (xs : List ℕ). slice_index xs k) read.bytes in
      sym (get_or-take count page k 0 (omega arith)) ∙ same ∙ get_or-take count (drop (number * 4096) seen) k 0 (omega arith) ∙ get_or-drop (number * 4096) seen k 0
      ∙ ap (λ (m : ℕ). slice_index seen m) (place k);
}
  where
    place : (k : ℕ) → number * 4096 + k ≡ 4096 * number + k
    place k = omega arith

pub page_cut : (number count : ℕ) (page seen : List ℕ) → length page ≡ 4096 → ReadsAt seen (number * 4096) count page → (count ≡ 4096 → ⊥) → CutsPage number seen
page_cut number count page seen size read differs = omega (arith, read.most)

-- all of the page or not
pub page_read : (number count : ℕ) (page seen : List ℕ) → length page ≡ 4096 → ReadsAt seen (number * 4096) count page → MatchBool (count == 4096) (HasPage number page seen) (CutsPage number seen)
page_read number count page seen size read = ⊎_elim all some (cases_eq count 4096)
  where
    all : count ≡ 4096 → MatchBool (count == 4096) (HasPage number page seen) (CutsPage number seen)
    all is = subst (λ (n : ℕ). MatchBool (n == 4096) (HasPage number page seen) (CutsPage number seen)) (sym is) (page_whole number count page seen size read is)

    some : (count ≡ 4096 → ⊥) → MatchBool (count == 4096) (HasPage number page seen) (CutsPage number seen)
    some differs =
        let no : (count == 4096) ≡ false = grind (arith, nat_tests) in
        subst (λ (b : Bool). MatchBool b (HasPage number page seen) (CutsPage number seen)) (sym no) (page_cut number count page seen size read differs)

pub page_told : (number count : ℕ) (page : List ℕ) (seen : Option (List ℕ)) → length page ≡ 4096 → IfSome seen (λ file. ReadsAt file (number * 4096) count page)
    → IfSome seen (λ file. MatchBool (count == 4096) (HasPage number page file) (CutsPage number file))
page_told number count page seen size read = if_some seen (λ file. ReadsAt file (number * 4096) count page) (λ file. MatchBool (count == 4096) (HasPage number page file) (CutsPage number file))
    (λ file told. page_read number count page file size told) read

-- a call that failed, and not by a fault, found no memory
pub want_left : (a b w v x y : ℕ) (risen : Bool) → x ≡ a → y ≡ b → (Rose x y → IsTrue risen) → risen ≡ false → Rose a b ⊎ Rose w v → Rose w v
want_left a b w v x y risen before now told none cause =
    ⊎_elim (λ fault. absurd (false≢true (sym none ∙ told (omega (arith, before, now, fault))))) (λ want. want) cause

-- two runs of calls that write nothing
pub syncs_twice : (a b c : DiskState) (past between since : ℕ → List ℕ → Type 0) (before mid now : List ℕ → Type 0) → OnlySyncs (moment_at a past before) (moment_at b between mid) → OnlySyncs (moment_at b between mid) (moment_at c since now) → OnlySyncs (moment_at a past before) (moment_at c since now)
syncs_twice a b c past between since before mid now first then_ = record {
  same = goes_twice a b c first.same then_.same;
  seen = then_.seen ∙ first.seen;
  crash = λ f left. first.crash f (then_.crash f left);
  time = record {
    later = omega (arith, first.time.later, then_.time.later);
    each = λ f left. ⊎_elim (first.time.each f) (first.crash f) (then_.time.earlier a.moment f first.time.later left);
    earlier = λ t f le left. ⊎_elim (first.time.earlier t f le) (λ is. inr (first.crash f is)) (then_.time.earlier t f (omega (arith, le, first.time.later)) left);
  };
}

-- a run that does nothing writes nothing
pub syncs_none : (s : DiskState) (past : ℕ → List ℕ → Type 0) (before : List ℕ → Type 0) → ((c : List ℕ) → past s.moment c → before c) → OnlySyncs (moment_at s past before) (moment_at s past before)
syncs_none s past before only = record {
  same = stands s;
  seen = refl;
  crash = λ c left. left;
  time = started s.moment past before only;
}

-- nothing is said of what was read
pub nothing_told : (o : Option (List ℕ)) → IfSome o (λ seen. Unit {0})
nothing_told None = tt
nothing_told (Some seen) = tt

-- ---- why a call failed

pub device_cause : (fault : OpenCause) (old new : DiskState) → IsDeviceFault fault old new → HasCause fault old new
device_cause Disk old new is = is
device_cause (NotDatabase page) old new is = tt
device_cause Memory old new is = is

-- what failed after another call has its cause since before that one
pub cause_then : (fault : OpenCause) (a b c : DiskState) → DiskGoesOn a b → HasCause fault b c → HasCause fault a c
cause_then Disk a b c same rose = omega (arith, same.later, rose)
cause_then (NotDatabase page) a b c same rose = tt
cause_then Memory a b c same rose = omega (arith, same.wants_later, rose)
