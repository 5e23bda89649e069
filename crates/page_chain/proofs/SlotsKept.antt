-- What stands at a place hangs on the bytes there alone.
use Rattle.std.proofs.Common.{◌≡◌, ◌<◌, ◌≤◌, ℕ, zero, suc, ◌+◌, ◌*◌, ◌^◌, ◌%◌, true, List, [], ◌++◌, length, drop, slice_index, refl, sym, ◌∙◌, ap, subst, arith, append_assoc, length-append}
use Rattle.std.proofs.lemmas.List.{drop_at, append-nil}
use Rattle.std.proofs.lemmas.Bool.Decides.{nat_tests}
use Rattle.std.proofs.Math.Nat.{div-one, mod-eq_of_lt}
use Rattle.byteorder.specs.Endian.{little_from, little_bytes}
use Rattle.byteorder.specs.Numbers.{little_from-bytes, length-bytes_low_first}
use Rattle.page_chain.specs.Places.{number_at}
use Rattle.page_chain.specs.Roots.{root_at, has_front}
use Rattle.page_chain.specs.Logs.{record_at, IsLog}
use Rattle.page_chain.specs.declared.slots.layout.roots.Root.{Root}
use Rattle.page_chain.specs.declared.slots.layout.logs.RecordAt.{RecordAt}
use Rattle.page_chain.proofs.FieldLemmas.{number_in_rest}

-- the same bytes from place j on in one file, and from place i on in the other
moved_from : (i j n : ℕ) (old new : List ℕ) → ((k : ℕ) → k < n → slice_index new (j + k) ≡ slice_index old (i + k)) → little_from j n new ≡ little_from i n old
moved_from i j zero old new same = refl
moved_from i j (suc n) old new same =
    let first : slice_index new j ≡ slice_index old i = subst (λ (at : ℕ). slice_index new at ≡ slice_index old i) (omega arith) (subst (λ (at : ℕ). slice_index new (j + 0) ≡ slice_index old at) (omega arith) (same 0 (omega arith))) in
    let rest : little_from (suc j) n new ≡ little_from (suc i) n old = moved_from (suc i) (suc j) n old new (λ k low. next k low) in
    ap (λ (x : ℕ). x + 256 * little_from (suc j) n new) first ∙ ap (λ (x : ℕ). slice_index old i + 256 * x) rest
  where
    next : (k : ℕ) → k < n → slice_index new (suc j + k) ≡ slice_index old (suc i + k)
    next k low = subst (λ (at : ℕ). slice_index new at ≡ slice_index old (suc i + k)) (omega arith) (subst (λ (at : ℕ). slice_index new (j + suc k) ≡ slice_index old at) (omega arith) (same (suc k) (omega arith)))

pub number_kept : (n at : ℕ) (old new : List ℕ) → ((k : ℕ) → at ≤ k → k < at + n → slice_index new k ≡ slice_index old k) → number_at n at new ≡ number_at n at old
unfolding number_at
number_kept n at old new same = moved_from at at n old new (λ k low. same (at + k) (omega arith) (omega arith))

pub number_moved : (n i j : ℕ) (old new : List ℕ) → ((k : ℕ) → k < n → slice_index new (j + k) ≡ slice_index old (i + k)) → number_at n j new ≡ number_at n i old
unfolding number_at
number_moved n i j old new same = moved_from i j n old new same

abbrev root_of : ℕ → ℕ → ℕ → ℕ → Root
root_of a b c d = record { sequence = a; length = b; first = c; log = d }

same_root : (a b c d a' b' c' d' : ℕ) → a' ≡ a → b' ≡ b → c' ≡ c → d' ≡ d → root_of a' b' c' d' ≡ root_of a b c d
same_root a b c d a' b' c' d' p q r s =
    ap (λ (x : ℕ). root_of x b' c' d') p ∙ ap (λ (x : ℕ). root_of a x c' d') q ∙ ap (λ (x : ℕ). root_of a b x d') r ∙ ap (λ (x : ℕ). root_of a b c x) s

pub root_kept : (at : ℕ) (old new : List ℕ) → ((k : ℕ) → at ≤ k → k < at + 24 → slice_index new k ≡ slice_index old k) → root_at at new ≡ root_at at old
root_kept at old new same = same_root (number_at 8 at old) (number_at 8 (at + 8) old) (number_at 4 (at + 16) old) (number_at 4 (at + 20) old)
    (number_at 8 at new) (number_at 8 (at + 8) new) (number_at 4 (at + 16) new) (number_at 4 (at + 20) new)
    (number_kept 8 at old new (λ k low high. same k (omega arith) (omega arith)))
    (number_kept 8 (at + 8) old new (λ k low high. same k (omega arith) (omega arith)))
    (number_kept 4 (at + 16) old new (λ k low high. same k (omega arith) (omega arith)))
    (number_kept 4 (at + 20) old new (λ k low high. same k (omega arith) (omega arith)))

-- a root whose bytes stand at a place
pub root_moved : (at : ℕ) (body file : List ℕ) → ((k : ℕ) → k < 24 → slice_index file (at + k) ≡ slice_index body k) → root_at at file ≡ root_at 0 body
root_moved at body file same = same_root (number_at 8 0 body) (number_at 8 (0 + 8) body) (number_at 4 (0 + 16) body) (number_at 4 (0 + 20) body)
    (number_at 8 at file) (number_at 8 (at + 8) file) (number_at 4 (at + 16) file) (number_at 4 (at + 20) file)
    (number_moved 8 0 at body file (λ k low. there 0 at k (omega arith) (omega arith)))
    (number_moved 8 (0 + 8) (at + 8) body file (λ k low. there (0 + 8) (at + 8) k (omega arith) (omega arith)))
    (number_moved 4 (0 + 16) (at + 16) body file (λ k low. there (0 + 16) (at + 16) k (omega arith) (omega arith)))
    (number_moved 4 (0 + 20) (at + 20) body file (λ k low. there (0 + 20) (at + 20) k (omega arith) (omega arith)))
  where
    there : (i j k : ℕ) → j ≡ at + i → i + k < 24 → slice_index file (j + k) ≡ slice_index body (i + k)
    there i j k is low = subst (λ (place : ℕ). slice_index file place ≡ slice_index body (i + k)) (omega arith) (same (i + k) low)

-- the number whose bytes these are
spelled : (n x : ℕ) (rest : List ℕ) → x < 256 ^ n → little_from 0 n (little_bytes n x ++ rest) ≡ x
spelled n x rest small = little_from-bytes n 0 x rest ∙ ap (λ (y : ℕ). y % 256 ^ n) (div-one x) ∙ mod-eq_of_lt small

spelled_at : (n k x : ℕ) (front rest xs : List ℕ) → xs ≡ front ++ (little_bytes n x ++ rest) → length front ≡ k → x < 256 ^ n → number_at n k xs ≡ x
spelled_at n k x front rest xs is size small =
    sym (number_in_rest n k xs) ∙ ap (λ (ys : List ℕ). little_from 0 n (drop k ys)) is ∙ ap (λ (ys : List ℕ). little_from 0 n ys) (drop_at front (little_bytes n x ++ rest) k size) ∙ spelled n x rest small

abbrev pub root_bytes : Root → List ℕ
root_bytes root = little_bytes 8 root.sequence ++ little_bytes 8 root.length ++ little_bytes 4 root.first ++ little_bytes 4 root.log

eight : (x : ℕ) → length (little_bytes 8 x) ≡ 8
eight x = length-bytes_low_first 0 8 x

four : (x : ℕ) → length (little_bytes 4 x) ≡ 4
four x = length-bytes_low_first 0 4 x

-- the root of its body
pub root_spelled : (root : Root) → root.sequence < 2 ^ 64 → root.length < 2 ^ 64 → root.first < 2 ^ 32 → root.log < 2 ^ 32 → root_at 0 (root_bytes root) ≡ root
root_spelled root a b c d =
    let s = little_bytes 8 root.sequence in
    let l = little_bytes 8 root.length in
    let f = little_bytes 4 root.first in
    let g = little_bytes 4 root.log in
    let two : length (s ++ l) ≡ 16 = length-append s l ∙ ap (λ (n : ℕ). n + length l) (eight root.sequence) ∙ ap (λ (n : ℕ). 8 + n) (eight root.length) in
    let three : length (s ++ l ++ f) ≡ 20 = length-append (s ++ l) f ∙ ap (λ (n : ℕ). n + length f) two ∙ ap (λ (n : ℕ). 16 + n) (four root.first) in
    let nothing : List ℕ = [] in
    same_root root.sequence root.length root.first root.log _ _ _ _
    (spelled_at 8 0 root.sequence [] (l ++ (f ++ g)) (s ++ l ++ f ++ g) (append_assoc (s ++ l) f g ∙ append_assoc s l (f ++ g)) refl a)
    (spelled_at 8 8 root.length s (f ++ g) (s ++ l ++ f ++ g) (append_assoc (s ++ l) f g ∙ append_assoc s l (f ++ g)) (eight root.sequence) b)
    (spelled_at 4 16 root.first (s ++ l) g (s ++ l ++ f ++ g) (append_assoc (s ++ l) f g) two c)
    (spelled_at 4 20 root.log (s ++ l ++ f) [] (s ++ l ++ f ++ g) (ap (λ (ys : List ℕ). s ++ l ++ f ++ ys) (sym (append-nil g))) three d)

abbrev record_of : ℕ → ℕ → RecordAt
record_of a b = record { length = a; first = b }

same_record : (a b a' b' : ℕ) → a' ≡ a → b' ≡ b → record_of a' b' ≡ record_of a b
same_record a b a' b' p q = ap (λ (x : ℕ). record_of x b') p ∙ ap (λ (x : ℕ). record_of a x) q

pub record_kept : (at : ℕ) (old new : List ℕ) → ((k : ℕ) → at ≤ k → k < at + 12 → slice_index new k ≡ slice_index old k) → record_at at new ≡ record_at at old
record_kept at old new same = same_record (number_at 8 at old) (number_at 4 (at + 8) old) (number_at 8 at new) (number_at 4 (at + 8) new)
    (number_kept 8 at old new (λ k low high. same k (omega arith) (omega arith)))
    (number_kept 4 (at + 8) old new (λ k low high. same k (omega arith) (omega arith)))

-- a record whose bytes stand at a place
pub record_moved : (i at : ℕ) (body file : List ℕ) → ((k : ℕ) → k < 12 → slice_index file (at + k) ≡ slice_index body (i + k)) → record_at at file ≡ record_at i body
record_moved i at body file same = same_record (number_at 8 i body) (number_at 4 (i + 8) body) (number_at 8 at file) (number_at 4 (at + 8) file)
    (number_moved 8 i at body file (λ k low. same k (omega arith)))
    (number_moved 4 (i + 8) (at + 8) body file (λ k low. subst (λ (p : ℕ). slice_index file p ≡ slice_index body (i + 8 + k)) (omega arith) (subst (λ (p : ℕ). slice_index file (at + (8 + k)) ≡ slice_index body p) (omega arith) (same (8 + k) (omega arith)))))

abbrev pub record_bytes : RecordAt → List ℕ
record_bytes at = little_bytes 8 at.length ++ little_bytes 4 at.first

pub record_spelled : (at : RecordAt) → at.length < 2 ^ 64 → at.first < 2 ^ 32 → record_at 0 (record_bytes at) ≡ at
record_spelled at a b =
    let l = little_bytes 8 at.length in
    let f = little_bytes 4 at.first in
    same_record at.length at.first _ _
    (spelled_at 8 0 at.length [] f (l ++ f) refl refl a)
    (spelled_at 4 8 at.first l [] (l ++ f) (ap (λ (ys : List ℕ). l ++ ys) (sym (append-nil f))) (eight at.length) b)

-- page 0 stays right where its first twelve bytes stay
pub front_kept : (old new : List ℕ) → length old ≤ length new → ((k : ℕ) → k < 12 → slice_index new k ≡ slice_index old k) → has_front old ≡ true → has_front new ≡ true
front_kept old new longer same front =
    let text : number_at 8 0 new ≡ number_at 8 0 old = number_kept 8 0 old new (λ k low high. same k (omega arith)) in
    let format : number_at 4 8 new ≡ number_at 4 8 old = number_kept 4 8 old new (λ k low high. same k (omega arith)) in
    grind (arith, nat_tests)

-- a log page that is in another file, or in the same one, at another place
pub log_moved : (i j : ℕ) (records : List RecordAt) (old new : List ℕ) → ((k : ℕ) → k < 4096 → slice_index new (j + k) ≡ slice_index old (i + k)) → IsLog i records old → IsLog j records new
log_moved i j records old new same log = record {
  fits = log.fits;
  opened = λ k low. let here : slice_index new (j + 64 * k) ≡ slice_index old (i + 64 * k) = same (64 * k) (omega (arith, log.fits)) in here ∙ log.opened k low;
  closed = λ k low high. λ is. let here : slice_index new (j + 64 * k) ≡ slice_index old (i + 64 * k) = same (64 * k) (omega arith) in log.closed k low high (sym here ∙ is);
  each = λ d k low. log.each d k low ∙ sym (record_moved (i + 64 * k + 8) (j + 64 * k + 8) old new (λ m small.
      subst (λ (p : ℕ). slice_index new p ≡ slice_index old (i + 64 * k + 8 + m)) (omega arith) (subst (λ (p : ℕ). slice_index new (j + (64 * k + 8 + m)) ≡ slice_index old p) (omega arith) (same (64 * k + 8 + m) (omega (arith, log.fits))))));
}
