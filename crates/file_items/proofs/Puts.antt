-- Bytes that are put one after the other, and a stop that is handed on.
use Rattle.std.proofs.Common.{◌≡◌, ◌≤◌, ◌<◌, ℕ, ◌+◌, ◌-◌, List, [], ◌∷◌, ◌++◌, length, take, drop, slice_index, slice_index_or, Result, Ok, Err, sym, ap, subst, ◌∙◌, append_assoc, arith}
use Rattle.std.specs.List.{flat_map}
use Rattle.std.specs.Result.{IsErrAnd}
use Rattle.std.proofs.lemmas.List.{append-nil, take_all, take_more}
use Rattle.std.proofs.lemmas.Grind.{flat_map-append}
use Rattle.file_items.specs.Items.{◌>>=◌, IsRead, Stopped}
use Rattle.file_items.specs.declared.bytes.stop.Stop.{Stop}
use Rattle.file_items.specs.declared.bytes.stop.Stop.TheVariants as stops

pub put_two : (old one two a b : List ℕ) → one ≡ old ++ a → two ≡ one ++ b → two ≡ old ++ (a ++ b)
put_two old one two a b e f = f ∙ ap (λ (m : List ℕ). m ++ b) e ∙ append_assoc old a b

pub put_three : (old one two three a b c : List ℕ) → one ≡ old ++ a → two ≡ one ++ b → three ≡ two ++ c → three ≡ old ++ (a ++ (b ++ c))
put_three old one two three a b c e f g = put_two old one three a (b ++ c) e (put_two one two three b c f g)

-- a number that was cast and cast back
pub put_same : {A : Type 0} (spell : A → List ℕ) (old new : List ℕ) (x y : A) → x ≡ y → new ≡ old ++ spell x → new ≡ old ++ spell y
put_same {A = A} spell old new x y same put = put ∙ ap (λ (z : A). old ++ spell z) same

-- one more of a list
pub put_more_or : {A : Type 0} (spell : A → List ℕ) (old head out out' : List ℕ) (xs : List A) (i : ℕ) (x d : A) → i < length xs → x ≡ slice_index_or xs i d
    → out ≡ old ++ (head ++ flat_map spell (take i xs)) → out' ≡ out ++ spell x → out' ≡ old ++ (head ++ flat_map spell (take (i + 1) xs))
put_more_or {A = A} spell old head out out' xs i x d low is before put =
    let longer : take (i + 1) xs ≡ take i xs ++ x ∷ [] = take_more xs i d low ∙ ap (λ (y : A). take i xs ++ y ∷ []) (sym is) in
    let spelled : flat_map spell (take (i + 1) xs) ≡ flat_map spell (take i xs) ++ spell x =
    ap (flat_map spell) longer ∙ flat_map-append spell (take i xs) (x ∷ []) ∙ ap (λ (t : List ℕ). flat_map spell (take i xs) ++ t) (append-nil (spell x)) in
    put ∙ ap (λ (t : List ℕ). t ++ spell x) before ∙ append_assoc old (head ++ flat_map spell (take i xs)) (spell x)
    ∙ ap (λ (t : List ℕ). old ++ t) (append_assoc head (flat_map spell (take i xs)) (spell x) ∙ ap (λ (t : List ℕ). head ++ t) (sym spelled))

pub put_more : {A : Type 0} (spell : A → List ℕ) (old head out out' : List ℕ) (xs : List A) (i : ℕ) (x : A) → i < length xs → x ≡ slice_index_or xs i x
    → out ≡ old ++ (head ++ flat_map spell (take i xs)) → out' ≡ out ++ spell x → out' ≡ old ++ (head ++ flat_map spell (take (i + 1) xs))
put_more spell old head out out' xs i x = put_more_or spell old head out out' xs i x x

-- the call that stops ends the reading
pub stop_handed : {X Y : Type 0} (view : X → Y) (r : Result X Stop) (stop : Stop) (reading : Result Y ℕ) → IsErrAnd r (λ e. e ≡ stop) → Stopped stop reading → IsRead view r reading
stop_handed view (Ok x) stop reading is stopped = absurd is
stop_handed view (Err e) stop reading is stopped = subst (λ (s : Stop). Stopped s reading) (sym is) stopped

pub stops_then : {A B : Type 0} (stop : Stop) (reading : Result A ℕ) (more : A → Result B ℕ) → Stopped stop reading → Stopped stop (reading >>= more)
stops_then stops.Memory reading more stopped = tt
stops_then (stops.Left left) reading more stopped = ap (λ r. r >>= more) stopped

-- the number of a kind, and the bytes behind it
pub behind_kind : (kind : ℕ) (bytes : List ℕ) → 1 ≤ length bytes → slice_index bytes 0 ≡ kind → bytes ≡ kind ∷ take (length bytes - 1) (drop 1 bytes)
behind_kind kind [] some first = absurd (omega (arith, some))
behind_kind kind (b ∷ bytes) some first =
    let all : length bytes ≤ length (b ∷ bytes) - 1 = omega arith in
    ap (λ (n : ℕ). n ∷ bytes) first ∙ ap (λ (xs : List ℕ). kind ∷ xs) (sym (take_all (length (b ∷ bytes) - 1) bytes all))
