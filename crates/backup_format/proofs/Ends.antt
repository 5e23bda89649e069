-- Ends of bytes, and lists with one more item.
use Rattle.std.proofs.Common.{◌≡◌, ℕ, suc, List, [], ◌∷◌, ◌++◌, map, Ok, refl, sym, ap, subst, ◌∙◌, append_assoc}
use Rattle.file_items.specs.Items.{Reading}
use Rattle.file_items.proofs.BytesLaws.{AreBytes, Reads}
use Rattle.backup_format.specs.PiecePlaces.{EndsWith}

pub map_push : {A B : Type 0} (f : A → B) (xs : List A) (x : A) → map f (xs ++ x ∷ []) ≡ map f xs ++ f x ∷ []
map_push f [] x = refl
map_push {B = B} f (y ∷ xs) x = ap (λ (ys : List B). f y ∷ ys) (map_push f xs x)

later_bytes : (b : ℕ) (bytes : List ℕ) → AreBytes (b ∷ bytes) → AreBytes bytes
later_bytes b bytes small i = small (suc i)

rest_bytes : (text rest : List ℕ) → AreBytes (text ++ rest) → AreBytes rest
rest_bytes [] rest small = small
rest_bytes (b ∷ text) rest small = rest_bytes text rest (later_bytes b (text ++ rest) small)

-- the end of bytes are bytes
pub end_small : (whole rest : List ℕ) → AreBytes whole → EndsWith whole rest → AreBytes rest
end_small whole rest small end = rest_bytes end.0 rest (subst AreBytes end.1 small)

pub end_behind : (whole bytes text rest : List ℕ) → bytes ≡ text ++ rest → EndsWith whole bytes → EndsWith whole rest
end_behind whole bytes text rest e end = (end.0 ++ text, end.1 ∙ ap (λ (t : List ℕ). end.0 ++ t) e ∙ sym (append_assoc end.0 text rest))

-- what follows a value that was read
pub end_after : {A : Type 0} (reads : Reading A) (spell : A → List ℕ) (Good : A → Type 0) → Reads reads spell Good → (whole bytes : List ℕ) (x : A) (rest : List ℕ) → AreBytes whole → EndsWith whole bytes → reads bytes ≡ Ok (x, rest) → EndsWith whole rest
end_after reads spell Good laws whole bytes x rest small end read =
    end_behind whole bytes (spell x) rest (laws.takes bytes x rest (end_small whole bytes small end) read).0.joined end

pub whole_ends : (bytes : List ℕ) → EndsWith bytes bytes
whole_ends bytes = ([], refl)
