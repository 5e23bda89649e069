-- Texts in quotes: `'`, the content, `'`. In the content `\'` stands for `'` and `\\` for `\`, and any other byte for itself.
use Rattle.std.specs.Prelude.{◌≡◌, ℕ, ◌-◌, Bool, true, false, not, ◌||◌, ◌==◌, IsTrue, List, [], ◌∷◌, ◌++◌, length, map, slice_range, if◌then◌else◌}
use Rattle.std.specs.List.{list_all}

-- the bytes one by one, a `\` with the byte behind it
abbrev pub items : List ℕ → List (List ℕ)
items [] = []
items (b ∷ []) = (b ∷ []) ∷ []
items (b ∷ c ∷ rest) = if b == 92 then (b ∷ c ∷ []) ∷ items rest else (b ∷ []) ∷ items (c ∷ rest)

-- a byte that is neither `'` nor `\`, or a `\` with the byte behind it
abbrev pub is_item : List ℕ → Bool
is_item [] = false
is_item (b ∷ []) = not (b == 39 || b == 92)
is_item (b ∷ c ∷ rest) = true

-- no `\` stands before another byte than `'` and `\`
abbrev pub is_known : List ℕ → Bool
is_known [] = true
is_known (b ∷ []) = true
is_known (b ∷ c ∷ rest) = c == 39 || c == 92

-- the byte that an item stands for
abbrev pub byte_of : List ℕ → ℕ
byte_of [] = 0
byte_of (b ∷ []) = b
byte_of (b ∷ c ∷ rest) = c

-- the bytes without the first and the last
abbrev pub inside : List ℕ → List ℕ
inside bytes = slice_range bytes 1 (length bytes - 1)

-- the items of a text
abbrev pub items_of : List ℕ → List (List ℕ)
items_of bytes = items (inside bytes)

-- the content of a text
abbrev pub content_of : List ℕ → List ℕ
content_of bytes = map byte_of (items_of bytes)

-- `'`, items, `'`
pub record IsText (bytes : List ℕ) : Type 0 where
  pub quotes : bytes ≡ 39 ∷ inside bytes ++ 39 ∷ []
  pub closed : IsTrue (list_all is_item (items_of bytes))
