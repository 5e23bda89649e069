-- What the calls that make a file a database write.
use Rattle.std.specs.Prelude.{◌≡◌, ℕ, List, [], ◌∷◌, IsTrue, Some, IfSome}
use Rattle.page_chain.specs.Disk.{DiskState, written}

-- the text AFLSTORE, and the number 2 in four bytes
abbrev pub head_bytes : List ℕ
head_bytes = 65 ∷ 70 ∷ 76 ∷ 83 ∷ 84 ∷ 79 ∷ 82 ∷ 69 ∷ 2 ∷ 0 ∷ 0 ∷ 0 ∷ []

-- the file once the closed slots are written
unfoldable pub laid : List ℕ → List ℕ → List ℕ
laid body file = written 520 body (written 0 head_bytes (written 12287 (0 ∷ []) file))

-- the file once slot A is open
unfoldable pub made : List ℕ → List ℕ → List ℕ
made body file = written 512 (2 ∷ []) (laid body file)

-- an honest disk that tells its bytes holds what is made of them
abbrev pub Lays : (List ℕ → List ℕ) → DiskState → DiskState → Type 0
Lays step old new = IsTrue old.honest → IfSome old.seen (λ seen. new.seen ≡ Some (step seen))
