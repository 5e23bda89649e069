-- Chains and blobs of a file whose pages have six bytes: four for the number of the next page, and two of content.
use Rattle.std.proofs.Common.{◌≡◌, ℕ, List, [], ◌∷◌, ◌++◌, refl}
use Rattle.std.specs.Prelude.{Some, Ok, Err}
use Rattle.page_chain.specs.Pages.{pages_for, blob, first_past, piece_of}
use Rattle.page_chain.specs.Chains.{chain, chain_bytes}

-- page 0, and a page that begins with the number of the next one
front : List ℕ
front = 9 ∷ 9 ∷ 9 ∷ 9 ∷ 9 ∷ 9 ∷ []

page : ℕ → ℕ → ℕ → List ℕ
page next a b = next ∷ 0 ∷ 0 ∷ 0 ∷ a ∷ b ∷ []

-- the chain 2, 1 of the bytes 7, 8, 5
good : List ℕ
good = front ++ page 0 5 0 ++ page 1 7 8

reads : chain 6 good [] 0 2 3 ≡ Ok (2 ∷ 1 ∷ [])
unfolding good front page
reads = refl

has_bytes : chain_bytes 6 good (2 ∷ 1 ∷ []) 3 ≡ 7 ∷ 8 ∷ 5 ∷ []
unfolding good front page
has_bytes = refl

-- no bytes: the first link is wrong
empty : chain 6 good [] 0 2 0 ≡ Err 0
unfolding good front page
empty = refl

-- more bytes than the chain has pages for: page 1 holds a zero too early
too_short : chain 6 good [] 0 2 5 ≡ Err 1
unfolding good front page
too_short = refl

-- fewer bytes: page 2 holds a link where a zero is due
too_long : chain 6 good [] 0 2 2 ≡ Err 2
unfolding good front page
too_long = refl

-- page 0, a page past the end and a page that is taken are no pages of a chain
front_page : chain 6 good [] 0 0 3 ≡ Err 0
unfolding good front page
front_page = refl

past_the_end : chain 6 good [] 9 3 3 ≡ Err 9
unfolding good front page
past_the_end = refl

taken_page : chain 6 good (1 ∷ []) 0 2 3 ≡ Err 2
unfolding good front page
taken_page = refl

-- pages 1 and 2 name each other: page 2 holds the link to a page that was read
cycle : chain 6 (front ++ page 2 5 0 ++ page 1 7 8) [] 0 1 6 ≡ Err 2
unfolding front page
cycle = refl

-- a page that the file has in part is not whole
cut : first_past 6 (front ++ page 0 5 0 ++ 1 ∷ 2 ∷ []) (1 ∷ 0 ∷ 2 ∷ 3 ∷ []) ≡ Some 2
unfolding front page
cut = refl

blob_bytes : blob 6 good (2 ∷ 0 ∷ []) 8 ≡ 1 ∷ 0 ∷ 0 ∷ 0 ∷ 7 ∷ 8 ∷ 9 ∷ 9 ∷ []
unfolding good front page
blob_bytes = refl

-- 9 bytes lie in two pages of six, and in five of two
counts : (pages_for 6 9 ≡ 2) × (pages_for 2 9 ≡ 5) × (pages_for 6 0 ≡ 0) × (pages_for 6 6 ≡ 1)
counts = (refl, refl, refl, refl)

last_piece : piece_of 4 (1 ∷ 2 ∷ 3 ∷ 4 ∷ 5 ∷ []) 1 ≡ 5 ∷ 0 ∷ 0 ∷ 0 ∷ []
last_piece = refl
