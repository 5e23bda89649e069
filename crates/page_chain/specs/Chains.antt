-- Chains: pages each of which begins with the number of the next one, in four bytes, and has content behind it.
use Rattle.std.specs.Prelude.{◌≡◌, ℕ, zero, suc, ◌-◌, ◌+◌, List, [], ◌∷◌, ◌++◌, take, drop, slice_index, flat_map}
use Rattle.std.specs.Prelude.{Bool, true, false, not, nat_eq, nat_lt, ◌&&◌, ◌==◌, if◌then◌else◌, Result, Ok, Err}
use Rattle.std.specs.Int.{w32, to_le_bytes, from_le_bytes}
use Rattle.std.specs.List.{list_any}
use Rattle.std.specs.Ordering.{nat_cmp}
use Rattle.std.specs.FinSet.{FinSet, from_list}
use Rattle.page_chain.specs.Pages.{page_size, page_at, has_page, pages_for, piece_of, HoldsPieces}
use Rattle.page_chain.specs.declared.fault.OpenCause.{OpenCause}
use Rattle.page_chain.specs.declared.fault.OpenCause.TheVariants.{Disk, NotDatabase, Memory}

-- the content's bytes in a page, behind the number of the next page
abbrev pub content_size : ℕ → ℕ
content_size size = size - 4

-- the number with which a page begins: that of the next page, and 0 in the last one
abbrev pub next_of : ℕ → List ℕ → ℕ → ℕ
next_of size file page = from_le_bytes w32 (take 4 (page_at size file page))

abbrev pub content_of : ℕ → List ℕ → ℕ → List ℕ
content_of size file page = drop 4 (page_at size file page)

-- whether a link names a page: one that isn't page 0, that the file has whole, and that isn't taken
abbrev pub names_page : ℕ → List ℕ → List ℕ → ℕ → Bool
names_page size file taken link = nat_lt 0 link && has_page size file link && not (list_any (λ page. nat_eq page link) taken)

-- what is behind a page, with this page before it
abbrev pub after : ℕ → Result (List ℕ) ℕ → Result (List ℕ) ℕ
after page (Ok pages) = Ok (page ∷ pages)
after page (Err holder) = Err holder

-- The pages to which a link leads, where so many of them are due, or the page that holds the first wrong link. While pages are due a
-- link has to name one, which is taken from then on. The last one's link is 0.
abbrev pub follow : ℕ → List ℕ → List ℕ → ℕ → ℕ → ℕ → Result (List ℕ) ℕ
follow size file taken holder link zero = if link == 0 then Ok [] else Err holder
follow size file taken holder link (suc due) =
    if names_page size file taken link then after link (follow size file (link ∷ taken) link (next_of size file link) due) else Err holder

-- The pages of a chain of so many bytes, whose first link stands in the page `holder`. A chain of no bytes has a wrong first link.
abbrev pub chain : ℕ → List ℕ → List ℕ → ℕ → ℕ → ℕ → Result (List ℕ) ℕ
chain size file taken holder first count =
    if count == 0 then Err holder else follow size file taken holder first (pages_for (content_size size) count)

-- the bytes of a chain with these pages
abbrev pub chain_bytes : ℕ → List ℕ → List ℕ → ℕ → List ℕ
chain_bytes size file pages count = take count (flat_map (content_of size file) pages)

-- What reading a chain answers: its bytes and its pages, or the page that holds the first wrong link.
abbrev pub IsChainRead : List ℕ → List ℕ → ℕ → ℕ → ℕ → Result (List ℕ × List ℕ) OpenCause → Type 0
IsChainRead file taken holder first count (Ok x) = (chain page_size file taken holder first count ≡ Ok x.1) × (x.0 ≡ chain_bytes page_size file x.1 count)
IsChainRead file taken holder first count (Err Disk) = Unit {0}
IsChainRead file taken holder first count (Err (NotDatabase page)) = chain page_size file taken holder first count ≡ Err page
IsChainRead file taken holder first count (Err Memory) = Unit {0}

-- What following one link answers: the link of the page that it names, whose bytes are read and which is taken from then on. A link
-- that names none is told by the page that holds it.
abbrev pub IsFollowed : List ℕ → List ℕ → ℕ → ℕ → FinSet nat_cmp → List ℕ → Result ℕ OpenCause → Type 0
IsFollowed file taken holder link used piece (Ok next) = (names_page page_size file taken link ≡ true) × (next ≡ next_of page_size file link)
    × (used ≡ from_list (link ∷ taken)) × (piece ≡ page_at page_size file link)
IsFollowed file taken holder link used piece (Err Disk) = Unit {0}
IsFollowed file taken holder link used piece (Err (NotDatabase page)) = (page ≡ holder) × (names_page page_size file taken link ≡ false)
IsFollowed file taken holder link used piece (Err Memory) = Unit {0}

-- a chain's page of this number among its pages: its piece of the bytes, behind the number of the next page
abbrev pub chain_piece : ℕ → List ℕ → List ℕ → ℕ → List ℕ
chain_piece size pages bytes number = to_le_bytes w32 (slice_index pages (number + 1)) ++ piece_of (content_size size) bytes number

-- the pages have these bytes as a chain
abbrev pub HoldsChain : ℕ → List ℕ → List ℕ → List ℕ → Type 0
HoldsChain size file pages bytes = HoldsPieces size file pages (chain_piece size pages bytes)
