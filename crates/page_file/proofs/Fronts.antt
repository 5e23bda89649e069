-- The current slot of page 0 and the other one.
use Rattle.std.proofs.Common.{◌≡◌, ◌≢◌, ◌<◌, ◌≤◌, ◌⊎◌, inl, inr, ⊎_elim, ℕ, List, slice_index, if◌then◌else◌, Bool, true, Option, Some, None, refl, sym, ◌∙◌, ap, subst, arith}
use Rattle.std.proofs.lemmas.Bool.{cases_lt}
use Rattle.std.proofs.lemmas.Bool.Decides.{nat_tests}
use Rattle.page_chain.specs.Places.{gate_of, body_of, other}
use Rattle.page_chain.specs.Roots.{has_front, root_at, slot_in, opened, newer, current}
use Rattle.page_chain.specs.declared.slots.layout.sides.Side.{Side}
use Rattle.page_chain.specs.declared.slots.layout.sides.Side.TheVariants.{A, B}
use Rattle.page_chain.specs.declared.slots.layout.sides.Format.{Format}
use Rattle.page_chain.specs.declared.slots.layout.sides.Format.TheVariants.{One, Two}
use Rattle.page_chain.specs.declared.slots.layout.roots.Root.{Root}
use Rattle.page_chain.specs.declared.slots.layout.roots.OpenRoot.{OpenRoot}
use Rattle.page_chain.specs.Standing.{root_in}
use Rattle.page_chain.proofs.RootImages.{opened_cases}
use Rattle.page_chain.proofs.Opening.{same_sequence}

-- what the current slot is, and the other one beside it
pub record Chosen (it : OpenRoot) (file : List ℕ) : Type 0 where
  pub front : has_front file ≡ true
  pub here : slot_in it.side file ≡ Some it
  pub beside : (slot_in (other it.side) file ≡ None) ⊎ ((older : OpenRoot) × (slot_in (other it.side) file ≡ Some older) × (older.root.sequence < it.root.sequence))

same_side : (format : Format) (side : Side) (r : Root) → (root_in format side r).side ≡ side
same_side One side r = refl
same_side Two side r = refl

-- an open slot knows which one it is
its_side : (side : Side) (file : List ℕ) (it : OpenRoot) → slot_in side file ≡ Some it → it.side ≡ side
its_side side file it is = ⊎_elim (λ none. never none) (λ open_. as_it open_.0 open_.1) (opened_cases side (slice_index file (gate_of side)) (root_at (body_of side) file))
  where
    never : slot_in side file ≡ None → it.side ≡ side
    never none = let both : Some it ≡ None = sym is ∙ none in cc

    as_it : (format : Format) → slot_in side file ≡ Some (root_in format side (root_at (body_of side) file)) → it.side ≡ side
    as_it format that =
        let both : Some (root_in format side (root_at (body_of side) file)) ≡ Some it = sym that ∙ is in
        let same_slot : root_in format side (root_at (body_of side) file) ≡ it = cc in
        ap (λ (o : OpenRoot). o.side) (sym same_slot) ∙ same_side format side (root_at (body_of side) file)

-- this one is it, and the other is closed or older
abbrev Leads : Option OpenRoot → Option OpenRoot → OpenRoot → Type 0
Leads a b it = (a ≡ Some it) × ((b ≡ None) ⊎ ((older : OpenRoot) × (b ≡ Some older) × (older.root.sequence < it.root.sequence)))

-- the newer of two
newer_is : (a b : Option OpenRoot) (it : OpenRoot) → newer a b ≡ Some it → Leads a b it ⊎ Leads b a it
newer_is None b it is = inr (is, inl refl)
newer_is (Some a) None it is = inl (is, inl refl)
newer_is (Some a) (Some b) it is = ⊎_elim first (λ more. ⊎_elim second (λ less. equal more less) (cases_lt a.root.sequence b.root.sequence)) (cases_lt b.root.sequence a.root.sequence)
  where
    first : b.root.sequence < a.root.sequence → Leads (Some a) (Some b) it ⊎ Leads (Some b) (Some a) it
    first less =
        let picked : newer (Some a) (Some b) ≡ Some a = grind (arith, nat_tests) in
        let same : Some a ≡ Some it = sym picked ∙ is in
        let it_is : a ≡ it = cc in
        inl (same, inr (b, refl, subst (λ (o : OpenRoot). b.root.sequence < o.root.sequence) it_is less))

    second : a.root.sequence < b.root.sequence → Leads (Some a) (Some b) it ⊎ Leads (Some b) (Some a) it
    second less =
        let picked : newer (Some a) (Some b) ≡ Some b = grind (arith, nat_tests) in
        let same : Some b ≡ Some it = sym picked ∙ is in
        let it_is : b ≡ it = cc in
        inr (same, inr (a, refl, subst (λ (o : OpenRoot). a.root.sequence < o.root.sequence) it_is less))

    equal : a.root.sequence ≤ b.root.sequence → b.root.sequence ≤ a.root.sequence → Leads (Some a) (Some b) it ⊎ Leads (Some b) (Some a) it
    equal below above =
        let picked : newer (Some a) (Some b) ≡ None = grind (arith, nat_tests) in
        let both : Some it ≡ None = sym is ∙ picked in
        cc

front_is : (file : List ℕ) (it : OpenRoot) → current file ≡ Some it → has_front file ≡ true
front_is file it is = grind (arith, nat_tests)

current_newer : (file : List ℕ) (it : OpenRoot) → has_front file ≡ true → current file ≡ Some it → newer (slot_in A file) (slot_in B file) ≡ Some it
current_newer file it front is = sym (ap (λ (b : Bool). if b then newer (slot_in A file) (slot_in B file) else None) front) ∙ is

pub chosen : (file : List ℕ) (it : OpenRoot) → current file ≡ Some it → Chosen it file
chosen file it is = ⊎_elim at_a at_b (newer_is (slot_in A file) (slot_in B file) it (current_newer file it (front_is file it is) is))
  where
    at_a : Leads (slot_in A file) (slot_in B file) it → Chosen it file
    at_a leads =
        let side : it.side ≡ A = its_side A file it leads.0 in
        record {
          front = front_is file it is;
          here = subst (λ (s : Side). slot_in s file ≡ Some it) (sym side) leads.0;
          beside = subst (λ (s : Side). (slot_in (other s) file ≡ None) ⊎ ((older : OpenRoot) × (slot_in (other s) file ≡ Some older) × (older.root.sequence < it.root.sequence))) (sym side) leads.1;
        }

    at_b : Leads (slot_in B file) (slot_in A file) it → Chosen it file
    at_b leads =
        let side : it.side ≡ B = its_side B file it leads.0 in
        record {
          front = front_is file it is;
          here = subst (λ (s : Side). slot_in s file ≡ Some it) (sym side) leads.0;
          beside = subst (λ (s : Side). (slot_in (other s) file ≡ None) ⊎ ((older : OpenRoot) × (slot_in (other s) file ≡ Some older) × (older.root.sequence < it.root.sequence))) (sym side) leads.1;
        }

-- a gate that is neither 1 nor 2 is closed
pub other_shut : (side : Side) (file : List ℕ) → slice_index file (gate_of side) ≢ 1 → slice_index file (gate_of side) ≢ 2 → slot_in side file ≡ None
other_shut side file not_one not_two = shut (slice_index file (gate_of side)) (root_at (body_of side) file) not_one not_two
  where
    shut : (gate : ℕ) (r : Root) → gate ≢ 1 → gate ≢ 2 → opened side gate r ≡ None
    shut gate r one two = grind (arith, nat_tests)

-- an open one beside the current one is older
pub other_older : (file : List ℕ) (it : OpenRoot) (format : Format) → current file ≡ Some it → slot_in (other it.side) file ≡ Some (root_in format (other it.side) (root_at (body_of (other it.side)) file))
    → (root_at (body_of (other it.side)) file).sequence < it.root.sequence
other_older file it format is open_ = ⊎_elim never older (chosen file it is).beside
  where
    never : slot_in (other it.side) file ≡ None → (root_at (body_of (other it.side)) file).sequence < it.root.sequence
    never none = let both : Some (root_in format (other it.side) (root_at (body_of (other it.side)) file)) ≡ None = sym open_ ∙ none in cc

    older : ((o : OpenRoot) × (slot_in (other it.side) file ≡ Some o) × (o.root.sequence < it.root.sequence)) → (root_at (body_of (other it.side)) file).sequence < it.root.sequence
    older o =
        let both : Some o.0 ≡ Some (root_in format (other it.side) (root_at (body_of (other it.side)) file)) = sym o.1 ∙ open_ in
        let same : o.0 ≡ root_in format (other it.side) (root_at (body_of (other it.side)) file) = cc in
        subst (λ (n : ℕ). n < it.root.sequence) (ap (λ (r : OpenRoot). r.root.sequence) same ∙ same_sequence format (other it.side) (root_at (body_of (other it.side)) file)) o.2

-- a gate that is 1 or 2
pub older_one : (file : List ℕ) (it : OpenRoot) → current file ≡ Some it → slice_index file (gate_of (other it.side)) ≡ 1 → (root_at (body_of (other it.side)) file).sequence < it.root.sequence
older_one file it is gate = other_older file it One is
    (subst (λ (g : ℕ). opened (other it.side) g (root_at (body_of (other it.side)) file) ≡ Some (root_in One (other it.side) (root_at (body_of (other it.side)) file))) (sym gate) refl)

pub older_two : (file : List ℕ) (it : OpenRoot) → current file ≡ Some it → slice_index file (gate_of (other it.side)) ≡ 2 → (root_at (body_of (other it.side)) file).sequence < it.root.sequence
older_two file it is gate = other_older file it Two is
    (subst (λ (g : ℕ). opened (other it.side) g (root_at (body_of (other it.side)) file) ≡ Some (root_in Two (other it.side) (root_at (body_of (other it.side)) file))) (sym gate) refl)
