-- The versions that stand, with one row more.
use Rattle.std.proofs.Common.{◌≡◌, ◌∙◌, ℕ, ◌+◌, ◌<◌, Bool, true, false, ◌&&◌, if◌then◌else◌, List, [], ◌∷◌, ◌++◌, length, map, get_or, take, refl, ap, sym}
use Rattle.std.specs.List.{filter}
use Rattle.std.proofs.lemmas.List.{append-nil, map-append, take_more}
use Rattle.std.proofs.lemmas.List.Elements.{filter-append}
use Rattle.event_core.specs.declared.state.VersionPages.{VersionPages}
use Rattle.store_versions.specs.declared.lean.lean.row.Row.{Row}
use Rattle.store_versions.specs.LeanRows.{standing, stands}

by_stands : (p : VersionPages → Bool) (row : Row) (stand : Bool) →
    filter p (map (λ (r : Row). r.version) (if stand then row ∷ [] else [])) ≡ (if stand && p row.version then row.version ∷ [] else [])
by_stands p row true = refl
by_stands p row false = refl

standing_snoc : (p : VersionPages → Bool) (rows : List Row) (row : Row) →
    filter p (standing (rows ++ row ∷ [])) ≡ filter p (standing rows) ++ (if stands row.gone && p row.version then row.version ∷ [] else [])
standing_snoc p rows row =
    ap (filter p) (ap (map (λ (r : Row). r.version)) (filter-append (λ (r : Row). stands r.gone) rows (row ∷ []))
    ∙ map-append (λ (r : Row). r.version) (filter (λ (r : Row). stands r.gone) rows) (filter (λ (r : Row). stands r.gone) (row ∷ [])))
    ∙ filter-append p (standing rows) (standing (row ∷ [])) ∙ ap (λ vs. filter p (standing rows) ++ vs) (by_stands p row (stands row.gone))

module _ (p : VersionPages → Bool) (rows : List Row) (i : ℕ) (row : Row) (within : i < length rows) (is : row ≡ get_or rows i row) where
  standing_next : filter p (standing (take i rows)) ++ (if stands row.gone && p row.version then row.version ∷ [] else []) ≡ filter p (standing (take (i + 1) rows))
  standing_next =
      sym (standing_snoc p (take i rows) row) ∙ ap (λ (rs : List Row). filter p (standing rs)) (ap (λ (r : Row). take i rows ++ r ∷ []) is ∙ sym (take_more rows i row within))

  pub standing_pushed : (pages next : List VersionPages) (version : VersionPages) → pages ≡ filter p (standing (take i rows)) → (stands row.gone && p row.version) ≡ true →
      version ≡ row.version → next ≡ pages ++ version ∷ [] → next ≡ filter p (standing (take (i + 1) rows))
  standing_pushed pages next version so_far passes same e =
      e ∙ ap (λ vs. vs ++ version ∷ []) so_far ∙ ap (λ v. filter p (standing (take i rows)) ++ v ∷ []) same
      ∙ ap (λ (b : Bool). filter p (standing (take i rows)) ++ (if b then row.version ∷ [] else [])) (sym passes) ∙ standing_next

  pub standing_passed : (pages : List VersionPages) → pages ≡ filter p (standing (take i rows)) → (stands row.gone && p row.version) ≡ false →
      pages ≡ filter p (standing (take (i + 1) rows))
  standing_passed pages so_far fails =
      so_far ∙ sym (append-nil (filter p (standing (take i rows))))
      ∙ ap (λ (b : Bool). filter p (standing (take i rows)) ++ (if b then row.version ∷ [] else [])) (sym fails) ∙ standing_next
