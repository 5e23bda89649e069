-- A conversion's steps.
use Rattle.std.proofs.Common.{◌≡◌, inl, ℕ, suc, ◌+◌, true, false, Option, Some, None, List, [], ◌∷◌, ◌++◌, length, Result, Ok, Err, OnOk, refl, sym, ap, subst, ◌∙◌, arith, append_assoc}
use Rattle.std.specs.Io.KnownBytes.{Appends}
use Rattle.std.proofs.lemmas.List.{append-nil, length-append, flat_map_more}
use Rattle.csv.specs.Reading.{AreRecords, ReadRecord, default_config, took_first}
use Rattle.csv.specs.declared.parser.State.TheVariants as st
use Rattle.csv.specs.declared.reader.Reader.{Reader}
use Rattle.csv.proofs.ReadFacts.{rows-end, rows-more}
use Rattle.csv.specs.Records.{field_at}
use Rattle.cell_values.specs.declared.datum.Datum.{Datum}
use Rattle.cell_values.specs.declared.schema.Attribute.{Attribute}
use Rattle.csv_scripts.specs.Conversion.{AreColumns, AreLoads, AreRead, Load, records_of, scripts_of}
use Rattle.csv_scripts.specs.Inner.Converting.{HasRead, IsConverting, IsLoaded}
use Rattle.csv_scripts.specs.Loads.{IsLoad, IsLoading}
use Rattle.csv_scripts.specs.declared.loader.Loader.{Loader}
use Rattle.csv_scripts.specs.declared.plan.LoadPlan.{LoadPlan}

-- What is written.

pub appends_none : (a : Option (List ℕ)) → Appends a a []
appends_none None = tt
appends_none (Some xs) = sym (append-nil xs)

pub appends_more : (a b c : Option (List ℕ)) (x y : List ℕ) → Appends a b x → Appends b c y → Appends a c (x ++ y)
appends_more None b c x y h g = tt
appends_more (Some a) None c x y h g = absurd h
appends_more (Some a) (Some b) None x y h g = absurd g
appends_more (Some a) (Some b) (Some c) x y h g = g ∙ ap (λ l. l ++ y) h ∙ append_assoc a x y

pub on_ok_two : {T E P Q S : Type 0} (r : Result T E) → (P → Q → S) → OnOk r P → OnOk r Q → OnOk r S
on_ok_two (Ok x) f p q = f p q
on_ok_two (Err e) f p q = tt

-- What is read.

pub read_more : {R : Type 0} (rem : R → Option (List ℕ)) (a b : Reader R) (f : List (List ℕ)) (text : List ℕ) (rows : List (List (List ℕ)))
    → HasRead rem a text rows → ReadRecord rem a b true f → took_first b ≡ true → HasRead rem b text (rows ++ f ∷ [])
read_more rem a b f text rows h r first =
    let next = rows-more rem a b f default_config st.StartRecord text h.3 rows h.2 h.4 h.5 r in
    (inl first, r.3 ∙ h.1, r.2 ∙ h.2, next.0, next.1, next.2)

pub read_end : {R : Type 0} (rem : R → Option (List ℕ)) (a b : Reader R) (f : List (List ℕ)) (text : List ℕ) (rows : List (List (List ℕ)))
    → HasRead rem a text rows → ReadRecord rem a b false f → AreRecords default_config st.StartRecord text rows
read_end rem a b f text rows h r = (a.state, h.3, h.5, rows-end rem a b f default_config h.3 h.2 h.4 r)

-- The values of the records.

read_length : (Reads : List (List ℕ) → List Datum → Type 0) (fs : List (List (List ℕ))) (vs : List (List Datum)) → AreRead Reads fs vs → length fs ≡ length vs
read_length Reads [] [] h = refl
read_length Reads [] (v ∷ vs) h = absurd h
read_length Reads (f ∷ fs) [] h = absurd h
read_length Reads (f ∷ fs) (v ∷ vs) h = ap suc (read_length Reads fs vs h.1)

values_more : (Reads : List (List ℕ) → List Datum → Type 0) (fs : List (List (List ℕ))) (vs : List (List Datum)) (f : List (List ℕ)) (v : List Datum)
    → AreRead Reads fs vs → Reads f v → AreRead Reads (fs ++ f ∷ []) (vs ++ v ∷ [])
values_more Reads [] [] f v h r = (r, tt)
values_more Reads [] (w ∷ ws) f v h r = absurd h
values_more Reads (g ∷ gs) [] f v h r = absurd h
values_more Reads (g ∷ gs) (w ∷ ws) f v h r = (h.0, values_more Reads gs ws f v h.1 r)

-- one more column at its place
pub columns_more : (names : List (List ℕ)) (cs : List Attribute) (ps : List ℕ) (c : Attribute) (p : ℕ) → AreColumns names cs ps → field_at names p ≡ Some c.name
    → AreColumns names (cs ++ c ∷ []) (ps ++ p ∷ [])
columns_more names [] [] c p h e = (e, tt)
columns_more names [] (q ∷ qs) c p h e = absurd h
columns_more names (d ∷ ds) [] c p h e = absurd h
columns_more names (d ∷ ds) (q ∷ qs) c p h e = (h.0, columns_more names ds qs c p h.1 e)

-- The loads.

records_more : (ls : List Load) (l : Load) → records_of ls ++ l.rows ≡ records_of (ls ++ l ∷ [])
records_more ls l = flat_map_more (λ (q : Load). q.rows) [] ls l

scripts_more : (ls : List Load) (l : Load) → scripts_of ls ++ l.script ≡ scripts_of (ls ++ l ∷ [])
scripts_more ls l = flat_map_more (λ (q : Load). q.script) [] ls l

loads_more : (plan : LoadPlan) (from : ℕ) (ls : List Load) (l : Load) → AreLoads plan from ls → IsLoad plan (from + length (records_of ls)) l.script l.rows
    → AreLoads plan from (ls ++ l ∷ [])
loads_more plan from [] l h s = let here : from + 0 ≡ from = omega arith in (subst (λ (n : ℕ). IsLoad plan n l.script l.rows) here s, tt)
loads_more plan from (k ∷ ks) l h s =
    let there : from + length (records_of (k ∷ ks)) ≡ (from + length k.rows) + length (records_of ks) = omega (arith, length-append k.rows (records_of ks)) in
    (h.0, loads_more plan (from + length k.rows) ks l h.1 (subst (λ (n : ℕ). IsLoad plan n l.script l.rows) there s))

-- no records yet
pub begun : (plan : LoadPlan) (Reads : List (List ℕ) → List Datum → Type 0) (next : ℕ) (loader : Loader) (known : Option (List ℕ)) → next ≡ 2
    → IsLoading plan 2 loader.batch.text loader.batch.first loader.batch.count loader.versions [] [] → IsConverting plan Reads [] next loader known known
begun plan Reads next loader known e h = record {
  loads = [];
  script = [];
  rows = [];
  are_loads = tt;
  is_loading = h;
  are_read = tt;
  written = appends_none known;
  counted = e;
}

-- one more record
pub added : (plan : LoadPlan) (Reads : List (List ℕ) → List Datum → Type 0) (fields : List (List (List ℕ))) (f : List (List ℕ)) (values : List Datum) (next later : ℕ)
    (loader after_loader : Loader) (before mid after : Option (List ℕ)) (more : List ℕ) (c : IsConverting plan Reads fields next loader before mid)
    → Reads f values → later ≡ next + 1 → Appends mid after more
    → IsLoading plan (2 + length (records_of c.loads)) after_loader.batch.text after_loader.batch.first after_loader.batch.count after_loader.versions
    (c.script ++ more) (c.rows ++ values ∷ [])
    → IsConverting plan Reads (fields ++ f ∷ []) later after_loader before after
added plan Reads fields f values next later loader after_loader before mid after more c r e a h = record {
  loads = c.loads;
  script = c.script ++ more;
  rows = c.rows ++ values ∷ [];
  are_loads = c.are_loads;
  is_loading = h;
  are_read = subst (AreRead Reads (fields ++ f ∷ [])) (append_assoc (records_of c.loads) c.rows (values ∷ []))
      (values_more Reads fields (records_of c.loads ++ c.rows) f values c.are_read r);
  written = subst (Appends before after) (append_assoc (scripts_of c.loads) c.script more) (appends_more before mid after (scripts_of c.loads ++ c.script) more c.written a);
  counted = omega (arith, e, c.counted, length-append fields (f ∷ []));
}

-- the load at hand ends
pub ended : (plan : LoadPlan) (Reads : List (List ℕ) → List Datum → Type 0) (fields : List (List (List ℕ))) (next : ℕ) (loader : Loader)
    (before mid after : Option (List ℕ)) (more : List ℕ) (c : IsConverting plan Reads fields next loader before mid) → Appends mid after more
    → IsLoad plan (2 + length (records_of c.loads)) (c.script ++ more) c.rows → IsLoaded plan Reads fields next before after
ended plan Reads fields next loader before mid after more c a h =
    let l : Load = record { script = c.script ++ more; rows = c.rows } in record {
      loads = c.loads ++ l ∷ [];
      are_loads = loads_more plan 2 c.loads l c.are_loads h;
      are_read = subst (AreRead Reads fields) (records_more c.loads l) c.are_read;
      written = subst (Appends before after) (append_assoc (scripts_of c.loads) c.script more ∙ scripts_more c.loads l)
          (appends_more before mid after (scripts_of c.loads ++ c.script) more c.written a);
      counted = c.counted;
    }

-- and another one begins
pub goes_on : (plan : LoadPlan) (Reads : List (List ℕ) → List Datum → Type 0) (fields : List (List (List ℕ))) (next : ℕ) (loader : Loader) (before after : Option (List ℕ))
    → IsLoaded plan Reads fields next before after
    → IsLoading plan next loader.batch.text loader.batch.first loader.batch.count loader.versions [] []
    → IsConverting plan Reads fields next loader before after
goes_on plan Reads fields next loader before after d h = record {
  loads = d.loads;
  script = [];
  rows = [];
  are_loads = d.are_loads;
  is_loading = subst (λ (n : ℕ). IsLoading plan n loader.batch.text loader.batch.first loader.batch.count loader.versions [] [])
      (d.counted ∙ ap (λ n. 2 + n) (read_length Reads fields (records_of d.loads) d.are_read)) h;
  are_read = subst (AreRead Reads fields) (sym (append-nil (records_of d.loads))) d.are_read;
  written = subst (Appends before after) (sym (append-nil (scripts_of d.loads))) d.written;
  counted = d.counted;
}
