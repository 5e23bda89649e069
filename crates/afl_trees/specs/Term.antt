-- Trees as contracts see them, without boxes.
use Rattle.std.specs.Prelude.{ℕ, ◌+◌, ℤ, Bool, List, [], ◌∷◌}
use Rattle.cell_values.specs.declared.name.Span.{Span}
use Rattle.schema_grammar.specs.declared.shape_text.SchemaText.{SchemaText}
use Rattle.afl_trees.specs.declared.tree.BinaryOp.{BinaryOp}

mutual
  pub data Term : Type 0 where
    create : Span → List ℕ → SchemaText → Term
    number : Span → ℤ → Term
    text : Span → List ℕ → Term
    truth : Span → Bool → Term
    null : Span → Term
    missing : Span → ℕ → Term
    reference : Span → List ℕ → Term
    version : Span → List ℕ → ℤ → Term
    call : Span → List ℕ → Terms → Term
    schema : Span → SchemaText → Term
    star : Span → Term
    renamed : Span → Term → List ℕ → Term
    opposite : Span → Term → Term
    negative : Span → Term → Term
    binary : Span → BinaryOp → Term → Term → Term
    group : Span → Term → Term

  pub data Terms : Type 0 where
    no_terms : Terms
    and_term : Term → Terms → Terms

abbrev pub to_terms : List Term → Terms
to_terms [] = no_terms
to_terms (t ∷ ts) = and_term t (to_terms ts)

abbrev mutual
  pub term_size : Term → ℕ
  term_size (create s n m) = 1
  term_size (number s n) = 1
  term_size (text s x) = 1
  term_size (truth s b) = 1
  term_size (null s) = 1
  term_size (missing s c) = 1
  term_size (reference s n) = 1
  term_size (version s n v) = 1
  term_size (call s n ts) = terms_size ts + 1
  term_size (schema s m) = 1
  term_size (star s) = 1
  term_size (renamed s a n) = term_size a + 1
  term_size (opposite s a) = term_size a + 1
  term_size (negative s a) = term_size a + 1
  term_size (binary s o a b) = term_size a + term_size b + 1
  term_size (group s a) = term_size a + 1

  pub terms_size : Terms → ℕ
  terms_size no_terms = 0
  terms_size (and_term t ts) = term_size t + terms_size ts
