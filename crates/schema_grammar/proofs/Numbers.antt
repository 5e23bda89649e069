-- Numbers of tokens.
use Rattle.std.proofs.Common.{◌≡◌, ℕ, ℤ, pos, negsuc, neg_ℤ, ◌≤ℤ◌, List, refl, sym, subst, arith, T}
use Rattle.std.proofs.lemmas.Bool.{le-leb}
use Rattle.std.specs.Int.Signed.{le_z_yes}
use Rattle.std.specs.Prelude.{unsigned_abs}
use Rattle.afl_lexer.specs.Span.{Span}
use Rattle.afl_lexer.specs.Lexemes.{a_number}
use Rattle.afl_lexer.specs.Tokens.{IsSpelled}
use Rattle.afl_lexer.specs.declared.token.TokenKind.{TokenKind}
use Rattle.afl_lexer.specs.declared.token.TokenKind.TheVariants.{Int}
use Rattle.schema_grammar.specs.declared.state.Label.{Label}
use Rattle.schema_grammar.specs.declared.state.Bound.{Bound}
use Rattle.schema_grammar.specs.declared.state.Count.{Count}
use Rattle.schema_grammar.specs.declared.state.DimPlace.TheVariants as dim
use Rattle.schema_grammar.specs.declared.state.BoundPlace.TheVariants.{Low, LowMinus, Lowered, High, HighMinus}
use Rattle.schema_grammar.specs.declared.state.NumberPlace.TheVariants.{Bounded, Chunk, Chunked, Overlap}
use Rattle.schema_grammar.specs.declared.state.PartStep.TheVariants as part
use Rattle.schema_grammar.specs.Spelling.{across}
use Rattle.schema_grammar.specs.Inner.Reading.{bound, count, dimension, bound_step, number_step}
use Rattle.schema_grammar.specs.Inner.Unsigned.{IsUnsigned}

pub low_read : (n : Label) (s : Span) (z : ℤ) → pos 0 ≤ℤ z → bound_step n Low s (a_number z) ≡ part.On (dim.Bounds n (Lowered (bound z s)))
low_read n s (pos v) h = refl
low_read n s (negsuc v) h = absurd h.le

pub low_minus_read : (n : Label) (m s : Span) (z : ℤ) → pos 0 ≤ℤ z → bound_step n (LowMinus m) s (a_number z) ≡ part.On (dim.Bounds n (Lowered (bound (neg_ℤ z) (across m s))))
low_minus_read n m s (pos v) h = refl
low_minus_read n m s (negsuc v) h = absurd h.le

pub high_read : (n : Label) (lo : Bound) (s : Span) (z : ℤ) → pos 0 ≤ℤ z → bound_step n (High lo) s (a_number z) ≡ part.On (dim.Numbers n lo (bound z s) Bounded)
high_read n lo s (pos v) h = refl
high_read n lo s (negsuc v) h = absurd h.le

pub high_minus_read : (n : Label) (lo : Bound) (m s : Span) (z : ℤ) → pos 0 ≤ℤ z → bound_step n (HighMinus lo m) s (a_number z) ≡ part.On (dim.Numbers n lo (bound (neg_ℤ z) (across m s)) Bounded)
high_minus_read n lo m s (pos v) h = refl
high_minus_read n lo m s (negsuc v) h = absurd h.le

pub chunk_read : (n : Label) (lo hi : Bound) (s : Span) (z : ℤ) → pos 0 ≤ℤ z → number_step n lo hi Chunk s (a_number z) ≡ part.On (dim.Numbers n lo hi (Chunked (count (unsigned_abs z) s)))
chunk_read n lo hi s (pos v) h = refl
chunk_read n lo hi s (negsuc v) h = absurd h.le

pub overlap_read : (n : Label) (lo hi : Bound) (c : Count) (s : Span) (z : ℤ) → pos 0 ≤ℤ z → number_step n lo hi (Overlap c) s (a_number z) ≡ part.On (dim.Ended (dimension n lo hi c (unsigned_abs z) s))
overlap_read n lo hi c s (pos v) h = refl
overlap_read n lo hi c s (negsuc v) h = absurd h.le

not_below : (n : ℕ) → pos 0 ≤ℤ pos n
not_below n = le_z_yes (subst T (sym (le-leb 0 n (omega arith))) tt)

pub unsigned : (kind : TokenKind) (bytes : List ℕ) → IsSpelled kind bytes → IsUnsigned kind
unsigned (Int n) bytes (d, e, r) = subst (λ z. pos 0 ≤ℤ z) (sym e) (not_below _)
unsigned _ bytes h = tt
