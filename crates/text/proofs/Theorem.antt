-- Each claim of specs/Claim, proved: what is accepted is exactly what the printer writes, the place of a refused text, and reading and printing back. Each
-- shows an answer that meets the promise, and that there is no second one. Assumes nothing.
use Rattle.std.proofs.Common.{◌≡◌, ℕ, ◌≤◌, List, ◌++◌, length, take, drop, Result, Ok, Err, sym, refl, ap, ◌∙◌, subst, arith, take_at}
use Rattle.rules.specs.Limits.{argument_bytes, most_text}
use Rattle.rules.specs.Pattern.{Pattern}
use Rattle.refusal.specs.declared.Refusal.{Refusal}
use Rattle.refusal.specs.declared.Refusal.TheVariants.{Syntax}
use Rattle.body.specs.Postfix.{encode}
use Rattle.body.specs.Claim.{BodyOf}
use Rattle.text.specs.Render.{render}
use Rattle.text.specs.Grammar.{TextOf}
use Rattle.text.specs.Answer.{IsSyntax, RefusedText, ReadingOf, PrintingOf}
use Rattle.text.specs.Answer.RefusedText.{long, syntax, many, room}
use Rattle.text.specs.Claim.{Readable, OneReading, OnePrinting, AcceptedExactly, SyntaxExactly, LongestPrefix, OnePattern, ReadPrinted, PrintedRead, AtMostPrinted}
use Rattle.text.proofs.Sound.{one_pattern as one_tree}
use Rattle.text.proofs.Lengths.{printed_at_most}
use Rattle.text.proofs.Decided as Decided

pub one_reading : OneReading
one_reading = Decided.one_reading

pub one_printing : OnePrinting
one_printing = Decided.one_printing

pub one_pattern : OnePattern
one_pattern = one_tree

pub at_most_printed : AtMostPrinted
at_most_printed b e h = printed_at_most e h.bodied.proper h.bodied.few

-- the answers that the text of a pattern and the body of a pattern have
readable_read : (s d : List ℕ) (e : Pattern) → Readable s d e
    → ReadingOf s d (encode argument_bytes e ++ drop (length (encode argument_bytes e)) d) (Ok (length (encode argument_bytes e)))
readable_read s d e h = record {
  some = record { short = h.short; tree = e; text = h.text };
  few = h.few;
  counts = refl;
  fits = h.room;
  written = refl;
}

body_printed : (b d : List ℕ) (e : Pattern) → BodyOf argument_bytes b e → length (render e) ≤ length d
    → PrintingOf b d (render e ++ drop (length (render e)) d) (Ok (length (render e)))
body_printed b d e h k = record { some = record { tree = e; body = h }; counts = refl; fits = k; written = refl }

pub accepted_exactly : AcceptedExactly
accepted_exactly s d d' r a = (
  λ p. read (subst (ReadingOf s d d') p.1 a),
  λ p. (length (encode argument_bytes p.0), (one_reading s d d' _ r _ a (readable_read s d p.0 p.1)).0),
)
  where
    read : {bytes : ℕ} → ReadingOf s d d' (Ok bytes) → (e : Pattern) × Readable s d e
    read i = (i.some.tree, record { text = i.some.text; short = i.some.short; few = i.few; room = omega (arith, i.counts, i.fits) })

is_syntax : {s d : List ℕ} {place : ℕ} → RefusedText s d (Syntax place) → IsSyntax s place
is_syntax (syntax a) = a

pub longest_prefix : LongestPrefix
longest_prefix s d d' place a = (is_syntax a.0).broken

pub syntax_exactly : SyntaxExactly
syntax_exactly s d d' r a = (
  λ p. let i = is_syntax (subst (ReadingOf s d d') p.1 a).0 in (i.short, i.broken.no_text),
  λ p. only r a p.0 p.1,
)
  where
    only : (r : Result ℕ Refusal) → ReadingOf s d d' r → length s ≤ most_text → ((e : Pattern) → TextOf s e → ⊥) → (place : ℕ) × (r ≡ Err (Syntax place))
    only (Ok bytes) i short none = absurd (none i.some.tree i.some.text)
    only (Err q) (long i, k) short none = absurd (omega (arith, i.long))
    only (Err q) (syntax {place} i, k) short none = (place, refl)
    only (Err q) (many i, k) short none = absurd (none i.some.tree i.some.text)
    only (Err q) (room i, k) short none = absurd (none i.some.tree i.some.text)

pub read_printed : ReadPrinted
read_printed b d d' bytes a g g' r fits t = (u.0 ∙ ap Ok (sym same), u.1 ∙ rest)
  where
    e : Pattern
    e = a.some.tree

    h : BodyOf argument_bytes b e
    h = a.some.body

    same : length b ≡ length (encode argument_bytes e)
    same = ap length h.same

    text : take bytes d' ≡ render e
    text = ap (take bytes) a.written ∙ take_at (render e) (drop bytes d) bytes (sym a.counts)

    u : (r ≡ Ok (length (encode argument_bytes e))) × (g' ≡ encode argument_bytes e ++ drop (length (encode argument_bytes e)) g)
    u = one_reading (take bytes d') g g' _ r _ t (readable_read (take bytes d') g e (record {
      text = record { proper = h.bodied.proper; same = text };
      short = omega (arith, ap length text, at_most_printed b e h);
      few = h.bodied.few;
      room = omega (arith, same);
    }))

    rest : encode argument_bytes e ++ drop (length (encode argument_bytes e)) g ≡ b ++ drop (length b) g
    rest = ap (λ (w : List ℕ). w ++ drop (length w) g) (sym h.same)

pub printed_read : PrintedRead
printed_read s d d' bytes a g g' r fits t = (u.0 ∙ ap Ok (sym same), u.1 ∙ rest)
  where
    e : Pattern
    e = a.some.tree

    same : length s ≡ length (render e)
    same = ap length a.some.text.same

    body : take bytes d' ≡ encode argument_bytes e
    body = ap (take bytes) a.written ∙ take_at (encode argument_bytes e) (drop bytes d) bytes (sym a.counts)

    u : (r ≡ Ok (length (render e))) × (g' ≡ render e ++ drop (length (render e)) g)
    u = one_printing (take bytes d') g g' _ r _ t (body_printed (take bytes d') g e (record {
      bodied = record { proper = a.some.text.proper; few = a.few };
      same = body;
    }) (omega (arith, same)))

    rest : render e ++ drop (length (render e)) g ≡ s ++ drop (length s) g
    rest = ap (λ (w : List ℕ). w ++ drop (length w) g) (sym a.some.text.same)
