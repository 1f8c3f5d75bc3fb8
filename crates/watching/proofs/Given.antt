-- The calls that take an input's chunks, and the one that ends it, print what its lines print: each call holds what the one before it left.
-- Assumes nothing.
use Prim.Native.Nat.{ℕ, ◌≤◌, min}
use mathlib.Core.Path.{◌≡◌, refl, sym, ap, ◌∙◌}
use mathlib.Core.List.{List, [], ◌∷◌, ◌++◌}
use native.Mathlib.Omega.{arith}
use lib.ListN.{length, take, drop, length-take, length-append}
use lib.Seq.{take_at, drop_at}
use Rattle.line.specs.Answer.{IsWritten}
use Rattle.watching.specs.declared.Run.{Run}
use Rattle.watching.specs.declared.Chunked.{Chunked}
use Rattle.watching.specs.Chunk.{most_held, held_in, TakesBytes, IsChunked, Given}
use Rattle.watching.specs.Chunk.TakesBytes.{all, full, byte, line}
use Rattle.watching.specs.Chunk.Given.{none, more}
use Rattle.watching.specs.Claim.{InputPrints}
use Rattle.watching.proofs.TakingBytes.{hold_few}
use Rattle.watching.proofs.InPieces.{Watches, pieces_print}
use Rattle.watching.proofs.InPieces.Watches.{end, more as next}

-- no more bytes than a line may have are held
bytes_few : {room : ℕ} {run run' : Run} {h h' s s' input bytes left : List ℕ} → length h ≤ most_held
    → TakesBytes room run h s input run' h' s' bytes left → length h' ≤ most_held
bytes_few f all = f
bytes_few f (full p) = f
bytes_few f (byte {c = c} {h = h} p n b) = bytes_few (hold_few h c) b
bytes_few f (line p t b) = bytes_few (omega arith) b

-- what is left is the end of the input
bytes_rest : {room : ℕ} {run run' : Run} {h h' s s' input bytes left : List ℕ} → TakesBytes room run h s input run' h' s' bytes left
    → (front : List ℕ) × (input ≡ front ++ left)
bytes_rest all = ([], refl)
bytes_rest (full p) = ([], refl)
bytes_rest (byte {c = c} p n b) = let r = bytes_rest b in (c ∷ r.0, ap (λ (l : List ℕ). c ∷ l) r.1)
bytes_rest (line p t b) = let r = bytes_rest b in (10 ∷ r.0, ap (λ (l : List ℕ). 10 ∷ l) r.1)

-- what was written stands first
written_first : {bytes d d' : List ℕ} {n : ℕ} → IsWritten bytes d d' n → take n d' ≡ bytes
written_first {bytes} {d} {d'} {n} w = rw w.written (take_at bytes (drop n d) n (sym w.counts))

module _ {run : Run} {held : ℕ} {chunk p p' s s' d d' : List ℕ} {r : Chunked} (x : IsChunked run held chunk p p' s s' d d' r) where
  still_held : held_in r.held p' ≡ x.kept
  still_held =
      let f : length x.kept ≤ most_held = bytes_few (omega (arith, length-take (min held most_held) p)) x.taken in
      let e : min r.held most_held ≡ length x.kept = omega (arith, x.counts) in
      rw (x.holds, e) (take_at x.kept (drop (length x.kept) p) (length x.kept) refl)

  still_left : drop r.used chunk ≡ x.left
  still_left =
      let q = bytes_rest x.taken in
      let e : length q.0 ≡ r.used = omega (arith, x.used, length-append q.0 x.left, ap length q.1) in
      ap (drop r.used) q.1 ∙ drop_at q.0 x.left r.used e

pub given_watches : {run run' : Run} {held held' : ℕ} {p p' s s' input bytes : List ℕ} → Given run held p s input run' held' p' s' bytes
    → Watches run (held_in held p) s input run' (held_in held' p') s' bytes
given_watches none = end
given_watches (more later (l, x) g) =
    rw (written_first x.written) (next later x.taken (rw (still_held x, still_left x) at (given_watches g)))

pub input_prints : InputPrints
input_prints s s₁ s' p p' d d' input bytes run held n g (l, (output, e, w)) =
    rw (written_first w) (pieces_print s s₁ s' input bytes output (held_in held p') run (given_watches g) e)
