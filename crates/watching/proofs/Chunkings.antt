-- One lemma for each way out of taking a chunk, and of finishing. Assumes nothing.
use Prim.Native.Nat.{ℕ, ◌-◌, ◌<◌, ◌≤◌, min}
use mathlib.Core.Path.{◌≡◌, refl, sym, ap, ◌∙◌}
use mathlib.Core.List.{List, [], ◌∷◌, ◌++◌, append-nil}
use native.Mathlib.Omega.{arith}
use lib.ListN.{length, take, drop, length-drop, take-append-drop}
use lib.Seq.{length-take-le}
use borrow.Author.Tests.{eq-eqb, ne_eqb}
use Rattle.line.specs.Lines.{most_written}
use Rattle.watching.specs.declared.Run.{Run}
use Rattle.watching.specs.declared.Taken.{Taken}
use Rattle.watching.specs.declared.Chunked.{Chunked}
use Rattle.watching.specs.Answer.{IsTaken}
use Rattle.watching.specs.Whole.Takes.{none, more}
use Rattle.watching.specs.Chunk.{most_held, TakesBytes, held_in, IsChunked, last_lines}
use Rattle.watching.specs.inner.Progress.{Unended, Appended, Progress, HeldRest, LastTaken}
use Rattle.watching.proofs.Writings.{nothing_written}
use Rattle.watching.proofs.TakingBytes.{stops, held_all, bytes_some}
use Rattle.watching.proofs.Appending.{take_least}
use Rattle.watching.proofs.Progress.{writes_whole}

held_length : (held kept : ℕ) (p : List ℕ) → kept ≡ min held most_held → most_held ≤ length p → length (take kept p) ≡ kept
held_length held kept p k long = length-take-le kept p (omega arith)

module _ {run : Run} {held kept : ℕ} {chunk p s d : List ℕ} (k : kept ≡ min held most_held) (long : most_held ≤ length p) where
  -- there is no room for a line
  pub chunk_unroomed : length d < most_written → IsChunked run held chunk p p s s d d (record { run = run; held = kept; used = 0; written = 0 })
  chunk_unroomed h =
      let count = held_length held kept p k long in
      record {
        bytes = [];
        kept = take kept p;
        left = chunk;
        taken = rw (← k) (stops h chunk);
        used = omega arith;
        counts = sym count;
        holds = rw count (sym (take-append-drop kept p));
        written = nothing_written d;
      }

  -- no line ends in the chunk
  pub chunk_unended : {n used : ℕ} {p' : List ℕ} → most_written ≤ length d → Unended chunk → used ≡ length chunk → Appended p kept chunk p' n
      → IsChunked run held chunk p p' s s d d (record { run = run; held = n; used = used; written = 0 })
  chunk_unended h u e a = record {
    bytes = [];
    kept = take most_held (take kept p ++ chunk);
    left = [];
    taken = rw (← k) (held_all h (take kept p) chunk (omega (arith, held_length held kept p k long)) u);
    used = omega arith;
    counts = a.counts;
    holds = rw a.counts at a.holds;
    written = nothing_written d;
  }

  -- lines were taken
  module _ {s' d' : List ℕ} {r : Chunked} (g : Progress run (take kept p) 0 0 chunk s s' d d' r) where
    -- then there is no room for another
    pub chunk_full : length d - r.written < most_written → IsChunked run held chunk p p s s' d d' r
    chunk_full h =
        let all : length d - 0 ≡ length d = omega arith in
        record {
          bytes = g.bytes;
          kept = [];
          left = drop r.used chunk;
          taken = rw (append-nil g.bytes, all, k) at (g.leads (stops h (drop r.used chunk)));
          used = omega (arith, length-drop r.used chunk, g.inside);
          counts = g.none;
          holds = refl;
          written = writes_whole g.writes;
        }

    -- then no other ends in the chunk
    pub chunk_held : {p' : List ℕ} {r' : Chunked} → most_written ≤ length d - r.written → Unended (drop r.used chunk) → HeldRest chunk p p' r r'
        → IsChunked run held chunk p p' s s' d d' r'
    chunk_held h u x =
        let all : length d - 0 ≡ length d = omega arith in
        record {
          bytes = g.bytes;
          kept = take most_held (drop r.used chunk);
          left = [];
          taken =
              rw x.run
              (rw (append-nil g.bytes, all, k) at (g.leads (held_all h [] (drop r.used chunk) (omega arith) u)));
          used = omega (arith, x.used);
          counts = x.held.counts;
          holds = rw x.held.counts at x.held.holds;
          written = rw x.written (writes_whole g.writes);
        }

-- of a chunk that finds room for a line, a byte at least is used, and no more than there are
module _ {run : Run} {held : ℕ} {chunk p p' s s' d d' : List ℕ} {r : Chunked} (c : IsChunked run held chunk p p' s s' d d' r) where
  pub chunk_inside : r.used ≤ length chunk
  chunk_inside = omega (arith, c.used)

  pub chunk_some : 0 < length chunk → most_written ≤ length d → 0 < r.used
  chunk_some h q = omega (arith, c.used, fewer chunk h c.taken)
    where
      fewer : {left : List ℕ} (l : List ℕ) → 0 < length l → TakesBytes (length d) run (held_in held p) s l r.run c.kept s' c.bytes left
          → length left < length l
      fewer [] h b = absurd (omega arith)
      fewer (x ∷ l) h b = omega (arith, bytes_some q b)

-- the bytes held, of a list that may be short
last_held : (held kept : ℕ) (p : List ℕ) → kept ≡ min (min held most_held) (length p) → held_in held p ≡ take kept p
last_held held kept p k = take_least p (min held most_held) kept (omega arith)

-- they are the last line, or line 1
last_one : (run : Run) (h : List ℕ) → (length h ≡ 0 → run.phase ≡ 0) → last_lines run h ≡ h ∷ []
last_one run [] n = simp (eq-eqb run.phase 0 (n refl))
last_one run (c ∷ h) n = refl

module _ {run : Run} {held kept : ℕ} {p s d : List ℕ} (k : kept ≡ min (min held most_held) (length p)) where
  -- there is no last line
  pub last_none : kept ≡ 0 → (run.phase ≡ 0 → ⊥) → LastTaken run held p s s d d (record { run = run; written = 0 })
  last_none e n =
      let h : held_in held p ≡ [] = last_held held kept p k ∙ ap (λ (i : ℕ). take i p) e in
      record { bytes = []; takes = rw h (simp (ne_eqb run.phase 0 n) none); written = nothing_written d }

  -- it is taken
  pub last_taken : {s' d' : List ℕ} {r : Taken} → (kept ≡ 0 → run.phase ≡ 0) → IsTaken run (take kept p) s s' d d' r → LastTaken run held p s s' d d' r
  last_taken n t =
      let few : length (take kept p) ≡ kept = length-take-le kept p (omega arith) in
      record {
        bytes = t.bytes ++ [];
        takes = rw (last_held held kept p k, last_one run (take kept p) (λ e. n (omega arith))) (more t.line none);
        written = rw (append-nil t.bytes) t.written;
      }
