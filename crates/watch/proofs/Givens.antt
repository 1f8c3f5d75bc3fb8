-- Chunks taken one after the other are an input given: what a call used of its chunk is given whole, and what is given after an input is given with it.
-- Assumes nothing.
use Rattle.std.specs.Prelude.{Result}
use Rattle.std.specs.declared.io.Error.{Error}
use Prim.Native.Nat.{ℕ, ◌+◌, ◌-◌, ◌≤◌}
use mathlib.Core.Path.{◌≡◌, refl, sym, ap, subst, ◌∙◌}
use mathlib.Core.List.{List, [], ◌∷◌, ◌++◌, append_assoc, append-nil}
use native.Mathlib.Omega.{arith}
use lib.ListN.{length, take, drop, length-append, length-take, length-drop, drop_of_length-le}
use lib.Seq.{take_at, take-add, take_all}
use Rattle.watching.specs.declared.Run.{Run}
use Rattle.watching.specs.declared.Chunked.{Chunked}
use Rattle.watching.specs.Runs.{fresh}
use Rattle.watching.specs.Chunk.{most_held, TakesBytes, IsChunked, Given}
use Rattle.watching.specs.Chunk.TakesBytes.{all, full, byte, line}
use Rattle.watching.specs.Chunk.Given.{none, more}
use Rattle.watching.proofs.Chunkings.{chunk_inside}
use Rattle.watch.specs.declared.Progress.{Progress}
use Rattle.watch.specs.Watch.{ChunkTaken, ReadTaken, InputTaken}
use Rattle.watch.specs.Watch.ReadTaken.{some, failed}

-- bytes of which some are left are taken as those before them are taken alone
bytes_front : {room : ℕ} {run run' : Run} {h h' s s' input bytes left : List ℕ} → TakesBytes room run h s input run' h' s' bytes left
    → (front : List ℕ) × (input ≡ front ++ left) × TakesBytes room run h s front run' h' s' bytes []
bytes_front all = ([], refl, all)
bytes_front (full p) = ([], refl, all)
bytes_front (byte {c = c} p n b) = let r = bytes_front b in (c ∷ r.0, ap (λ (l : List ℕ). c ∷ l) r.1, byte p n r.2)
bytes_front (line p t b) = let r = bytes_front b in (10 ∷ r.0, ap (λ (l : List ℕ). 10 ∷ l) r.1, line p t r.2)

module _ {run : Run} {held : ℕ} {chunk p p' s s' d d' : List ℕ} {r : Chunked} (x : IsChunked run held chunk p p' s s' d d' r) where
  -- what was used of a chunk is a chunk of which all is used
  used_alone : IsChunked run held (take r.used chunk) p p' s s' d d' r
  used_alone =
      let q = bytes_front x.taken in
      let n : length q.0 ≡ r.used = omega (arith, x.used, length-append q.0 x.left, ap length q.1) in
      let e : take r.used chunk ≡ q.0 = ap (take r.used) q.1 ∙ take_at q.0 x.left r.used n in
      record {
        bytes = x.bytes;
        kept = x.kept;
        left = [];
        taken = rw e q.2;
        used = omega (arith, n, ap length e);
        counts = x.counts;
        holds = x.holds;
        written = x.written;
      }

  -- so it is given
  given_used : most_held ≤ length p → Given run held p s (take r.used chunk) r.run r.held p' s' (take r.written d')
  given_used long =
      let front = take r.used chunk in
      let short : length front ≤ r.used = omega (arith, length-take r.used chunk) in
      let gone : drop r.used front ≡ [] = drop_of_length-le front short in
      let g : Given run held p s (front ++ []) r.run r.held p' s' (take r.written d' ++ []) =
      more {rest = []} [] (long, used_alone) (subst (λ (l : List ℕ). Given r.run r.held p' s' (l ++ []) r.run r.held p' s' []) (sym gone) none) in
      rw (append-nil front, append-nil (take r.written d')) at g

-- an input given after another
pub given_then : {run run₁ run' : Run} {held held₁ held' : ℕ} {p p₁ p' s s₁ s' input rest bytes others : List ℕ}
    → Given run held p s input run₁ held₁ p₁ s₁ bytes → Given run₁ held₁ p₁ s₁ rest run' held' p' s' others
    → Given run held p s (input ++ rest) run' held' p' s' (bytes ++ others)
given_then none g = g
given_then {rest = rest} {others = others} (more {d' = d'} {chunk = chunk} {rest = bytes} {r = r} later c f) g =
    rw (append_assoc chunk later rest, append_assoc (take r.written d') bytes others)
    (more (later ++ rest) c (rw (append_assoc (drop r.used chunk) later rest) at (given_then f g)))

-- so far of a chunk
pub record Along (first : Progress) (chunk part₀ part state₀ state : List ℕ) (at : ℕ) (p : Progress) : Type 0 where
  pub bytes : List ℕ
  pub given : Given first.taken.run first.taken.held part₀ state₀ (take at chunk) p.taken.run p.taken.held part state bytes
  pub inside : at ≤ length chunk

pub along_none : (first : Progress) (chunk part state : List ℕ) → Along first chunk part part state state 0 first
along_none first chunk part state = record { bytes = []; given = none; inside = omega arith }

-- some more of it
pub along_more : {first p p' : Progress} {chunk part₀ part part' state₀ state state' d d' : List ℕ} {at : ℕ}
    → Along first chunk part₀ part state₀ state at p → most_held ≤ length part
    → IsChunked p.taken.run p.taken.held (take (length chunk - at) (drop at chunk)) part part' state state' d d' p'.taken
    → Along first chunk part₀ part' state₀ state' (at + p'.taken.used) p'
along_more {p' = p'} {chunk = chunk} {d' = d'} {at = at} a long x =
    let n = length-drop at chunk in
    let y = rw (take_all (length chunk - at) (drop at chunk) (omega arith)) at x in
    record {
      bytes = a.bytes ++ take p'.taken.written d';
      given = rw (take-add at p'.taken.used chunk) (given_then a.given (given_used y long));
      inside = omega (arith, chunk_inside y, a.inside);
    }

-- before anything is read
pub input_none : (part state : List ℕ) (p : Progress) → p.taken.run ≡ fresh → p.taken.held ≡ 0 → InputTaken part part state state p
input_none part state p e h = record { input = []; bytes = []; given = rw (e, h) none }

-- a chunk more
pub input_more : {part₀ part part' state₀ state state' chunk : List ℕ} {p r : Progress} → InputTaken part₀ part state₀ state p
    → ChunkTaken p chunk part part' state state' r → InputTaken part₀ part' state₀ state' r
input_more {chunk = chunk} i c = record {
  input = i.input ++ take c.used chunk;
  bytes = i.bytes ++ c.bytes;
  given = given_then i.given c.given;
}

-- what a read gave
pub input_read : {part₀ part part' state₀ state state' buffer : List ℕ} {p r : Progress} {got : Result ℕ Error} → InputTaken part₀ part state₀ state p
    → ReadTaken p got buffer part part' state state' r → InputTaken part₀ part' state₀ state' r
input_read i (some z t) = input_more i t
input_read i (failed z e a b) = record { input = i.input; bytes = i.bytes; given = rw (e, a, b) i.given }
