-- Lines of an input taken one after the other: what one line gives, and what follows it. Assumes nothing.
use Prim.Native.Nat.{ℕ, suc, ◌+◌, ◌-◌, ◌≤◌, min}
use mathlib.Core.Path.{◌≡◌, refl, sym, ap, ◌∙◌}
use mathlib.Core.List.{List, [], ◌++◌, append_assoc}
use native.Mathlib.Omega.{arith}
use lib.ListN.{length, take, drop, length-take, length-drop, length-append, take-append-drop}
use lib.Seq.{length-take-le, take_at, drop_at, drop-drop, take-take, drop-append-le}
use borrow.Rule.Slice.PartMut.{mid_of, put_mid}
use Rattle.line.specs.Lines.{most_written}
use Rattle.line.specs.Answer.{IsWritten}
use Rattle.watching.specs.declared.Run.{Run}
use Rattle.watching.specs.declared.Taken.{Taken}
use Rattle.watching.specs.declared.Chunked.{Chunked}
use Rattle.watching.specs.Answer.{LineTaken, IsTaken}
use Rattle.watching.specs.Chunk.{most_held}
use Rattle.watching.specs.inner.Progress.{line_length, LineEnds, Appended, WritesOn, Progress, Ready, LineReady, JoinReady}
use Rattle.watching.proofs.Takings.{part_first}
use Rattle.watching.proofs.TakingBytes.{line_leads}
use Rattle.watching.proofs.Appending.{take_least, lent_rest, rest_back, joined_line}

-- ---- what is written after what is written

-- bytes written first in a list
pub writes_first : {bytes d d' : List ℕ} {n : ℕ} → IsWritten bytes d d' n → WritesOn bytes d d' 0 n
writes_first w = record { counts = omega (arith, w.counts); fits = w.fits; written = w.written }

pub writes_whole : {bytes d d' : List ℕ} {n : ℕ} → WritesOn bytes d d' 0 n → IsWritten bytes d d' n
writes_whole w = record { counts = omega (arith, w.counts); fits = w.fits; written = w.written }

-- given the rest of the list to write to
pub writes_on : {bytes d e : List ℕ} {at n : ℕ} → at ≤ length d → IsWritten bytes (mid_of at (length d - at) d) e n
    → WritesOn bytes d (put_mid at (length d - at) d e) at (at + n)
writes_on {bytes} {d} {e} {at} {n} h w =
    let v = rw (lent_rest at d) at w in
    record {
      counts = omega (arith, v.counts);
      fits = omega (arith, v.fits, length-drop at d);
      written = rest_back at d e ∙ ap (λ (l : List ℕ). take at d ++ l) (v.written ∙ ap (λ (l : List ℕ). bytes ++ l) (drop-drop n at d));
    }

-- given its first m to write to
pub writes_within : {bytes d e : List ℕ} {m n : ℕ} → m ≤ length d → IsWritten bytes (take m d) e n → WritesOn bytes d (put_mid 0 m d e) 0 n
writes_within {bytes} {d} {e} {m} {n} h w =
    let long = length-take-le m d h in
    record {
      counts = omega (arith, w.counts);
      fits = omega (arith, w.fits);
      written =
          ap (λ (l : List ℕ). l ++ drop m d) w.written
          ∙ rw (append_assoc bytes (drop n (take m d)), ← drop-append-le n (take m d) (drop m d) w.fits, take-append-drop m d);
    }

module _ {bytes d d' : List ℕ} {at n : ℕ} (w : WritesOn bytes d d' at n) where
  pub writes_length : length d' ≡ length d
  writes_length =
      ap length w.written
      ∙ simp (length-append, length-drop) (omega (arith, w.counts, w.fits, length-take-le at d (omega (arith, w.counts, w.fits))))

  pub writes_take : take n d' ≡ take at d ++ bytes
  writes_take =
      ap (take n) (w.written ∙ sym (append_assoc (take at d) bytes (drop n d)))
      ∙ take_at (take at d ++ bytes) (drop n d) n
      (omega (arith, length-append (take at d) bytes, length-take-le at d (omega (arith, w.counts, w.fits)), w.counts))

  pub writes_drop : (k : ℕ) → n ≤ k → drop k d' ≡ drop k d
  writes_drop k h =
      let e : k ≡ n + (k - n) = omega arith in
      let m : drop n d' ≡ drop n d =
      ap (drop n) (w.written ∙ sym (append_assoc (take at d) bytes (drop n d)))
      ∙ drop_at (take at d ++ bytes) (drop n d) n
      (omega (arith, length-append (take at d) bytes, length-take-le at d (omega (arith, w.counts, w.fits)), w.counts)) in
      ap (λ (i : ℕ). drop i d') e ∙ sym (drop-drop (k - n) n d') ∙ ap (drop (k - n)) m ∙ drop-drop (k - n) n d ∙ ap (λ (i : ℕ). drop i d) (sym e)

-- one run of bytes after the other
pub writes_then : {b c d d₁ d₂ : List ℕ} {at m n : ℕ} → WritesOn b d d₁ at m → WritesOn c d₁ d₂ m n → WritesOn (b ++ c) d d₂ at n
writes_then {b} {c} {d} {d₁} {d₂} {at} {m} {n} v w = record {
  counts = omega (arith, v.counts, w.counts, length-append b c);
  fits = omega (arith, w.fits, writes_length v);
  written =
      w.written ∙ rw (writes_take v, writes_drop v n (omega (arith, w.counts)), append_assoc (take at d) b, append_assoc b c);
}

-- ---- lines

-- a line that ends at `end`, where h is held
module _ {run : Run} {h input s d : List ℕ} {from at end : ℕ} (few : length h ≤ most_held) (e : LineEnds input from end)
    (room : at + most_written ≤ length d) where
  pub line_progress : {run₁ : Run} {s₁ d₁ bytes : List ℕ} {n : ℕ} → LineTaken run (take most_held (h ++ take (end - from) (drop from input))) s s₁ run₁ bytes
      → WritesOn bytes d d₁ at n → Progress run h from at input s s₁ d d₁ (record { run = run₁; held = 0; used = end + 1; written = n })
  line_progress {run₁} {s₁} {d₁} {bytes} {n} t w =
      let k : end - from ≡ line_length (drop from input) = omega (arith, e.place) in
      let left : length d - n ≡ length d - at - length bytes = omega (arith, w.counts) in
      let past : end + 1 ≡ from + suc (line_length (drop from input)) = omega (arith, e.place) in
      let next : drop (end + 1) input ≡ drop (suc (line_length (drop from input))) (drop from input) =
      ap (λ (i : ℕ). drop i input) past ∙ sym (drop-drop (suc (line_length (drop from input))) from input) in
      record {
        bytes = bytes;
        leads = λ b. line_leads (omega arith) h (drop from input) few (omega (arith, length-drop from input, e.place, e.inside)) (rw k at t)
            (rw (left, next) at b);
        none = refl;
        inside = omega (arith, e.inside);
        writes = w;
      }

-- one line and then others
pub progress_then : {run : Run} {h input s s₁ s₂ d d₁ d₂ : List ℕ} {from at : ℕ} {p q : Chunked} → Progress run h from at input s s₁ d d₁ p
    → Progress p.run [] p.used p.written input s₁ s₂ d₁ d₂ q → Progress run h from at input s s₂ d d₂ q
progress_then {p = p} {q = q} g k =
    let long = writes_length g.writes in
    record {
      bytes = g.bytes ++ k.bytes;
      leads = λ b. rw (append_assoc g.bytes k.bytes) (g.leads (rw long at (k.leads (rw (← long) at b))));
      none = k.none;
      inside = k.inside;
      writes = writes_then g.writes k.writes;
    }

-- none yet
pub no_progress : {input s d : List ℕ} {p : Chunked} → Ready input d p → Progress p.run [] p.used p.written input s s d d p
no_progress {input} {s} {d} {p} g = record {
  bytes = [];
  leads = λ b. b;
  none = g.none;
  inside = g.inside;
  writes = record { counts = omega arith; fits = g.fits; written = sym (take-append-drop p.written d) };
}

-- the next line in an input, cut, where nothing is held
pub next_progress : {input s s₁ d e : List ℕ} {end n : ℕ} {p : Chunked} {t : Taken} → LineReady input d end p → n ≡ min (end - p.used) most_held
    → IsTaken p.run (mid_of p.used (p.used + n - p.used) input) s s₁ (mid_of p.written (length d - p.written) d) e t
    → Progress p.run [] p.used p.written input s s₁ d (put_mid p.written (length d - p.written) d e)
    (record { run = t.run; held = 0; used = end + 1; written = p.written + t.written })
next_progress {input} {end = end} {n = n} {p = p} g k t =
    let l : List ℕ = drop p.used input in
    let same : p.used + n - p.used ≡ n = omega arith in
    let whole : length (take (end - p.used) l) ≡ end - p.used =
    length-take-le (end - p.used) l (omega (arith, length-drop p.used input, g.ends.inside)) in
    let cut : take n l ≡ take most_held (take (end - p.used) l) =
    sym (take_least (take (end - p.used) l) most_held n (omega arith) ∙ take-take n (end - p.used) l (omega arith)) in
    line_progress (omega arith) g.ends g.room (rw (same, cut) at t.line) (writes_on g.ready.fits t.written)

-- the line of the bytes held and the first piece of a chunk, joined
pub joined_progress : {run : Run} {held end from n : ℕ} {chunk p s s₁ d d₁ line₀ line₁ line₂ : List ℕ} {t : Taken} → JoinReady held chunk end p d
    → Appended line₀ 0 (take (held - 0) p) line₁ from → Appended line₁ from (take (end - 0) chunk) line₂ n
    → IsTaken run (take (n - 0) line₂) s s₁ d d₁ t
    → Progress run (take held p) 0 0 chunk s s₁ d d₁ (record { run = t.run; held = 0; used = end + 1; written = t.written })
joined_progress {held = held} {n = n} {p = p} {line₂ = line₂} g a b t =
    let few : length (take held p) ≤ most_held = omega (arith, length-take held p, g.few) in
    let line = part_first n line₂ ∙ joined_line few (rw (part_first held p) at a) b in
    line_progress few g.ends g.room (rw line at t.line) (writes_first t.written)
