-- The promises of taking a chunk and of finishing leave no choice either: bytes are taken in one way, since a line is. Assumes nothing.
use Rattle.std.specs.Prelude.{Ok, Err}
use Prim.Native.Nat.{ℕ}
use mathlib.Core.Path.{◌≡◌, refl, sym, ap, ◌∙◌}
use mathlib.Core.List.{List, ◌++◌}
use native.Mathlib.Omega.{arith}
use lib.ListN.{length, drop}
use Rattle.watching.specs.declared.Run.{Run}
use Rattle.watching.specs.declared.Chunked.{Chunked}
use Rattle.watching.specs.Whole.{Takes}
use Rattle.watching.specs.Whole.Takes.{none, more}
use Rattle.watching.specs.Chunk.{TakesBytes, IsChunked}
use Rattle.watching.specs.Chunk.TakesBytes.{all, full, byte, line}
use Rattle.watching.specs.Claim.{OneChunk, OneEnd}
use Rattle.watching.proofs.Unique.{one_line, one_written}

-- bytes taken in two ways come to the same
record Alike (run₁ run₂ : Run) (h₁ h₂ s₁ s₂ b₁ b₂ left₁ left₂ : List ℕ) : Type 0 where
  run : run₁ ≡ run₂
  held : h₁ ≡ h₂
  state : s₁ ≡ s₂
  bytes : b₁ ≡ b₂
  left : left₁ ≡ left₂

one_taking : {room : ℕ} {run run₁ run₂ : Run} {h h₁ h₂ s s₁ s₂ chunk b₁ b₂ left₁ left₂ : List ℕ} → TakesBytes room run h s chunk run₁ h₁ s₁ b₁ left₁
    → TakesBytes room run h s chunk run₂ h₂ s₂ b₂ left₂ → Alike run₁ run₂ h₁ h₂ s₁ s₂ b₁ b₂ left₁ left₂
one_taking all all = record { run = refl; held = refl; state = refl; bytes = refl; left = refl }
one_taking (full p) (full q) = record { run = refl; held = refl; state = refl; bytes = refl; left = refl }
one_taking (full p) (byte q n y) = absurd (omega arith)
one_taking (full p) (line q y k) = absurd (omega arith)
one_taking (byte p n x) (full q) = absurd (omega arith)
one_taking (byte p n x) (byte q n' y) = one_taking x y
one_taking (byte p n x) (line q y k) = absurd (n refl)
one_taking (line p x j) (full q) = absurd (omega arith)
one_taking (line p x j) (byte q n y) = absurd (n refl)
one_taking (line p x j) (line q y k) =
    let u = one_line _ _ _ _ _ _ _ _ _ y x in
    let v = one_taking j (rw (u.0, u.1, u.2) at k) in
    record { run = v.run; held = v.held; state = v.state; bytes = rw (u.2, v.bytes); left = v.left }

-- lines are taken in one way
one_takes : {run run₁ run₂ : Run} {s s₁ s₂ b₁ b₂ : List ℕ} {ls : List (List ℕ)} → Takes run s ls run₁ s₁ b₁ → Takes run s ls run₂ s₂ b₂
    → (run₁ ≡ run₂) × (s₁ ≡ s₂) × (b₁ ≡ b₂)
one_takes none none = (refl, refl, refl)
one_takes (more x j) (more y k) =
    let u = one_line _ _ _ _ _ _ _ _ _ y x in
    let v = one_takes j (rw (u.0, u.1) at k) in
    (v.0, v.1, rw (u.2, v.2))

-- the fields of a chunk taken
same : {a b : Run} {h i u v m n : ℕ} → a ≡ b → h ≡ i → u ≡ v → m ≡ n
    → ◌≡◌ {A = Chunked} (record { run = a; held = h; used = u; written = m }) (record { run = b; held = i; used = v; written = n })
same p q r s = rw (p, q, r, s)

one_chunked : (run : Run) (held : ℕ) (chunk p p₁ p₂ s s₁ s₂ d d₁ d₂ : List ℕ) (r₁ r₂ : Chunked) → IsChunked run held chunk p p₁ s s₁ d d₁ r₁
    → IsChunked run held chunk p p₂ s s₂ d d₂ r₂ → (r₁ ≡ r₂) × (p₁ ≡ p₂) × (s₁ ≡ s₂) × (d₁ ≡ d₂)
one_chunked run held chunk p p₁ p₂ s s₁ s₂ d d₁ d₂ r₁ r₂ x y =
    let u = one_taking x.taken y.taken in
    let w = one_written y.bytes d d₁ d₂ r₁.written r₂.written (rw u.bytes at x.written) y.written in
    let held : r₁.held ≡ r₂.held = x.counts ∙ ap length u.held ∙ sym y.counts in
    let used : r₁.used ≡ r₂.used = omega (arith, x.used, y.used, ap length u.left) in
    (same u.run held used w.0, x.holds ∙ ap (λ (k : List ℕ). k ++ drop (length k) p) u.held ∙ sym y.holds, u.state, w.1)

pub one_chunk : OneChunk
one_chunk run held chunk p p₁ p₂ s s₁ s₂ d d₁ d₂ (Ok r₁) (Ok r₂) (h, x) (h', y) =
    let u = one_chunked run held chunk p p₁ p₂ s s₁ s₂ d d₁ d₂ r₁ r₂ x y in
    (ap Ok u.0, u.1, u.2, u.3)
one_chunk run held chunk p p₁ p₂ s s₁ s₂ d d₁ d₂ (Ok r₁) (Err r₂) x y = absurd (omega (arith, x.0, y.0))
one_chunk run held chunk p p₁ p₂ s s₁ s₂ d d₁ d₂ (Err r₁) (Ok r₂) x y = absurd (omega (arith, x.0, y.0))
one_chunk run held chunk p p₁ p₂ s s₁ s₂ d d₁ d₂ (Err r₁) (Err r₂) (h, a, b, c, e) (h', a', b', c', e') =
    (ap Err (a ∙ sym a'), b ∙ sym b', c ∙ sym c', e ∙ sym e')

pub one_end : OneEnd
one_end run held p s s₁ s₂ d d₁ d₂ (Ok m) (Ok n) (h, (b, x, w)) (h', (b', y, w')) =
    let u = one_takes x.takes y.takes in
    let e : b ≡ b' = x.whole ∙ rw (u.0, u.2) (sym y.whole) in
    let v = one_written b' d d₁ d₂ m n (rw e at w) w' in
    (ap Ok v.0, u.1, v.1)
one_end run held p s s₁ s₂ d d₁ d₂ (Ok m) (Err r) x y = absurd (omega (arith, x.0, y.0))
one_end run held p s s₁ s₂ d d₁ d₂ (Err r) (Ok n) x y = absurd (omega (arith, x.0, y.0))
one_end run held p s s₁ s₂ d d₁ d₂ (Err r₁) (Err r₂) (h, a, b, c) (h', a', b', c') =
    (ap Err (a ∙ sym a'), b ∙ sym b', c ∙ sym c')
