-- An input taken in chunks prints what its lines print: what is held is always the beginning of the line at hand, cut, so that each line is taken as
-- the whole line is; and an input that is not empty has taken a line or holds a byte. Assumes nothing.
use Prim.Native.Nat.{ℕ, ◌<◌}
use mathlib.Core.Path.{◌≡◌, refl, ap, ◌∙◌}
use mathlib.Core.List.{List, [], ◌∷◌, ◌++◌, append_assoc, append-nil}
use native.Mathlib.Omega.{arith}
use borrow.Author.Tests.{ne_eqb}
use lib.ListN.{length, take, length-append, length-take}
use Rattle.watching.specs.declared.Run.{Run}
use Rattle.watching.specs.Runs.{fresh}
use Rattle.watching.specs.Answer.{Acted, LineTaken}
use Rattle.watching.specs.Answer.Acted.{silent, added, full as over, refused}
use Rattle.watching.specs.Answer.LineTaken.{first, further, after}
use Rattle.watching.specs.Whole.{lines_from, Takes, Prints}
use Rattle.watching.specs.Whole.Takes.{more as next_line}
use Rattle.watching.specs.Chunk.{most_held, hold, last_lines, TakesBytes, Ends}
use Rattle.watching.specs.Chunk.TakesBytes.{all, full, byte, line}
use Rattle.watching.proofs.Held.{held_taken, hold_held}
use Rattle.watching.specs.Answer.{LineAnswer}

-- bytes taken in pieces, where what a piece leaves comes first in the next
pub data Watches : Run → List ℕ → List ℕ → List ℕ → Run → List ℕ → List ℕ → List ℕ → Type 0 where
  end : {run : Run} {h s : List ℕ} → Watches run h s [] run h s []
  more : {room : ℕ} {run run₁ run' : Run} {h h₁ h' s s₁ s' chunk bytes rest left : List ℕ} (later : List ℕ)
      → TakesBytes room run h s chunk run₁ h₁ s₁ bytes left → Watches run₁ h₁ s₁ (left ++ later) run' h' s' rest
      → Watches run h s (chunk ++ later) run' h' s' (bytes ++ rest)

-- ---- the lines taken

-- from a run at a line's beginning l to one at a line's beginning of which h' is held: the lines from there on, with those that end on the way, are
-- the lines from here on
record Reaches (run : Run) (l s input : List ℕ) (run' : Run) (h' s' input' bytes : List ℕ) : Type 0 where
  begins : List ℕ
  held : h' ≡ take most_held begins
  leads : {last : Run} {s'' rest : List ℕ} (later : List ℕ) → Takes run' s' (lines_from begins (input' ++ later)) last s'' rest
      → Takes run s (lines_from l (input ++ later)) last s'' (bytes ++ rest)

-- a byte that ends no line
pub lines_byte : (l input : List ℕ) (c : ℕ) → (c ≡ 10 → ⊥) → lines_from l (c ∷ input) ≡ lines_from (l ++ (c ∷ [])) input
unfolding lines_from
lines_byte l input c n = rw (ne_eqb c 10 n)

-- a line feed
pub lines_feed : (l input : List ℕ) → lines_from l (10 ∷ input) ≡ l ∷ lines_from [] input
unfolding lines_from
lines_feed l input = refl

bytes_reach : {room : ℕ} {run run' : Run} {h h' s s' chunk bytes left : List ℕ} (l : List ℕ) → h ≡ take most_held l
    → TakesBytes room run h s chunk run' h' s' bytes left → Reaches run l s chunk run' h' s' left bytes
bytes_reach l e all = record { begins = l; held = e; leads = λ later k. k }
bytes_reach l e (full p) = record { begins = l; held = e; leads = λ later k. k }
bytes_reach l e (byte {c = c} {input = input} p n k) =
    let r = bytes_reach (l ++ (c ∷ [])) (ap (λ (x : List ℕ). hold x c) e ∙ hold_held l c) k in
    record { begins = r.begins; held = r.held; leads = λ later t. rw (lines_byte l (input ++ later) c n) (r.leads later t) }
bytes_reach l e (line {input = input} p x k) =
    let r = bytes_reach [] refl k in
    record {
      begins = r.begins;
      held = r.held;
      leads = λ later t. rw (lines_feed l (input ++ later), append_assoc) (next_line (held_taken l (rw e at x)) (r.leads later t));
    }

watches_reach : {run run' : Run} {h h' s s' input bytes : List ℕ} (l : List ℕ) → h ≡ take most_held l → Watches run h s input run' h' s' bytes
    → Reaches run l s input run' h' s' [] bytes
watches_reach l e end = record { begins = l; held = e; leads = λ later k. k }
watches_reach l e (more {chunk = chunk} {bytes = bytes} {left = left} later b w) =
    let r = bytes_reach l e b in
    let q = watches_reach r.begins r.held w in
    record {
      begins = q.begins;
      held = q.held;
      leads = λ last t.
          let k = rw (append_assoc left later last) at (q.leads last t) in
          rw (append_assoc chunk later last, append_assoc bytes) (r.leads (later ++ last) k);
    }

-- ---- an input that is not empty

-- a line that is taken leaves no fresh run
acted_begins : {run run' : Run} {a : LineAnswer} {bytes : List ℕ} → Acted run a run' bytes → 0 < run'.phase
acted_begins silent = omega arith
acted_begins (added e) = omega arith
acted_begins (over e) = omega arith
acted_begins refused = omega arith

taken_begins : {run run' : Run} {l s s' bytes : List ℕ} → LineTaken run l s s' run' bytes → 0 < run'.phase
taken_begins (first p x a) = acted_begins a
taken_begins (further p x a) = acted_begins a
taken_begins (after p e) = omega arith

-- before line 1, with nothing held
record Unmoved (run : Run) (h : List ℕ) : Type 0 where
  first : run.phase ≡ 0
  empty : h ≡ []

-- a byte is always held
hold_some : (h : List ℕ) (c : ℕ) → hold h c ≡ [] → ⊥
hold_some h c e = omega (arith, length-take most_held (h ++ (c ∷ [])), length-append h (c ∷ []), ap length e)

bytes_unmoved : {room : ℕ} {run run' : Run} {h h' s s' chunk bytes left : List ℕ} → TakesBytes room run h s chunk run' h' s' bytes left → Unmoved run' h'
    → Unmoved run h × (left ≡ chunk)
bytes_unmoved all u = (u, refl)
bytes_unmoved (full p) u = (u, refl)
bytes_unmoved (byte {c = c} {h = h} p n k) u = absurd (hold_some h c (bytes_unmoved k u).0.empty)
bytes_unmoved (line p x k) u = absurd (omega (arith, taken_begins x, (bytes_unmoved k u).0.first))

watches_unmoved : {run run' : Run} {h h' s s' input bytes : List ℕ} → Watches run h s input run' h' s' bytes → Unmoved run' h'
    → Unmoved run h × (input ≡ [])
watches_unmoved end u = (u, refl)
watches_unmoved (more later b w) u =
    let v = watches_unmoved w u in
    let z = bytes_unmoved b v.0 in
    (z.0, rw (← z.1) v.1)

-- ---- an input that is empty

-- nothing has changed, and nothing is written
pub data Still (run : Run) (h s : List ℕ) : Run → List ℕ → List ℕ → List ℕ → Type 0 where
  still : Still run h s run h s []

pub watches_still : {run run' : Run} {h h' s s' input bytes : List ℕ} → Watches run h s input run' h' s' bytes → length input ≡ 0
    → Still run h s run' h' s' bytes
watches_still end e = still
watches_still (more later all w) e = watches_still w e
watches_still (more later (full p) w) e = absurd (omega arith)
watches_still (more later (byte p n k) w) e = absurd (omega arith)
watches_still (more later (line p x k) w) e = absurd (omega arith)

-- ---- the end of input

-- what the end of input ends is the last line, except for an empty input
last_taken : {run last : Run} {s s' bytes : List ℕ} (l : List ℕ) → (Unmoved run (take most_held l) → ⊥)
    → Takes run s (last_lines run (take most_held l)) last s' bytes → Takes run s (lines_from l []) last s' bytes
unfolding lines_from
last_taken {run} [] n k = rw (ne_eqb run.phase 0 (λ e. n (record { first = e; empty = refl }))) at k
last_taken (c ∷ l) n (next_line x k) = next_line (held_taken (c ∷ l) x) k

pub pieces_print : (s s₁ s' input bytes last h : List ℕ) (run : Run) → Watches fresh [] s input run h s₁ bytes → Ends run h s₁ s' last
    → Prints s input (bytes ++ last)
pieces_print s s₁ s' [] bytes last h run w x = go (watches_still w refl) x
  where
    go : {run : Run} {h s₁ bytes : List ℕ} → Still fresh [] s run h s₁ bytes → Ends run h s₁ s' last → Prints s [] (bytes ++ last)
    go still x = record { run = x.last; state = s'; bytes = x.bytes; takes = x.takes; whole = x.whole }
pieces_print s s₁ s' (c ∷ input) bytes last h run w x =
    let r = watches_reach [] refl w in
    let moved : Unmoved run h → ⊥ = λ u. omega (arith, ap length (watches_unmoved w u).1) in
    let k = last_taken r.begins (rw r.held at moved) (rw r.held at x.takes) in
    record {
      run = x.last;
      state = s';
      bytes = bytes ++ x.bytes;
      takes = rw (append-nil (c ∷ input)) at (r.leads [] k);
      whole = rw (x.whole, append_assoc bytes);
    }
