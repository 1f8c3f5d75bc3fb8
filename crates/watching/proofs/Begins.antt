-- What is written for an input is written first for every longer one: lines are taken in one way. Assumes nothing.
use Prim.Native.Nat.{ℕ}
use mathlib.Core.Path.{◌≡◌, refl, sym, ap, ◌∙◌}
use mathlib.Core.List.{List, [], ◌∷◌, ◌++◌, append_assoc}
use lib.ListN.{take}
use Rattle.watching.specs.declared.Run.{Run}
use Rattle.watching.specs.Runs.{fresh, finish_line}
use Rattle.watching.specs.Answer.{LineTaken}
use Rattle.watching.specs.Whole.{lines_from, Takes, Prints}
use Rattle.watching.specs.Whole.Takes.{more as next_line}
use Rattle.watching.specs.Chunk.{most_held, hold, TakesBytes}
use Rattle.watching.specs.Chunk.TakesBytes.{all, full, byte, line}
use Rattle.watching.specs.Claim.{OutputBegins}
use Rattle.watching.proofs.Held.{held_taken, hold_held}
use Rattle.watching.proofs.Unique.{one_line}
use Rattle.watching.proofs.InPieces.{Watches, Still, lines_byte, lines_feed, watches_still}
use Rattle.watching.proofs.InPieces.Watches.{end, more}
use Rattle.watching.proofs.InPieces.Still.{still}
use Rattle.watching.proofs.Given.{given_watches}

-- bytes that are written in two parts
joined : (a b c : List ℕ) {x y : List ℕ} → x ≡ a ++ y → y ≡ b ++ c → x ≡ (a ++ b) ++ c
joined a b c p q = p ∙ ap (λ (l : List ℕ). a ++ l) q ∙ sym (append_assoc a b c)

-- of lines taken, those after the first
record Rest (run : Run) (s : List ℕ) (ls : List (List ℕ)) (last : Run) (s'' bytes written : List ℕ) : Type 0 where
  rest : List ℕ
  same : written ≡ bytes ++ rest
  takes : Takes run s ls last s'' rest

first_line : {run run₁ last : Run} {l s s₁ s'' bytes written : List ℕ} {ls : List (List ℕ)} → LineTaken run l s s₁ run₁ bytes
    → Takes run s (l ∷ ls) last s'' written → Rest run₁ s₁ ls last s'' bytes written
first_line x (next_line {rest = rest} y k) =
    let u = one_line _ _ _ _ _ _ _ _ _ y x in
    record { rest = rest; same = rw u.2; takes = rw (u.0, u.1) at k }

-- from a run at a line's beginning l to one at a line's beginning of which h' is held: the lines from here on are those that end on the way and the
-- lines from there on
record Parts (run : Run) (l s input : List ℕ) (run' : Run) (h' s' input' bytes : List ℕ) : Type 0 where
  begins : List ℕ
  held : h' ≡ take most_held begins
  comes : {last : Run} {s'' written : List ℕ} (later : List ℕ) → Takes run s (lines_from l (input ++ later)) last s'' written
      → Rest run' s' (lines_from begins (input' ++ later)) last s'' bytes written

bytes_part : {room : ℕ} {run run' : Run} {h h' s s' chunk bytes left : List ℕ} (l : List ℕ) → h ≡ take most_held l
    → TakesBytes room run h s chunk run' h' s' bytes left → Parts run l s chunk run' h' s' left bytes
bytes_part l e all = record { begins = l; held = e; comes = λ later k. record { rest = _; same = refl; takes = k } }
bytes_part l e (full p) = record { begins = l; held = e; comes = λ later k. record { rest = _; same = refl; takes = k } }
bytes_part l e (byte {c = c} {input = input} p n k) =
    let r = bytes_part (l ++ (c ∷ [])) (ap (λ (x : List ℕ). hold x c) e ∙ hold_held l c) k in
    record { begins = r.begins; held = r.held; comes = λ later t. r.comes later (rw (lines_byte l (input ++ later) c n) at t) }
bytes_part l e (line {input = input} {bytes = bytes} {rest = rest} p x k) =
    let r = bytes_part [] refl k in
    record {
      begins = r.begins;
      held = r.held;
      comes = λ later t.
          let f = first_line (held_taken l (rw e at x)) (rw (lines_feed l (input ++ later)) at t) in
          let g = r.comes later f.takes in
          record { rest = g.rest; same = joined bytes rest g.rest f.same g.same; takes = g.takes };
    }

watches_part : {run run' : Run} {h h' s s' input bytes : List ℕ} (l : List ℕ) → h ≡ take most_held l → Watches run h s input run' h' s' bytes
    → Parts run l s input run' h' s' [] bytes
watches_part l e end = record { begins = l; held = e; comes = λ later k. record { rest = _; same = refl; takes = k } }
watches_part l e (more {chunk = chunk} {bytes = bytes} {rest = rest} {left = left} later b w) =
    let r = bytes_part l e b in
    let q = watches_part r.begins r.held w in
    record {
      begins = q.begins;
      held = q.held;
      comes = λ last t.
          let f = r.comes (later ++ last) (rw (append_assoc chunk later last) at t) in
          let g = q.comes last (rw (← append_assoc left later last) at f.takes) in
          record { rest = g.rest; same = joined bytes rest g.rest f.same g.same; takes = g.takes };
    }

watched_begins : (s s' h input later bytes output : List ℕ) (run : Run) → Watches fresh [] s input run h s' bytes → Prints s (input ++ later) output
    → (rest : List ℕ) × (output ≡ bytes ++ rest)
watched_begins s s' h [] later bytes output run w x = go (watches_still w refl)
  where
    go : {run : Run} {h s' bytes : List ℕ} → Still fresh [] s run h s' bytes → (rest : List ℕ) × (output ≡ bytes ++ rest)
    go still = (output, refl)
watched_begins s s' h (c ∷ input) later bytes output run w x =
    let f = (watches_part [] refl w).comes later x.takes in
    (f.rest ++ finish_line x.run, x.whole ∙ ap (λ (b : List ℕ). b ++ finish_line x.run) f.same ∙ append_assoc bytes f.rest (finish_line x.run))

pub output_begins : OutputBegins
output_begins s s' p p' input later bytes output run held g x = watched_begins s s' _ input later bytes output run (given_watches g) x
