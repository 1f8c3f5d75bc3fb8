-- A line of which only the first bytes are held is taken as the whole line is: one that is cut is over 1,024 bytes, and each such line is refused
-- alike. Assumes nothing.
use Prim.Native.Nat.{ℕ, ◌<◌}
use mathlib.Core.Path.{◌≡◌, sym, ◌∙◌}
use mathlib.Core.List.{List, [], ◌∷◌, ◌++◌}
use native.Mathlib.Decide.{dec_lt}
use native.Mathlib.Omega.{arith}
use lib.ListN.{length, take}
use lib.Seq.{length-take-le, take_all, take-append-le}
use Rattle.rules.specs.Limits.{most_text}
use Rattle.text.specs.Answer.RefusedText.{long, syntax, many, room}
use Rattle.line.specs.Answer.RefusedLine.{long as long_line, malformed, range}
use Rattle.watching.specs.declared.Run.{Run}
use Rattle.watching.specs.Answer.{FirstLine, FurtherLine, LineTaken}
use Rattle.watching.specs.Answer.FirstLine.{unread as no_text, unopened, opened}
use Rattle.watching.specs.Answer.FurtherLine.{unread as no_tick, unticked, window, nothing}
use Rattle.watching.specs.Answer.LineTaken.{first, further, after}
use Rattle.watching.specs.Chunk.{most_held, hold}
use Rattle.watching.specs.Answer.{LineAnswer}

module _ (h l : List ℕ) (over : most_text < length h) (over' : most_text < length l) where
  -- as line 1 both are refused for their length
  long_first : {s s' : List ℕ} {a : LineAnswer} → FirstLine h s s' a → FirstLine l s s' a
  long_first (no_text {body} (long x, e) k) = no_text {body = body} (long (record { long = over' }), e) k
  long_first (no_text (syntax x, e) k) = absurd (omega (arith, x.short))
  long_first (no_text (many x, e) k) = absurd (omega (arith, x.some.short))
  long_first (no_text (room x, e) k) = absurd (omega (arith, x.some.short))
  long_first (unopened x y) = absurd (omega (arith, x.some.short))
  long_first (opened x y) = absurd (omega (arith, x.some.short))

  -- and so they are as a further line
  long_further : {s s' : List ℕ} {a : LineAnswer} → FurtherLine h s s' a → FurtherLine l s s' a
  long_further (no_tick (long_line x) k) = no_tick (long_line over') k
  long_further (no_tick (malformed x) k) = no_tick (long_line over') k
  long_further (no_tick (range x) k) = absurd (omega (arith, x.short))
  long_further (unticked x y) = absurd (omega (arith, x.short))
  long_further (window x y) = absurd (omega (arith, x.short))
  long_further (nothing x y) = absurd (omega (arith, x.short))

  long_taken : {run run' : Run} {s s' bytes : List ℕ} → LineTaken run h s s' run' bytes → LineTaken run l s s' run' bytes
  long_taken (first p x a) = first p (long_first x) a
  long_taken (further p x a) = further p (long_further x) a
  long_taken (after p e) = after p e

-- the whole line is taken as what is held of it
pub held_taken : (l : List ℕ) {run run' : Run} {s s' bytes : List ℕ} → LineTaken run (take most_held l) s s' run' bytes
    → LineTaken run l s s' run' bytes
held_taken l {run} {run'} {s} {s'} {bytes} x = go (dec_lt (length l) most_held)
  where
    go : Dec (length l < most_held) → LineTaken run l s s' run' bytes
    go (yes h) = rw (take_all most_held l (omega arith)) at x
    go (no h) = long_taken (take most_held l) l (omega (arith, length-take-le most_held l (omega arith))) (omega arith) x

-- what is held with a byte more is what is held of the line with that byte
pub hold_held : (l : List ℕ) (c : ℕ) → hold (take most_held l) c ≡ take most_held (l ++ (c ∷ []))
hold_held l c = go (dec_lt (length l) most_held)
  where
    go : Dec (length l < most_held) → hold (take most_held l) c ≡ take most_held (l ++ (c ∷ []))
    go (yes h) = rw (take_all most_held l (omega arith))
    go (no h) =
        let e = length-take-le most_held l (omega arith) in
        take-append-le most_held (take most_held l) (c ∷ []) (omega arith)
        ∙ take_all most_held (take most_held l) (omega arith)
        ∙ sym (take-append-le most_held l (c ∷ []) (omega arith))
