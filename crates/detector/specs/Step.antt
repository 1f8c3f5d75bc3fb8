-- What a tick at t with the events w does: the answer it gives, and the memory after it (docs/RULES.md, "The detector").
-- An answer is start + 1 or 0 for none, so the later of two starts is the greater. Assumes nothing: these are definitions.
use Rattle.std.specs.Prelude.{◌∷◌, ℕ, suc, ◌+◌, ◌≤◌, ◌<◌, min, max}
use Rattle.std.proofs.Math.Decide.{dec_le, dec_lt, ℕ_discrete}
use Rattle.rules.specs.declared.Op.TheVariants.{Either, Both, Without, Chain}
use Rattle.rules.specs.Bits.{bit}
use Rattle.rules.specs.Decisions.{pick}
use Rattle.rules.specs.Pattern.{Pattern, event, pair, within}
use Rattle.detector.specs.Memory.{Span, Memory}
use Rattle.detector.specs.Possible.{starts}
use Rattle.detector.specs.Choice.{choose, gather}

-- the answer that starts at s
abbrev pub starting_at : ℕ → ℕ
starting_at s = suc s

-- the answer a at t, as a pair
abbrev pub pair_at : ℕ → ℕ → Span
pair_at t a = record { start = a; end = suc t }

-- the pair becomes the answer a where that starts strictly later
unfoldable pub later : Span → ℕ → ℕ → Span
later p a t = pick (dec_lt p.start a) (pair_at t a) p

-- the answer a at t is short enough: end - start <= n
abbrev pub short_enough : (n t a : ℕ) → Dec (suc t ≤ a + n)
short_enough n t a = dec_le (suc t) (a + n)

-- the answer a starts strictly later than v, the latest start of y seen
abbrev pub unblocked : (v a : ℕ) → Dec (v < a)
unblocked v a = dec_lt v a

-- letter: (t,t) if it occurs
-- `|`: the later start
-- `+`: the greater of min(x, right) and min(left, y) over starts, with left and right as they are after the tick (`BothAsWorded` in Claim spells it out)
-- `-`: x's answer stands if it starts strictly later than the latest start of y seen
-- `;`: from the kept pairs and latest as they were, the pair ending before y's start with the latest start
-- `@`: its operand's answer if short enough
unfoldable pub answer : (e : Pattern) → Memory e → ℕ → ℕ → ℕ
answer (event n) m t w = pick (ℕ_discrete (bit w n) 1) (starting_at t) 0
answer (pair Either x y) m t w = max (answer x m.0 t w) (answer y m.1 t w)
answer (pair Both x y) m t w =
    max
    (min (answer x m.0 t w) (later m.3 (answer y m.1 t w) t).start)
    (min (later m.2 (answer x m.0 t w) t).start (answer y m.1 t w))
answer (pair Without x y) m t w = pick (unblocked (max m.2 (answer y m.1 t w)) (answer x m.0 t w)) (answer x m.0 t w) 0
answer (pair Chain x y) m t w = (choose (m.2 ∷ m.3) (answer y m.1 t w)).start
answer (within x n) m t w = pick (short_enough n t (answer x m t w)) (answer x m t w) 0

-- letter, `|`, `@`: nothing of their own
-- `+`: left and right become the operand's answer where that starts strictly later
-- `-`: the word becomes the latest start of y seen
-- `;`: for each possible start of y, the pair chosen from the kept pairs and latest as they were; these, without repeats, are the new kept pairs;
-- only then does latest become x's answer, if that starts strictly later
unfoldable pub next : (e : Pattern) → Memory e → ℕ → ℕ → Memory e
next (event n) m t w = tt
next (pair Either x y) m t w = (next x m.0 t w, next y m.1 t w)
next (pair Both x y) m t w = (
  next x m.0 t w,
  next y m.1 t w,
  later m.2 (answer x m.0 t w) t,
  later m.3 (answer y m.1 t w) t,
)
next (pair Without x y) m t w = (next x m.0 t w, next y m.1 t w, max m.2 (answer y m.1 t w))
next (pair Chain x y) m t w = (
  next x m.0 t w,
  next y m.1 t w,
  later m.2 (answer x m.0 t w) t,
  gather (m.2 ∷ m.3) (starts y (next y m.1 t w)),
)
next (within x n) m t w = next x m t w
