-- The walks over entries, as machines: a body's room, a state's form judged, and a tick; and the words that opening and a tick leave.
-- Of these a public call cites `extent` alone; specs/Claim says what it means. Assumes nothing: these are definitions.
use Rattle.std.specs.Prelude.{Bool, true, false, cond, List, [], ◌∷◌, ◌++◌, ℕ, suc, ◌+◌, ◌-◌, ◌/◌, ◌%◌, leb, length, get_or, take, drop, set, replicate, Option, None, Some}
use Rattle.std.specs.Option.{is_some}
use Rattle.std.proofs.Math.Decide.{dec_le, ℕ_discrete}
use Rattle.rules.specs.declared.Op.{Op}
use Rattle.rules.specs.Bits.{bit}
use Rattle.rules.specs.Decisions.{pick}
use Rattle.rules.specs.Limits.{argument_bytes, most_entries, ticks}
use Rattle.rules.specs.History.{Tick}
use Rattle.body.specs.declared.Entry.{Entry}
use Rattle.body.specs.Entry.{entry_of, entries_by, entries}
use Rattle.body.specs.Check.{scan}
use Rattle.body.specs.inner.Machine.{Machine, run}
use Rattle.cell.specs.Cell.{cell_words, possible, cell_answer, cell_after, starts_after}
use Rattle.cell.specs.Form.{cell_fits}
use Rattle.watcher.specs.State.{header, count_of, next_at, next_of, entry_words}

-- p on the stack, and the words of the cells so far
abbrev pub room_m : Machine
room_m =
    record {
      X = ℕ;
      G = ℕ;
      on_letter = λ n g. (0, g);
      on_pair = λ op x y g. (possible op x y, g + cell_words op y);
      on_within = λ n x g. (x, g);
    }

-- the words of the cells of a body
unfoldable pub cells_needed : List ℕ → ℕ
cells_needed b = (run room_m (entries argument_bytes b) [] 0).1

-- the words of its state
unfoldable pub words_needed : List ℕ → ℕ
words_needed b = header + length b / (argument_bytes + 1) + cells_needed b

-- the words as opening leaves them: the number of entries, no tick yet, the entries, no pair in any cell, and the words beyond as they were
unfoldable pub words_opened : List ℕ → List ℕ → List ℕ
words_opened b old =
    length b / (argument_bytes + 1) ∷ 0 ∷ (entry_words (entries argument_bytes b) ++ (replicate (cells_needed b) 0 ++ drop (words_needed b) old))

-- entry i of a state
unfoldable pub entry_in : List ℕ → ℕ → Entry
entry_in s i = entry_of argument_bytes (get_or s (i + header) 0 % 256) (get_or s (i + header) 0 / 256)

-- the words of a cell judged: those after it, or none if they are too few or not in form
unfoldable pub judge_cell : ℕ → Op → ℕ → List ℕ → Option (List ℕ)
judge_cell τ op y ahead =
    cond (leb (cell_words op y) (length ahead)) (cond (cell_fits τ op (take (cell_words op y) ahead)) (Some (drop (cell_words op y) ahead)) None) None

abbrev pub on_ahead : Option (List ℕ) → (List ℕ → Option (List ℕ)) → Option (List ℕ)
on_ahead None go = None
on_ahead (Some ahead) go = go ahead

-- p on the stack, and the words not yet judged
abbrev pub judge_m : ℕ → Machine
judge_m τ =
    record {
      X = ℕ;
      G = Option (List ℕ);
      on_letter = λ n g. (0, g);
      on_pair = λ op x y g. (possible op x y, on_ahead g (judge_cell τ op y));
      on_within = λ n x g. (x, g);
    }

abbrev pub is_none : Option ℕ → Bool
is_none None = true
is_none (Some i) = false

-- the words beyond the cells of a state, or none if a cell is not in form
unfoldable pub judged : List ℕ → Option (List ℕ)
judged s = (run (judge_m (next_of s)) (entries_by (entry_in s) 0 (count_of s)) [] (Some (drop (header + count_of s) s))).1

-- the state is in form, computed: the number of entries, their words, a sound body, the next tick, and every cell
unfoldable pub formed : List ℕ → Bool
formed s =
    cond (leb 1 (count_of s)) (cond (leb (count_of s) most_entries) (cond (leb (header + count_of s) (length s))
    (cond (is_none (scan (entries_by (entry_in s) 0 (count_of s)) 0 0)) (cond (leb (next_of s) ticks)
    (is_some (judged s)) false) false) false) false) false

-- where the words of a state end, of n words in all, by those beyond them
abbrev pub end_by : ℕ → Option (List ℕ) → Option ℕ
end_by n None = None
end_by n (Some l) = Some (n - length l)

-- the number of a state's words, none if it is not in form
unfoldable pub extent : List ℕ → Option ℕ
extent s = cond (formed s) (end_by (length s) (judged s)) None

-- on the stack: an answer, and the possible starts, as many as p
abbrev pub Value : Type 0
Value = ℕ × List ℕ

-- the words of the cells written, and those ahead
abbrev pub Cells : Type 0
Cells = List ℕ × List ℕ

unfoldable pub tick_pair : ℕ → Op → Value → Value → Cells → Value × Cells
tick_pair t op x y g =
    let n : ℕ = cell_words op (length y.1) in
    let c : List ℕ = take n g.1 in
    let c' : List ℕ = cell_after op (t + 1) x.0 y.0 y.1 c in
    ((cell_answer op (t + 1) x.0 y.0 c, starts_after op x.1 y.1 c'), (g.0 ++ c', drop n g.1))

-- a letter's answer, and a restriction's
abbrev pub letter_answer : ℕ → ℕ → ℕ → ℕ
letter_answer t w n = pick (ℕ_discrete (bit w n) 1) (suc t) 0

abbrev pub within_answer : ℕ → ℕ → ℕ → ℕ
within_answer t n a = pick (dec_le (suc t) (a + n)) a 0

abbrev pub tick_m : ℕ → ℕ → Machine
tick_m t w =
    record {
      X = Value;
      G = Cells;
      on_letter = λ n g. ((letter_answer t w n, []), g);
      on_pair = tick_pair t;
      on_within = λ n x g. ((within_answer t n x.0, x.1), g);
    }

-- all the entries of a state: the stack, and the cells written and ahead
unfoldable pub ticked : ℕ → ℕ → List ℕ → List Value × Cells
ticked t w s = run (tick_m t w) (entries_by (entry_in s) 0 (count_of s)) [] ([], drop (header + count_of s) s)

-- the answer of the last entry
abbrev pub last_answer : List Value → ℕ
last_answer [] = 0
last_answer (v ∷ st) = v.0

unfoldable pub answer_of : ℕ → ℕ → List ℕ → ℕ
answer_of t w s = last_answer (ticked t w s).0

-- the words after the tick: the cells as they become, and the next tick allowed
unfoldable pub words_after : ℕ → ℕ → List ℕ → List ℕ
words_after t w s = set (take (header + count_of s) s ++ ((ticked t w s).1.0 ++ (ticked t w s).1.1)) next_at (t + 1)

-- ticks one after the other: their answers, and the words after them
unfoldable pub answers_fed : List Tick → List ℕ → List ℕ
answers_fed [] s = []
answers_fed (k ∷ h) s = answer_of k.0 k.1 s ∷ answers_fed h (words_after k.0 k.1 s)

unfoldable pub words_fed : List Tick → List ℕ → List ℕ
words_fed [] s = s
words_fed (k ∷ h) s = words_fed h (words_after k.0 k.1 s)
