-- The walk that sums the room of a sound body, a turn at a time, for a loop. Assumes nothing.
use Rattle.std.specs.Prelude.{Ok}
use Prim.Native.Nat.{ℕ, ◌+◌, ◌-◌, ◌*◌, ◌/◌, ◌≤◌, ◌<◌}
use mathlib.Core.Path.{◌≡◌, refl, sym, ap, ◌∙◌}
use mathlib.Core.List.{List, [], ◌∷◌}
use native.Mathlib.Nat.{sub-zero}
use native.Mathlib.Omega.{arith}
use lib.ListN.{length, get_or}
use Rattle.rules.specs.declared.Op.{Op}
use Rattle.rules.specs.Limits.{argument_bytes, most_entries}
use Rattle.body.specs.declared.Entry.{Entry}
use Rattle.body.specs.declared.Entry.TheVariants.{Letter, Pair, Within}
use Rattle.body.specs.Entry.{entry_at, entries_by, entries}
use Rattle.body.specs.Check.{check_of}
use Rattle.body.specs.inner.Machine.{step, run}
use Rattle.body.proofs.Walk.{run_end, sound_start}
use Rattle.cell.specs.Cell.{cell_words, possible}
use Rattle.watcher.specs.inner.Walk.{room_m, cells_needed}
use Rattle.watcher.specs.inner.Form.{merged}
use Rattle.watcher.proofs.Cells.{words_le}
use Rattle.watcher.proofs.Entries.{run_step}
use Rattle.watcher.proofs.Piles.{sum_cons, Piled, piled_start, piled_letter, piled_within, piled_two, piled_pair}

-- the number of entries
abbrev count : List ℕ → ℕ
count b = length b / (argument_bytes + 1)

-- before entry i: st is the stack, and g the words of the cells so far
pub record Rooming (b : List ℕ) (i g : ℕ) (st : List ℕ) : Type 0 where
  pub most : length b / (argument_bytes + 1) ≤ most_entries
  pub small : g ≤ 126 * i
  pub piled : Piled (entry_at argument_bytes b) (length b / (argument_bytes + 1)) i st
  pub same : (run room_m (entries_by (entry_at argument_bytes b) i (length b / (argument_bytes + 1) - i)) st g).1 ≡ cells_needed b

pub rooming_start : (b : List ℕ) → check_of argument_bytes b ≡ Ok tt → Rooming b 0 0 []
unfolding cells_needed entries
rooming_start b q =
    let s = sound_start argument_bytes b q in
    record { most = s.most; small = omega arith; piled = piled_start (entry_at argument_bytes b) (count b) s.rest; same = simp sub-zero }

module _ {b : List ℕ} {i g : ℕ} {st : List ℕ} (x : Rooming b i g st) where
  pub rooming_end : length b / (argument_bytes + 1) ≤ i → cells_needed b ≡ g
  rooming_end h = sym x.same ∙ ap (λ (r : List ℕ × ℕ). r.1) (run_end room_m (entry_at argument_bytes b) (count b) i st g h)

  module _ (h : i < length b / (argument_bytes + 1)) where
    turned : (e : Entry) → entry_at argument_bytes b i ≡ e → (st' : List ℕ) (g' : ℕ) → step room_m e st g ≡ (st', g')
        → (run room_m (entries_by (entry_at argument_bytes b) (i + 1) (count b - (i + 1))) st' g').1 ≡ cells_needed b
    turned e q st' g' d =
        ap (λ (r : List ℕ × ℕ). r.1) (run_step room_m (entry_at argument_bytes b) (count b) i st st' g g' e h q d) ∙ x.same

    pub rooming_letter : (n : ℕ) → entry_at argument_bytes b i ≡ Letter n → Rooming b (i + 1) g (0 ∷ st)
    unfolding step
    rooming_letter n q = record {
      most = x.most;
      small = omega (arith, x.small);
      piled = piled_letter x.piled h n q;
      same = turned (Letter n) q (0 ∷ st) g refl;
    }

    pub rooming_within : (n : ℕ) → entry_at argument_bytes b i ≡ Within n → Rooming b (i + 1) g st
    unfolding step
    rooming_within n q = record {
      most = x.most;
      small = omega (arith, x.small);
      piled = piled_within x.piled h n q;
      same = turned (Within n) q st g (within_same st);
    }
      where
        within_same : (st : List ℕ) → step room_m (Within n) st g ≡ (st, g)
        within_same [] = refl
        within_same (a ∷ st) = refl

rooming_pair : {b : List ℕ} {i g u v : ℕ} {st : List ℕ} → Rooming b i g (v ∷ u ∷ st) → i < length b / (argument_bytes + 1)
    → (op : Op) → entry_at argument_bytes b i ≡ Pair op → Rooming b (i + 1) (g + cell_words op v) (possible op u v ∷ st)
unfolding step
rooming_pair {b} {i} {g} {u} {v} {st} x h op q = record {
  most = x.most;
  small = omega (arith, x.small, x.piled.few, x.most, words_le op v, sum_cons);
  piled = piled_pair x.piled h op q;
  same = turned x h (Pair op) q (possible op u v ∷ st) (g + cell_words op v) refl;
}

pub rooming_merge : {b : List ℕ} {i g : ℕ} {st : List ℕ} → Rooming b i g st → i < length b / (argument_bytes + 1)
    → (op : Op) → entry_at argument_bytes b i ≡ Pair op → Rooming b (i + 1) (g + cell_words op (get_or st 0 0)) (merged op st)
rooming_merge {b} {i} {g} {st = []} x h op q = absurd (omega (arith, piled_two x.piled h op q))
rooming_merge {b} {i} {g} {st = v ∷ []} x h op q = absurd (omega (arith, piled_two x.piled h op q))
rooming_merge {b} {i} {g} {st = v ∷ u ∷ st} x h op q = rooming_pair x h op q
