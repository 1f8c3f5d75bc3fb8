-- Opening's promise, from what the code computes: the walk over a sound body sums its room, and a fresh memory has zeros in every cell.
-- Assumes nothing.
use Rattle.std.specs.Prelude.{Ok}
use Prim.Native.Nat.{ℕ, zero, suc, ◌+◌, ◌*◌, ◌/◌, ◌≤◌, ◌<◌}
use mathlib.Core.Path.{◌≡◌, refl, sym, ap, ◌∙◌}
use mathlib.Core.List.{List, [], ◌∷◌, ◌++◌, append_assoc}
use native.Mathlib.Nat.{add-zero}
use native.Mathlib.Omega.{arith}
use lib.ListN.{length, get_or, drop, replicate, length-append, length-drop, get_or-append}
use lib.ListN.{length-replicate, get_or-replicate, replicate-append-replicate}
use lib.Seq.{get_or-drop, get_or-append-add, drop_at}
use Rattle.rules.specs.declared.Op.{Op}
use Rattle.rules.specs.declared.Op.TheVariants.{Either, Both, Without, Chain}
use Rattle.rules.specs.Limits.{argument_bytes}
use Rattle.rules.specs.Pattern.{Pattern, event, pair, within, size}
use Rattle.refusal.specs.declared.Refusal.TheVariants.{Room}
use Rattle.detector.specs.Memory.{fresh}
use Rattle.detector.specs.Possible.{p}
use Rattle.body.specs.declared.Entry.{Entry}
use Rattle.body.specs.Bytes.{Bytes}
use Rattle.body.specs.Entry.{entry_at, entries_by, entries}
use Rattle.body.specs.Postfix.{postfix}
use Rattle.body.specs.Check.{check_of}
use Rattle.body.specs.inner.Machine.{run, eval}
use Rattle.body.specs.Claim.{BodyOf}
use Rattle.body.proofs.Sizes.{whole_count}
use Rattle.body.proofs.Bodies.{length_encode, entries_encode, sound_pattern, length_by, length_read}
use Rattle.cell.specs.Words.{kept_words}
use Rattle.cell.specs.Cell.{cell_words}
use Rattle.watcher.specs.State.{word_of, entry_words, cells, cell_room, room_of, state_of}
use Rattle.watcher.specs.Answer.{RoomAnswers, IsOpened, OpenRefused, short}
use Rattle.watcher.specs.State.{header}
use Rattle.watcher.specs.inner.Form.{OpenReady}
use Rattle.body.proofs.Walk.{sound_start}
use Rattle.watcher.specs.inner.Walk.{room_m, cells_needed, words_needed, words_opened}
use Rattle.watcher.proofs.Entries.{run_tree, length_words}
use Rattle.watcher.proofs.States.{state_parts}
use Rattle.watcher.proofs.Cells.{left, right, own, cells_pair, possible_p}

-- on a tree the walk sums the words of the cells
room_tree : (e : Pattern) (g : ℕ) → eval room_m e g ≡ (p e, g + cell_room e)
unfolding eval p cell_room
room_tree (event n) g = ap (λ (k : ℕ). (0, k)) (omega arith)
room_tree (pair op x y) g = rw (room_tree x g, room_tree y (g + cell_room x), possible_p op x y) (ap (λ (k : ℕ). (p (pair op x y), k)) (omega arith))
room_tree (within x n) g = room_tree x g

-- no pairs are zeros
kept_zeros : (n : ℕ) → kept_words n [] ≡ replicate (2 * n) 0
unfolding kept_words
kept_zeros zero = refl
kept_zeros (suc n) = let e : 2 * suc n ≡ suc (suc (2 * n)) = omega arith in rw (e, kept_zeros n)

own_zeros : (op : Op) (x y : Pattern) → own op x y (fresh (pair op x y)) ≡ replicate (cell_words op (p y)) 0
unfolding fresh cell_words
own_zeros Either x y = refl
own_zeros Both x y = refl
own_zeros Without x y = refl
own_zeros Chain x y = let e : 2 * (1 + p y) ≡ suc (suc (2 * p y)) = omega arith in rw (e, kept_zeros (p y))

fresh_left : (op : Op) (x y : Pattern) → left op x y (fresh (pair op x y)) ≡ fresh x
unfolding fresh
fresh_left Either x y = refl
fresh_left Both x y = refl
fresh_left Without x y = refl
fresh_left Chain x y = refl

fresh_right : (op : Op) (x y : Pattern) → right op x y (fresh (pair op x y)) ≡ fresh y
unfolding fresh
fresh_right Either x y = refl
fresh_right Both x y = refl
fresh_right Without x y = refl
fresh_right Chain x y = refl

fresh_zeros : (e : Pattern) → cells e (fresh e) ≡ replicate (cell_room e) 0
unfolding cells fresh cell_room
fresh_zeros (event n) = refl
fresh_zeros (pair op x y) =
    let j : cell_room x + (cell_room y + cell_words op (p y)) ≡ cell_room x + cell_room y + cell_words op (p y) = omega arith in
    cells_pair op x y (fresh (pair op x y))
    ∙ rw (fresh_left op x y, fresh_right op x y, own_zeros op x y, fresh_zeros x, fresh_zeros y)
    (ap (λ (l : List ℕ). replicate (cell_room x) 0 ++ l) (replicate-append-replicate (cell_room y) (cell_words op (p y)) 0)
    ∙ replicate-append-replicate (cell_room x) (cell_room y + cell_words op (p y)) 0
    ∙ ap (λ (k : ℕ). replicate k 0) j)
fresh_zeros (within x n) = fresh_zeros x

-- the body of a pattern
module _ (b : List ℕ) (e : Pattern) (w : BodyOf argument_bytes b e) where
  body_entries : entries argument_bytes b ≡ postfix e
  body_entries = ap (entries argument_bytes) w.same ∙ entries_encode argument_bytes (omega arith) e w.bodied.proper

  body_count : length b / (argument_bytes + 1) ≡ size e
  body_count = whole_count argument_bytes (length b) (size e) (ap length w.same ∙ length_encode argument_bytes e)

  pub body_cells : cells_needed b ≡ cell_room e
  unfolding cells_needed
  body_cells =
      ap (λ (es : List Entry). (run room_m es [] 0).1) body_entries
      ∙ ap (λ (r : List ℕ × ℕ). r.1) (run_tree room_m e 0)
      ∙ ap (λ (r : ℕ × ℕ). r.1) (room_tree e 0)
      ∙ omega arith

  pub body_room : words_needed b ≡ room_of e
  unfolding words_needed
  body_room = rw (body_count, body_cells)

  pub body_opened : (old : List ℕ) → words_opened b old ≡ state_of e 0 (fresh e) ++ drop (room_of e) old
  unfolding words_opened
  body_opened old =
      rw (body_count, body_entries, body_cells, body_room, ← fresh_zeros e) (sym (state_parts e 0 (fresh e) (drop (room_of e) old)))

-- what the code tests and computes is what is promised
module _ (b : List ℕ) (bytes : Bytes b) (sound : check_of argument_bytes b ≡ Ok tt) where
  pub room_answers : RoomAnswers b (Ok (words_needed b))
  room_answers = let f = sound_pattern argument_bytes b bytes sound in (f.0, f.1, body_room b f.0 f.1)

  pub opened_as_written : (old : List ℕ) → words_needed b ≤ length old → IsOpened b old (words_opened b old)
  opened_as_written old h =
      let f = sound_pattern argument_bytes b bytes sound in
      record {
        pattern = f.0;
        body = f.1;
        room = omega (arith, body_room b f.0 f.1);
        words = body_opened b f.0 f.1 old;
      }

  pub refused_room : (old : List ℕ) (n : ℕ) → n ≡ words_needed b → length old < n → OpenRefused b old (Room n)
  refused_room old n e h =
      let f = sound_pattern argument_bytes b bytes sound in
      short f.0 f.1 (omega (arith, body_room b f.0 f.1)) (ap Room (e ∙ body_room b f.0 f.1))

  pub open_ready : (s : List ℕ) (n cells : ℕ) → n ≡ length b / (argument_bytes + 1) → cells ≡ cells_needed b → header + n + cells ≤ length s
      → OpenReady b s n cells
  open_ready s n cells e k h =
      let full = (sound_start argument_bytes b sound).full in
      record { whole = omega arith; cells_sum = k; room = h }

-- the words of an opened state, one by one, for the loops that write them
word_by : (f : ℕ → Entry) (i n k : ℕ) → k < n → get_or (entry_words (entries_by f i n)) k 0 ≡ word_of (f (i + k))
unfolding entry_words entries_by
word_by f i zero k h = absurd (omega arith)
word_by f i (suc n) zero h = rw (add-zero i)
word_by f i (suc n) (suc k) h =
    let e : i + 1 + k ≡ i + suc k = omega arith in
    word_by f (i + 1) n k (omega arith) ∙ ap (λ (j : ℕ). word_of (f j)) e

module _ (b old : List ℕ) where
  front : List ℕ
  front = length b / (argument_bytes + 1) ∷ 0 ∷ entry_words (entries argument_bytes b)

  length_front : length front ≡ 2 + length b / (argument_bytes + 1)
  unfolding front
  length_front = omega (arith, length_words (entries argument_bytes b), length_read argument_bytes b)

  zeros : List ℕ
  zeros = replicate (cells_needed b) 0

  split : words_opened b old ≡ front ++ (zeros ++ drop (words_needed b) old)
  unfolding words_opened front zeros
  split = refl

  length_filled : length (front ++ zeros) ≡ words_needed b
  unfolding words_needed zeros
  length_filled = omega (arith, length-append front zeros, length_front, length-replicate {A = ℕ} (cells_needed b) 0)

  whole : words_opened b old ≡ (front ++ zeros) ++ drop (words_needed b) old
  whole = split ∙ sym (append_assoc front zeros (drop (words_needed b) old))

  pub opened_count : get_or (words_opened b old) 0 0 ≡ length b / (argument_bytes + 1)
  unfolding words_opened
  opened_count = refl

  pub opened_next : get_or (words_opened b old) 1 0 ≡ 0
  unfolding words_opened
  opened_next = refl

  pub opened_entry : (i : ℕ) → i < length b / (argument_bytes + 1) → get_or (words_opened b old) (2 + i) 0 ≡ word_of (entry_at argument_bytes b i)
  unfolding words_opened entries
  opened_entry i h =
      let n : ℕ = length b / (argument_bytes + 1) in
      let ws : List ℕ = entry_words (entries_by (entry_at argument_bytes b) 0 n) in
      let l : i < length ws = omega (arith, length_words (entries_by (entry_at argument_bytes b) 0 n), length_by (entry_at argument_bytes b) 0 n) in
      let z : 0 + i ≡ i = omega arith in
      sym (get_or-drop 2 (words_opened b old) i 0)
      ∙ get_or-append ws (replicate (cells_needed b) 0 ++ drop (words_needed b) old) 0 i l
      ∙ word_by (entry_at argument_bytes b) 0 n i h
      ∙ ap (λ (j : ℕ). word_of (entry_at argument_bytes b j)) z

  pub opened_zero : (j : ℕ) → j < cells_needed b → get_or (words_opened b old) (2 + length b / (argument_bytes + 1) + j) 0 ≡ 0
  unfolding zeros
  opened_zero j h =
      rw (split, ← length_front)
      (get_or-append-add front (zeros ++ drop (words_needed b) old) j 0
      ∙ get_or-append zeros (drop (words_needed b) old) 0 j (omega (arith, length-replicate {A = ℕ} (cells_needed b) 0))
      ∙ get_or-replicate (cells_needed b) j 0 0 h)

  -- the words beyond are as they were
  pub opened_beyond : drop (words_needed b) (words_opened b old) ≡ drop (words_needed b) old
  opened_beyond = ap (drop (words_needed b)) whole ∙ drop_at (front ++ zeros) (drop (words_needed b) old) (words_needed b) length_filled

  pub length_opened : words_needed b ≤ length old → length (words_opened b old) ≡ length old
  length_opened h =
      ap length whole
      ∙ omega (arith, length-append (front ++ zeros) (drop (words_needed b) old), length_filled, length-drop (words_needed b) old)
