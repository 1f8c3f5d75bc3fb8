-- The loops over a sound file's patterns: the rooms summed, and the states opened, a pattern at a time. Assumes nothing.
use Rattle.std.specs.Prelude.{Err, Ok, Result}
use Rattle.std.specs.Result.{result_unwrap_or}
use Prim.Native.Nat.{ℕ, ◌+◌, ◌-◌, ◌*◌, ◌≤◌, ◌<◌}
use mathlib.Core.Path.{◌≡◌, refl, sym, ap, ◌∙◌}
use mathlib.Core.List.{List, [], ◌++◌, append_assoc, append-nil}
use native.Mathlib.Omega.{arith}
use lib.ListN.{length, take, drop, take-append-drop, drop_of_length-le}
use borrow.Rule.Slice.PartMut.{mid_of, put_mid, same_len_mid, Post-is, mid_len, drop_put}
use Rattle.rules.proofs.Impossible.{impossible}
use Rattle.rules.specs.Limits.{argument_bytes, most_patterns}
use Rattle.rules.specs.Pattern.{Pattern}
use Rattle.detector.specs.Memory.{fresh}
use Rattle.refusal.specs.declared.Refusal.{Refusal}
use Rattle.body.specs.Check.{check_of}
use Rattle.body.specs.Claim.{BodyOf}
use Rattle.body.proofs.Bodies.{one_pattern, encode_sound}
use Rattle.file.specs.Place.{pattern_count}
use Rattle.watcher.specs.State.{state_of, room_of}
use Rattle.watcher.specs.Answer.{RoomAnswers, OpenAnswers, OpenRefused, unsound, short}
use Rattle.watcher.proofs.Cells.{room_small}
use Rattle.set.specs.File.{rooms_of, states_of, Holds, IsSetOpened}
use Rattle.set.specs.inner.Calls.{RoomSummed, HasPattern, BodyAt, RoomAt, HasRoom, OpenedAt, OpenReady}
use Rattle.std.proofs.lemmas.Slice.{take-put_mid}
use Rattle.set.proofs.Files.{Ahead, Next, ahead_start, ahead_few, ahead_end, ahead_more}

-- a pattern's body
module _ {e : Pattern} {b : List ℕ} (x : BodyOf argument_bytes b e) where
  not_refused : {r : Refusal} → check_of argument_bytes b ≡ Err r → ⊥
  not_refused k =
      let s = ap (check_of argument_bytes) x.same ∙ encode_sound argument_bytes (omega arith) e x.bodied in impossible cc

  one : {e' : Pattern} → BodyOf argument_bytes b e' → e' ≡ e
  one {e'} y = one_pattern argument_bytes (omega arith) b e' e y x

  -- its room, and its state as opened
  room_words : (r : Result ℕ Refusal) → RoomAnswers b r → result_unwrap_or r 0 ≡ room_of e
  room_words (Ok n) k = k.2 ∙ ap room_of (one k.1)
  room_words (Err r) k = absurd (not_refused k)

  opened_state : (s s' : List ℕ) (r : Result (Unit {0}) Refusal) → OpenAnswers b s s' r → length s ≡ room_of e → s' ≡ state_of e 0 (fresh e)
  opened_state s s' (Ok _) o l =
      let w : s' ≡ state_of e 0 (fresh e) ++ drop (room_of e) s =
      o.words ∙ ap (λ (z : Pattern). state_of z 0 (fresh z) ++ drop (room_of z) s) (one o.body) in
      let k : length s ≤ room_of e = omega arith in
      w ∙ ap (λ (z : List ℕ). state_of e 0 (fresh e) ++ z) (drop_of_length-le s k) ∙ append-nil (state_of e 0 (fresh e))
  opened_state s s' (Err r) o l = absurd (go o.0)
    where
      go : OpenRefused b s r → ⊥
      go (unsound k) = not_refused k
      go (short z y k m) = omega (arith, ap room_of (one y))

-- so, whichever pattern is said to be there, the words are those of its state, and a slice with its room holds its state
pub room_at : {f : List ℕ} {i : ℕ} {b : List ℕ} → BodyAt f i b → (r : Result ℕ Refusal) → RoomAnswers b r → RoomAt f i (result_unwrap_or r 0)
room_at q r k = record { room = λ e x. room_words (q.body e x) r k }

pub opened_at : {f : List ℕ} {i : ℕ} {b : List ℕ} → BodyAt f i b → (s s' : List ℕ) (r : Result (Unit {0}) Refusal) → OpenAnswers b s s' r
    → HasRoom f i s → OpenedAt f i s'
opened_at q s s' r o h = record {
  state = λ e x. opened_state (q.body e x) s s' r o (h.room ∙ ap room_of (one (q.body e x) (q.body h.pattern h.at)));
}

-- before pattern i: the words of the states so far, and those ahead
pub record Summing (f : List ℕ) (count words i : ℕ) : Type 0 where
  pub patterns : List Pattern
  pub rest : List Pattern
  pub ahead : Ahead f patterns count i rest
  pub sum : words + rooms_of rest ≡ rooms_of patterns
  pub small : words ≤ 8003 * i

pub summing_start : {f : List ℕ} {es : List Pattern} (count : ℕ) → count ≡ pattern_count f → Holds f es → Summing f count 0 0
summing_start {f} {es} count q h = record { patterns = es; rest = es; ahead = ahead_start count q h; sum = omega arith; small = omega arith }

module _ {f : List ℕ} {count words i : ℕ} (x : Summing f count words i) where
  pub summing_few : words ≤ 8003 * most_patterns
  summing_few = omega (arith, x.small, ahead_few x.ahead)

  pub summing_end : count ≤ i → RoomSummed f words
  unfolding rooms_of
  summing_end h = record {
    patterns = x.patterns;
    file = x.ahead.file;
    room = omega (arith, x.sum, ap rooms_of (ahead_end x.ahead h));
  }

  module _ (h : i < count) where
    next : Next f x.patterns count i x.rest
    next = ahead_more x.ahead h

    pub summing_has : HasPattern f i
    summing_has = record { pattern = next.pattern; at = next.found }

    module _ (n : ℕ) (r : RoomAt f i n) where
      own : n ≡ room_of next.pattern
      own = r.room next.pattern next.found

      pub summing_small : n ≤ 8003
      summing_small = omega (arith, own, room_small next.pattern next.found.body.bodied.few)

      pub summing_more : Summing f count (words + n) (i + 1)
      unfolding rooms_of
      summing_more = record {
        patterns = x.patterns;
        rest = next.others;
        ahead = next.ahead;
        sum = omega (arith, x.sum, ap rooms_of next.same, own);
        small = omega (arith, x.small, summing_small);
      }

-- before pattern i: its state goes from a place on, and s is the slice so far
pub record Filling (f old : List ℕ) (count : ℕ) (s : List ℕ) (from i : ℕ) : Type 0 where
  pub patterns : List Pattern
  pub rest : List Pattern
  pub ahead : Ahead f patterns count i rest
  pub room : rooms_of patterns ≤ length old
  pub sum : from + rooms_of rest ≡ rooms_of patterns
  pub long : length s ≡ length old
  pub kept : drop from s ≡ drop from old
  pub words : take from s ++ states_of rest ≡ states_of patterns

pub filling_start : {f s : List ℕ} (count : ℕ) → count ≡ pattern_count f → OpenReady f s → Filling f s count s 0 0
filling_start count q r = record {
  patterns = r.summed.patterns;
  rest = r.summed.patterns;
  ahead = ahead_start count q r.summed.file;
  room = omega (arith, r.summed.room, r.room);
  sum = omega arith;
  long = refl;
  kept = refl;
  words = refl;
}

module _ {f old : List ℕ} {count : ℕ} {s : List ℕ} {from i : ℕ} (x : Filling f old count s from i) where
  pub filling_end : count ≤ i → IsSetOpened f old s
  unfolding rooms_of states_of
  filling_end h =
      let z : x.rest ≡ [] = ahead_end x.ahead h in
      let e : from ≡ rooms_of x.patterns = omega (arith, x.sum, ap rooms_of z) in
      let w : take from s ≡ states_of x.patterns = sym (append-nil (take from s)) ∙ rw z at x.words in
      record {
        patterns = x.patterns;
        file = x.ahead.file;
        room = x.room;
        words = sym (take-append-drop from s) ∙ rw (w, x.kept, e);
      }

  module _ (h : i < count) where
    pub filling_next : Next f x.patterns count i x.rest
    filling_next = ahead_more x.ahead h

    pub filling_has : HasPattern f i
    filling_has = record { pattern = filling_next.pattern; at = filling_next.found }

    module _ (to n : ℕ) (r : RoomAt f i n) (q : to ≡ from + n) where
      mine : to ≡ from + room_of filling_next.pattern
      mine = omega (arith, r.room filling_next.pattern filling_next.found)

      rooms : rooms_of x.rest ≡ room_of filling_next.pattern + rooms_of filling_next.others
      unfolding rooms_of
      rooms = ap rooms_of filling_next.same

      pub filling_within : to ≤ length s
      filling_within = omega (arith, mine, rooms, x.sum, x.room, x.long)

      mid_long : length (mid_of from (to - from) s) ≡ room_of filling_next.pattern
      mid_long = omega (arith, mid_len from to s filling_within, mine)

      pub filling_room : HasRoom f i (mid_of from (to - from) s)
      filling_room = record { pattern = filling_next.pattern; at = filling_next.found; room = mid_long }

      module _ (p : List ℕ) (w : OpenedAt f i p) (l : length p ≡ length (mid_of from (to - from) s)) where
        state : p ≡ state_of filling_next.pattern 0 (fresh filling_next.pattern)
        state = w.state filling_next.pattern filling_next.found

        length_part : length p ≡ to - from
        length_part = l ∙ mid_len from to s filling_within

        pub filling_more : Filling f old count (put_mid from (to - from) s p) to (i + 1)
        unfolding states_of
        filling_more =
            let z = filling_next in
            let ends : from ≤ to = omega arith in
            record {
              patterns = x.patterns;
              rest = z.others;
              ahead = z.ahead;
              room = x.room;
              sum = omega (arith, mine, rooms, x.sum);
              long = same_len_mid from (to - from) s p l ∙ x.long;
              kept =
                  drop_put from to s p ends filling_within length_part
                  ∙ sym (Post-is from to s ends)
                  ∙ ap (drop (to - from)) x.kept
                  ∙ Post-is from to old ends;
              words =
                  rw (take-put_mid from (to - from) s p to (omega (arith, length_part)) (omega (arith, filling_within)), append_assoc (take from s) p, state)
                  (rw z.same at x.words);
            }
