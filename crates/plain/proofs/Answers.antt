-- The ways that `evaluate` goes: each gives the promise of its case. Assumes nothing.
use Rattle.std.specs.Prelude.{Ok, Err}
use mathlib.Core.Path.{◌≡◌, refl}
use mathlib.Core.List.{List}
use Prim.Native.Nat.{ℕ, ◌≤◌, ◌<◌}
use lib.ListN.{length}
use borrow.Author.Tests.{lt-ltb, le-ltb}
use Rattle.rules.specs.Limits.{argument_bytes, most_words}
use Rattle.refusal.specs.declared.Refusal.{Refusal}
use Rattle.refusal.specs.declared.Refusal.TheVariants.{Room, Record}
use Rattle.body.specs.Check.{check_of}
use Rattle.plain.specs.Answer.{rows_needed, evaluation_of, RowsAfter, Answers}

module _ (b words old : List ℕ) where
  pub body_refused : (r : Refusal) → check_of argument_bytes b ≡ Err r → Answers b words old old (Err r)
  unfolding evaluation_of
  body_refused r e = record { answered = rw e; rows = refl }

  module _ (sound : check_of argument_bytes b ≡ Ok tt) where
    pub record_refused : most_words < length words → Answers b words old old (Err Record)
    unfolding evaluation_of
    record_refused h = record { answered = rw (sound, lt-ltb most_words (length words) h); rows = refl }

    module _ (short : length words ≤ most_words) where
      pub room_refused : length old < rows_needed b → Answers b words old old (Err (Room (rows_needed b)))
      unfolding evaluation_of
      room_refused h = record { answered = rw (sound, le-ltb most_words (length words) short, lt-ltb (length old) (rows_needed b) h); rows = refl }

      pub all_evaluated : rows_needed b ≤ length old → (new : List ℕ) → RowsAfter b words old new (Ok tt) → Answers b words old new (Ok tt)
      unfolding evaluation_of
      all_evaluated h new after = record {
        answered = rw (sound, le-ltb most_words (length words) short, le-ltb (length old) (rows_needed b) h);
        rows = after;
      }
