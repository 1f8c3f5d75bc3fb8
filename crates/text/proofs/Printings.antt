-- The ways that `print_pattern` ends: one lemma for each answer. Assumes nothing.
use Rattle.std.proofs.Common.{◌≡◌, ℕ, ◌/◌, ◌≤◌, List, [], ◌++◌, length, drop, Result, Ok, ap, ◌∙◌, append-nil, arith}
use Rattle.rules.specs.Limits.{argument_bytes}
use Rattle.body.specs.Bytes.{Bytes}
use Rattle.body.specs.Entry.{entries}
use Rattle.body.specs.Check.{check_of}
use Rattle.body.proofs.Bodies.{sound_pattern, entries_encode}
use Rattle.text.specs.Render.{most_printed, render}
use Rattle.text.specs.Answer.{IsBody, PrintingOf}
use Rattle.text.specs.Answer.RefusedBody.{room}
use Rattle.text.proofs.Copies.{by_copy}
use Rattle.copying.specs.Copy.{CopyOf}
use Rattle.std.specs.Result.{MatchResult, IsErrAnd}
use Rattle.refusal.specs.declared.Refusal.{Refusal}
use Rattle.refusal.specs.declared.Refusal.TheVariants.{Room}
use Rattle.text.specs.inner.Written.{entry_length}
use Rattle.text.specs.inner.Helpers.{Ends, TreeReady, TreeWritten}
use Rattle.text.proofs.Lengths.{printed_at_most}

module _ (b : List ℕ) (w : Bytes b) (p : check_of argument_bytes b ≡ Ok tt) where
  abbrev is_body : IsBody b
  is_body = let f = sound_pattern argument_bytes b w p in record { tree = f.0; body = f.1 }

  all_entries : Ends b (length b / entry_length) [] is_body.tree
  unfolding entries
  all_entries =
      ap (entries argument_bytes) is_body.body.same
      ∙ entries_encode argument_bytes (omega arith) is_body.tree is_body.body.bodied.proper

  text_fits : length (render is_body.tree) ≤ most_printed
  text_fits = printed_at_most is_body.tree is_body.body.bodied.proper is_body.body.bodied.few

  pub body_ready : TreeReady b (length b / entry_length)
  body_ready = record {
    tree = is_body.tree;
    others = [];
    ends = all_entries;
    proper = is_body.body.bodied.proper;
  }

  module _ {m : List ℕ} {entry : ℕ} (t : TreeWritten b (length b / entry_length) [] m entry) where
    made : m ≡ render is_body.tree
    made = (t [] is_body.tree all_entries).text (omega (arith, text_fits)) ∙ append-nil (render is_body.tree)

    -- the answer, by the copy
    pub printed : (d d' : List ℕ) (r : Result ℕ ℕ) (q : Result ℕ Refusal) → CopyOf m d d' r
        → MatchResult r (λ n. q ≡ Ok n) (λ n. IsErrAnd q (λ y. y ≡ Room n)) → PrintingOf b d d' q
    printed d d' r q a e =
        by_copy (PrintingOf b d d') m d d' r q a e
        (λ n i. record { some = is_body; counts = i.counts ∙ ap length made; fits = i.fits; written = i.copied ∙ ap (λ (x : List ℕ). x ++ drop n d) made })
        (λ n i. (room (record { some = is_body; needs = i.needs ∙ ap length made; lacks = i.lacks }), i.kept))
