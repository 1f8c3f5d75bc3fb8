-- Each claim of specs/Claim, proved. Assumes nothing.
use Rattle.std.specs.Prelude.{Err, None, Ok, Some}
use Prim.Native.Nat.{ℕ}
use mathlib.Core.Path.{◌≡◌, refl, sym, ap, ◌∙◌}
use mathlib.Core.List.{List, ◌++◌}
use native.Mathlib.Omega.{arith}
use lib.ListN.{drop}
use Rattle.rules.proofs.Impossible.{impossible}
use Rattle.rules.specs.Limits.{argument_bytes}
use Rattle.rules.specs.Pattern.{Pattern}
use Rattle.rules.specs.History.{Tick}
use Rattle.detector.specs.Memory.{fresh}
use Rattle.body.specs.Check.{check_of}
use Rattle.body.specs.Claim.{BodyOf}
use Rattle.body.proofs.Bodies.{one_pattern, encode_sound}
use Rattle.refusal.specs.declared.Refusal.{Refusal}
use Rattle.watcher.specs.State.{state_of, room_of}
use Rattle.watcher.specs.Answer.{IsOpened, IsTicked, TickRefused, over, broken, below, OpenRefused, unsound, short}
use Rattle.watcher.specs.Claim.{Agrees, StaysInForm, FormedExactly, ExtentExactly, OneTick, OneOpening, OneRoom, Watched, opened, window, nothing}
use Rattle.watcher.proofs.Judges as Judges
use Rattle.watcher.proofs.Calls.{ticked_as_walked}
use Rattle.watcher.proofs.Agrees.{never_both, watched_reached, reached_form, reached_answers}

pub agrees : Agrees
agrees b e w h s s' x t v r l k i = reached_answers s' t v r w.bodied (watched_reached b e w x) l k i

-- the body that a slice was opened with
watched_body : {b : List ℕ} {h : List Tick} {s : List ℕ} → Watched b h s → (e : Pattern) × BodyOf argument_bytes b e
watched_body (opened o) = (o.pattern, o.body)
watched_body (window t w start x i) = watched_body x
watched_body (nothing t w x i) = watched_body x

pub stays_in_form : StaysInForm
stays_in_form b h s x =
    let o = watched_body x in
    reached_form o.1.bodied (watched_reached b o.0 o.1 x)

pub formed_exactly : FormedExactly
formed_exactly = Judges.formed_exactly

pub extent_exactly : ExtentExactly
extent_exactly = Judges.extent_exactly

-- a tick is refused in one way only
one_refusal : {s : List ℕ} {t : ℕ} {r r' : Refusal} → TickRefused s t r → TickRefused s t r' → r ≡ r'
one_refusal (over h q) (over h' q') = q ∙ sym q'
one_refusal (over h q) (broken h' n' q') = absurd (omega arith)
one_refusal (over h q) (below h' f' l' q') = absurd (omega arith)
one_refusal (broken h n q) (over h' q') = absurd (omega arith)
one_refusal (broken h n q) (broken h' n' q') = q ∙ sym q'
one_refusal (broken h n q) (below h' f' l' q') = absurd (n f')
one_refusal (below h f l q) (over h' q') = absurd (omega arith)
one_refusal (below h f l q) (broken h' n' q') = absurd (n' f)
one_refusal (below h f l q) (below h' f' l' q') = q ∙ sym q'

-- the walk goes by the words alone, so accepted ticks agree
one_answer : {s s' s'' : List ℕ} {t w a b : ℕ} → IsTicked s s' t w a → IsTicked s s'' t w b → (a ≡ b) × (s' ≡ s'')
one_answer i j =
    let u = ticked_as_walked i in
    let v = ticked_as_walked j in
    (u.0 ∙ sym v.0, u.1 ∙ sym v.1)

pub one_tick : OneTick
one_tick s s' s'' t w (Ok (Some a)) (Ok (Some b)) i j = let o = one_answer i j in (cc o.0, o.1)
one_tick s s' s'' t w (Ok (Some a)) (Ok None) i j = absurd (omega (arith, (one_answer i j).0))
one_tick s s' s'' t w (Ok (Some a)) (Err r) i j = absurd (never_both i j.0)
one_tick s s' s'' t w (Ok None) (Ok (Some b)) i j = absurd (omega (arith, (one_answer i j).0))
one_tick s s' s'' t w (Ok None) (Ok None) i j = (refl, (one_answer i j).1)
one_tick s s' s'' t w (Ok None) (Err r) i j = absurd (never_both i j.0)
one_tick s s' s'' t w (Err r) (Ok (Some b)) i j = absurd (never_both j i.0)
one_tick s s' s'' t w (Err r) (Ok None) i j = absurd (never_both j i.0)
one_tick s s' s'' t w (Err r) (Err r') i j = (ap Err (one_refusal i.0 j.0), i.1 ∙ sym j.1)

-- two bodies of the same bytes
same_pattern : {b : List ℕ} {e e' : Pattern} → BodyOf argument_bytes b e → BodyOf argument_bytes b e' → e ≡ e'
same_pattern {b} {e} {e'} w w' = one_pattern argument_bytes (omega arith) b e e' w w'

-- a body of a pattern is not refused
body_sound : {b : List ℕ} {e : Pattern} {r : Refusal} → BodyOf argument_bytes b e → check_of argument_bytes b ≡ Err r → ⊥
body_sound {b} {e} {r} w q =
    let k : check_of argument_bytes b ≡ Ok tt = ap (check_of argument_bytes) w.same ∙ encode_sound argument_bytes (omega arith) e w.bodied in
    impossible cc

-- opening is not both done and refused, and is refused in one way only
opened_refused : {b old new : List ℕ} {r : Refusal} → IsOpened b old new → OpenRefused b old r → ⊥
opened_refused o (unsound q) = body_sound o.body q
opened_refused o (short e w l q) = omega (arith, o.room, ap room_of (same_pattern o.body w))

one_opening_refusal : {b old : List ℕ} {r r' : Refusal} → OpenRefused b old r → OpenRefused b old r' → r ≡ r'
one_opening_refusal (unsound q) (unsound q') = cc
one_opening_refusal (unsound q) (short e w l k) = absurd (body_sound w q)
one_opening_refusal (short e w l k) (unsound q) = absurd (body_sound w q)
one_opening_refusal (short e w l k) (short e' w' l' k') = k ∙ rw (same_pattern w w') (sym k')

one_opened : {b old new new' : List ℕ} → IsOpened b old new → IsOpened b old new' → new ≡ new'
one_opened {b} {old} {new} {new'} o o' =
    let q : o.pattern ≡ o'.pattern = same_pattern o.body o'.body in
    o.words
    ∙ ap (λ (e : Pattern). state_of e 0 (fresh e) ++ drop (room_of e) old) q
    ∙ sym o'.words

pub one_opening : OneOpening
one_opening b old new new' (Ok _) (Ok _) o o' = (refl, one_opened o o')
one_opening b old new new' (Ok _) (Err r) o x = absurd (opened_refused o x.0)
one_opening b old new new' (Err r) (Ok _) x o = absurd (opened_refused o x.0)
one_opening b old new new' (Err r) (Err r') x x' =
    (ap Err (one_opening_refusal x.0 x'.0), x.1 ∙ sym x'.1)

pub one_room : OneRoom
one_room b (Ok n) (Ok n') x x' = ap Ok (x.2 ∙ ap room_of (same_pattern x.1 x'.1) ∙ sym x'.2)
one_room b (Ok n) (Err r) x q = absurd (body_sound x.1 q)
one_room b (Err r) (Ok n) q x = absurd (body_sound x.1 q)
one_room b (Err r) (Err r') q q' = cc
