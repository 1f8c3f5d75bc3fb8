-- Each claim of specs/Claim, proved. Assumes nothing.
use Rattle.std.specs.Prelude.{Err, Ok}
use Prim.Native.Nat.{ℕ, zero, suc}
use mathlib.Core.Path.{◌≡◌, refl, sym, ap, ap₂, subst, ◌∙◌}
use mathlib.Core.List.{List, [], ◌∷◌, ◌++◌}
use native.Mathlib.Omega.{arith}
use lib.ListN.{length, take, drop}
use lib.Seq.{take_at, drop_at}
use Rattle.rules.proofs.Impossible.{impossible}
use Rattle.rules.specs.Limits.{argument_bytes}
use Rattle.rules.specs.Lists.{All}
use Rattle.rules.specs.Pattern.{Pattern, size}
use Rattle.rules.specs.History.{Tick}
use Rattle.refusal.specs.declared.Refusal.{Refusal}
use Rattle.body.specs.Postfix.{encode, Bodied}
use Rattle.body.proofs.Bodies.{one_pattern, length_encode}
use Rattle.file.specs.Check.{file_check}
use Rattle.file.proofs.Theorem.{one_way}
use Rattle.set.specs.Set.{SetTicked, IsSetTicked, SetRefused, many, short, over, fault}
use Rattle.set.specs.Set as Sets
use Rattle.set.specs.File.{sizes, bodies_of, rooms_of, states_of, Holds, IsSetOpened, SetOpenRefused}
use Rattle.set.specs.File as Files
use Rattle.set.specs.Claim.{SetWatched, opened, ticked, SetAlone, SetAgrees, OneSetTick, OneSetOpening, OneSetRoom}
use Rattle.watcher.proofs.Calls.{ticked_as_walked}
use Rattle.set.proofs.Past.{past_faultless, one_fault, one_front, taken_past}
use Rattle.set.proofs.Alones.{Alones, alones_each, alones_opened, alones_ticked, alones_right, alones_past}
use Rattle.set.proofs.Files.{holds_sound, holds_few}

-- a file holds one list of patterns
same_patterns : (es es' : List Pattern) → All (Bodied argument_bytes) es → All (Bodied argument_bytes) es'
    → sizes es ≡ sizes es' → bodies_of es ≡ bodies_of es' → es ≡ es'
unfolding sizes bodies_of
same_patterns [] [] b b' p q = refl
same_patterns [] (e' ∷ es') b b' p q = impossible cc
same_patterns (e ∷ es) [] b b' p q = impossible cc
same_patterns (e ∷ es) (e' ∷ es') b b' p q =
    let c : List ℕ = encode argument_bytes e in
    let c' : List ℕ = encode argument_bytes e' in
    let s : size e ≡ size e' = cc in
    let ss : sizes es ≡ sizes es' = cc in
    let n : length c' ≡ length c = omega (arith, length_encode argument_bytes e, length_encode argument_bytes e') in
    let first : c ≡ c' =
    sym (take_at c (bodies_of es) (length c) refl) ∙ ap (take (length c)) q ∙ take_at c' (bodies_of es') (length c) n in
    let rest : bodies_of es ≡ bodies_of es' =
    sym (drop_at c (bodies_of es) (length c) refl) ∙ ap (drop (length c)) q ∙ drop_at c' (bodies_of es') (length c) n in
    let one : e ≡ e' =
    one_pattern argument_bytes (omega arith) c e e' (record { bodied = b.0; same = refl }) (record { bodied = b'.0; same = first }) in
    ap₂ (λ (x : Pattern) (l : List Pattern). x ∷ l) one (same_patterns es es' b.1 b'.1 ss rest)

one_holds : {f : List ℕ} {es es' : List Pattern} → Holds f es → Holds f es' → es ≡ es'
one_holds {f} {es} {es'} h h' =
    let k = one_way f h.names (sizes es) (bodies_of es) h'.names (sizes es') (bodies_of es') h.parts h'.parts in
    same_patterns es es' h.bodied h'.bodied k.1 k.2

-- a file that holds patterns is not refused
holds_refused : {f : List ℕ} {es : List Pattern} {r : Refusal} → Holds f es → file_check f ≡ Err r → ⊥
holds_refused h q = let k = holds_sound h in impossible cc

-- a set that was opened and then only ticked
watched_holds : {f : List ℕ} {es : List Pattern} {h : List Tick} {s : List ℕ} → SetWatched f es h s → Holds f es
watched_holds (opened k o) = k
watched_holds (ticked t w x i) = watched_holds x

watched_alones : (f : List ℕ) (es : List Pattern) {h : List Tick} {s : List ℕ} → SetWatched f es h s → Alones h es s
watched_alones f es (opened {old} {s} k o) =
    let e : o.patterns ≡ es = one_holds o.file k in
    subst (Alones [] es) (sym (o.words ∙ ap (λ (l : List Pattern). states_of l ++ drop (rooms_of l) old) e))
    (alones_opened es k.bodied (drop (rooms_of es) old))
watched_alones f es (ticked t w x i) = alones_ticked es (watched_alones f es x) i.taken

pub set_alone : SetAlone
set_alone f es h s x = alones_each es (watched_alones f es x)

pub set_agrees : SetAgrees
set_agrees f es h s x s' old new t w (Ok _) l k m i = (refl, i.answers, i.words, alones_right es (watched_alones f es x) l i.taken)
set_agrees f es h s x s' old new t w (Err r) l k m i = absurd (not_refused i.0)
  where
    not_refused : SetRefused (length es) s old t r → ⊥
    not_refused (many n q) = n (holds_few (watched_holds x))
    not_refused (short c u q) = omega arith
    not_refused (over c u v q) = omega arith
    not_refused (fault c u v q) = past_faultless (alones_past es (watched_alones f es x) l).1 q

-- the parts of a set are fixed by its words, so accepted ticks agree
one_taken : (n : ℕ) {t w : ℕ} {s s' s'' l l' : List ℕ} → SetTicked t w n s s' l → SetTicked t w n s s'' l' → (s' ≡ s'') × (l ≡ l')
one_taken zero Sets.none Sets.none = (refl, refl)
one_taken (suc n) {s = s} (Sets.more {a = a} {p' = p} {r = r} i e x q v) (Sets.more {a = a₁} {p' = p₁} {r = r₁} i₁ e₁ x₁ q₁ v₁) =
    let c = one_front i.form i₁.form e e₁ s r r₁ q q₁ in
    let k = ticked_as_walked i in
    let k₁ = ticked_as_walked i₁ in
    let m = one_taken n (rw c.1 at x) x₁ in
    let answers : a ≡ a₁ = k.0 ∙ rw c.0 (sym k₁.0) in
    let words : p ≡ p₁ = k.1 ∙ rw c.0 (sym k₁.1) in
    (v ∙ ap₂ (λ (y z : List ℕ). y ++ z) words m.0 ∙ sym v₁, ap₂ (λ (y : ℕ) (z : List ℕ). y ∷ z) answers m.1)

taken_refused : {count : ℕ} {s old : List ℕ} {t w : ℕ} {s' new : List ℕ} {r : Refusal} → IsSetTicked count s old t w s' new
    → SetRefused count s old t r → ⊥
taken_refused i (many n q) = n i.few
taken_refused i (short c u q) = omega (arith, i.room)
taken_refused i (over c u v q) = omega (arith, i.range)
taken_refused {count} i (fault c u v q) = past_faultless (taken_past count i.taken).1 q

one_set_refusal : {count : ℕ} {s old : List ℕ} {t : ℕ} {r r' : Refusal} → SetRefused count s old t r → SetRefused count s old t r' → r ≡ r'
one_set_refusal (many n q) (many n' q') = q ∙ sym q'
one_set_refusal (many n q) (short c u q') = absurd (n c)
one_set_refusal (many n q) (over c u v q') = absurd (n c)
one_set_refusal (many n q) (fault c u v q') = absurd (n c)
one_set_refusal (short c u q) (many n q') = absurd (n c)
one_set_refusal (short c u q) (short c' u' q') = q ∙ sym q'
one_set_refusal (short c u q) (over c' u' v' q') = absurd (omega arith)
one_set_refusal (short c u q) (fault c' u' v' q') = absurd (omega arith)
one_set_refusal (over c u v q) (many n q') = absurd (n c)
one_set_refusal (over c u v q) (short c' u' q') = absurd (omega arith)
one_set_refusal (over c u v q) (over c' u' v' q') = q ∙ sym q'
one_set_refusal (over c u v q) (fault c' u' v' q') = absurd (omega arith)
one_set_refusal (fault c u v q) (many n q') = absurd (n c)
one_set_refusal (fault c u v q) (short c' u' q') = absurd (omega arith)
one_set_refusal (fault c u v q) (over c' u' v' q') = absurd (omega arith)
one_set_refusal (fault c u v q) (fault c' u' v' q') = one_fault q q'

pub one_set_tick : OneSetTick
one_set_tick count s old s' s'' new new' t w (Ok _) (Ok _) i j =
    let o = one_taken count i.taken j.taken in
    (refl, o.0, i.words ∙ ap (λ (l : List ℕ). l ++ drop count old) o.1 ∙ sym j.words)
one_set_tick count s old s' s'' new new' t w (Ok _) (Err r) i j = absurd (taken_refused i j.0)
one_set_tick count s old s' s'' new new' t w (Err r) (Ok _) i j = absurd (taken_refused j i.0)
one_set_tick count s old s' s'' new new' t w (Err r) (Err r') i j =
    (ap Err (one_set_refusal i.0 j.0), i.1 ∙ sym j.1, i.2 ∙ sym j.2)

-- opening a set
opened_refused : {f old new : List ℕ} {r : Refusal} → IsSetOpened f old new → SetOpenRefused f old r → ⊥
opened_refused o (Files.unsound q) = holds_refused o.file q
opened_refused o (Files.short es h l q) = omega (arith, o.room, ap rooms_of (one_holds o.file h))

one_opening_refusal : {f old : List ℕ} {r r' : Refusal} → SetOpenRefused f old r → SetOpenRefused f old r' → r ≡ r'
one_opening_refusal (Files.unsound q) (Files.unsound q') = cc
one_opening_refusal (Files.unsound q) (Files.short es h l k) = absurd (holds_refused h q)
one_opening_refusal (Files.short es h l k) (Files.unsound q) = absurd (holds_refused h q)
one_opening_refusal (Files.short es h l k) (Files.short es' h' l' k') = k ∙ rw (one_holds h h') (sym k')

pub one_set_opening : OneSetOpening
one_set_opening f old new new' (Ok _) (Ok _) o o' =
    (refl, o.words ∙ ap (λ (l : List Pattern). states_of l ++ drop (rooms_of l) old) (one_holds o.file o'.file) ∙ sym o'.words)
one_set_opening f old new new' (Ok _) (Err r) o x = absurd (opened_refused o x.0)
one_set_opening f old new new' (Err r) (Ok _) x o = absurd (opened_refused o x.0)
one_set_opening f old new new' (Err r) (Err r') x x' =
    (ap Err (one_opening_refusal x.0 x'.0), x.1 ∙ sym x'.1)

pub one_set_room : OneSetRoom
one_set_room f (Ok n) (Ok n') x x' = ap Ok (x.2 ∙ ap rooms_of (one_holds x.1 x'.1) ∙ sym x'.2)
one_set_room f (Ok n) (Err r) x q = absurd (holds_refused x.1 q)
one_set_room f (Err r) (Ok n) q x = absurd (holds_refused x.1 q)
one_set_room f (Err r) (Err r') q q' = cc
