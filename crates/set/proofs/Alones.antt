-- Each pattern of a set has its part of the slice, which is as if it were watched alone: so after opening, and after each tick. Assumes nothing.
use Prim.Native.Nat.{ℕ, ◌≤◌}
use mathlib.Core.Path.{◌≡◌, refl, sym, ap, ◌∙◌}
use mathlib.Core.List.{List, [], ◌∷◌, ◌++◌, append_assoc, append-nil}
use native.Mathlib.Omega.{arith}
use lib.ListN.{length, length-append, drop, replicate, length-replicate, drop_of_length-le}
use Rattle.rules.specs.Limits.{argument_bytes}
use Rattle.rules.specs.Lists.{All}
use Rattle.rules.specs.Pattern.{Pattern}
use Rattle.rules.specs.History.{Tick, next_tick, record_of}
use Rattle.detector.specs.Memory.{fresh}
use Rattle.detector.specs.Run.{run}
use Rattle.detector.proofs.Form.{fresh_form}
use Rattle.body.specs.Postfix.{encode, Bodied}
use Rattle.body.specs.Claim.{BodyOf}
use Rattle.watcher.specs.State.{next_of, state_of, room_of, InForm}
use Rattle.watcher.specs.Answer.{IsOpened}
use Rattle.watcher.specs.Claim.{Watched, opened}
use Rattle.set.specs.Set.{Past, SetTicked}
use Rattle.set.specs.Set as Sets
use Rattle.set.specs.File.{states_of}
use Rattle.set.specs.Claim.{EachAlone, AllLatest}
use Rattle.watcher.proofs.States.{length_state, next_word}
use Rattle.watcher.proofs.Agrees.{reached_form, watched_reached}
use Rattle.watcher.proofs.Feeds.{ticked_form}
use Rattle.watcher.proofs.Fed.{one_more, answer_right}
use Rattle.set.proofs.Parts.{same_beyond}
use Rattle.set.proofs.Past.{past_cons, front, one_front}

-- as `EachAlone`, and each part is a state without words beyond
pub data Alones (h : List Tick) : List Pattern → List ℕ → Type 0 where
  none : {s : List ℕ} → Alones h [] s
  more : {e : Pattern} {es : List Pattern} {s : List ℕ} (p r : List ℕ) → s ≡ p ++ r → Bodied argument_bytes e → Watched (encode argument_bytes e) h p
      → (f : InForm p) → f.beyond ≡ [] → Alones h es r → Alones h (e ∷ es) s

body : (e : Pattern) → Bodied argument_bytes e → BodyOf argument_bytes (encode argument_bytes e) e
body e b = record { bodied = b; same = refl }

-- so it has exactly the words of the state
alone_long : (e : Pattern) {h : List Tick} {p : List ℕ} → Bodied argument_bytes e → Watched (encode argument_bytes e) h p
    → (f : InForm p) → f.beyond ≡ [] → length p ≡ room_of e
alone_long e {h} {p} b w f k =
    let g = watched_reached (encode argument_bytes e) e (body e b) w in
    let none_left : length g.beyond ≡ 0 = ap length (same_beyond (reached_form b g) f ∙ k) in
    omega (
      arith,
      ap length g.same,
      length-append (state_of e (next_tick 0 h) (run e h)) g.beyond,
      length_state e (next_tick 0 h) (run e h),
      none_left,
    )

pub alones_each : (es : List Pattern) {h : List Tick} {s : List ℕ} → Alones h es s → EachAlone es h s
alones_each [] x = tt
alones_each (e ∷ es) (more p r q b w f k x) = (p, r, q, alone_long e b w f k, w, alones_each es x)

-- a state as opened, alone
opened_alone : (e : Pattern) → Bodied argument_bytes e → Watched (encode argument_bytes e) [] (state_of e 0 (fresh e))
opened_alone e b =
    let old : List ℕ = replicate (room_of e) 0 in
    let long : length old ≤ room_of e = omega (arith, length-replicate {A = ℕ} (room_of e) 0) in
    let none_left : drop (room_of e) old ≡ [] = drop_of_length-le old long in
    let o : IsOpened (encode argument_bytes e) old (state_of e 0 (fresh e)) =
    record {
      pattern = e;
      body = body e b;
      room = omega (arith, length-replicate {A = ℕ} (room_of e) 0);
      words = sym (append-nil (state_of e 0 (fresh e))) ∙ ap (λ (l : List ℕ). state_of e 0 (fresh e) ++ l) (sym none_left);
    } in
    opened {old = old} o

opened_form : (e : Pattern) → Bodied argument_bytes e → (f : InForm (state_of e 0 (fresh e))) × (f.beyond ≡ [])
opened_form e b = (
  record {
    pattern = e;
    next = 0;
    memory = fresh e;
    beyond = [];
    bodied = b;
    early = omega arith;
    form = fresh_form e;
    same = sym (append-nil (state_of e 0 (fresh e)));
  },
  refl,
)

pub alones_opened : (es : List Pattern) → All (Bodied argument_bytes) es → (rest : List ℕ) → Alones [] es (states_of es ++ rest)
unfolding states_of
alones_opened [] b rest = none
alones_opened (e ∷ es) b rest =
    let f = opened_form e b.0 in
    more (state_of e 0 (fresh e)) (states_of es ++ rest) (append_assoc (state_of e 0 (fresh e)) (states_of es) rest) b.0
    (opened_alone e b.0) f.0 f.1 (alones_opened es b.1 rest)

-- after a tick
pub alones_ticked : (es : List Pattern) {h : List Tick} {t w : ℕ} {s s' l : List ℕ} → Alones h es s → SetTicked t w (length es) s s' l
    → Alones (h ++ ((t, w) ∷ [])) es s'
alones_ticked [] none y = none
alones_ticked (e ∷ es) {t = t} {w = w} {s = s} (more p r q b x f k z) (Sets.more {a = a} {p = p₁} {p' = p₂} {r = r₁} {r' = r₂} i m y u v) =
    let o = one_front f i.form k m s r r₁ q u in
    more p₂ r₂ v b (one_more t w a (rw o.0 at x) i) (ticked_form i) m (alones_ticked es (rw o.1 at z) y)

-- each answer is the rules'
pub alones_right : (es : List Pattern) {h : List Tick} {t w : ℕ} {s s' l : List ℕ} → Alones h es s → next_tick 0 h ≤ t
    → SetTicked t w (length es) s s' l
    → AllLatest (record_of (h ++ ((t, w) ∷ []))) t es l
alones_right [] x n Sets.none = tt
alones_right (e ∷ es) {t = t} {w = w} {s = s} (more p r q b x f k z) n (Sets.more {a = a} {r = r₁} i m y u v) =
    let o = one_front f i.form k m s r r₁ q u in
    (answer_right (encode argument_bytes e) e (body e b) t w a (rw o.0 at x) n i, alones_right es (rw o.1 at z) n y)

-- and a tick that rises is allowed by all
pub alones_past : (es : List Pattern) {h : List Tick} {t : ℕ} {s : List ℕ} → Alones h es s → next_tick 0 h ≤ t → (b : List ℕ) × Past t (length es) s b
alones_past [] {s = s} x n = (s, Sets.none)
alones_past (e ∷ es) {h = h} {s = s} (more p r q b x f k z) n =
    let g = watched_reached (encode argument_bytes e) e (body e b) x in
    let j : f.next ≡ next_tick 0 h = sym (next_word f) ∙ ap next_of g.same in
    let m = alones_past es z n in
    (m.0, past_cons (length es) (front f k s r q) (omega arith) m.1)
