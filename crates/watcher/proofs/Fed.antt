-- The claims on feeding, proved: ticks taken one after the other are watched, are those of the walk, and none of them has a fault.
-- Assumes nothing.
use Rattle.std.specs.Prelude.{Err, None, Ok, Some}
use Prim.Native.Nat.{ℕ, zero, suc, ◌+◌, ◌≤◌, ◌<◌}
use mathlib.Core.Path.{◌≡◌, refl, sym, ap, subst, ◌∙◌}
use mathlib.Core.List.{List, [], ◌∷◌, ◌++◌, append_assoc, append-nil}
use native.Mathlib.Decide.{dec_le, dec_lt}
use native.Mathlib.Numerals.{add-one}
use native.Mathlib.Omega.{arith}
use lib.ListN.{length, get_or, drop}
use Rattle.rules.proofs.Impossible.{impossible}
use Rattle.rules.specs.Limits.{argument_bytes, ticks}
use Rattle.rules.specs.Lists.{All}
use Rattle.rules.specs.Pattern.{Pattern}
use Rattle.rules.specs.Instances.{Has, Latest}
use Rattle.rules.specs.History.{Tick, Rising, next_tick, record_of}
use Rattle.rules.proofs.Decisions.{pick_no}
use Rattle.body.specs.Claim.{BodyOf}
use Rattle.refusal.specs.declared.Refusal.{Refusal}
use Rattle.watcher.specs.State.{next_of}
use Rattle.watcher.specs.Answer.{IsTicked}
use Rattle.watcher.specs.inner.Walk.{answers_fed, words_fed}
use Rattle.watcher.specs.Feed.{paired, AllTicked, none, more, first_fault, IsFed, FeedRefused, uneven, short, broken, faulty}
use Rattle.watcher.specs.Claim.{FedWatched, FedAgrees, OneFeeding, AllRight, Watched, window, nothing}
use Rattle.watcher.proofs.States.{next_word}
use Rattle.watcher.proofs.Calls.{ticked_as_walked}
use Rattle.watcher.proofs.Agrees.{watched_reached}
use Rattle.watcher.proofs.Theorem.{agrees, stays_in_form}
use Rattle.watcher.proofs.Feeds.{ticked_form}

-- one tick more
pub one_more : {b : List ℕ} {h : List Tick} {s s' : List ℕ} (t w a : ℕ) → Watched b h s → IsTicked s s' t w a → Watched b (h ++ ((t, w) ∷ [])) s'
one_more t w zero x i = nothing t w x i
one_more t w (suc a) x i = window t w a x i

pub fed_watched : FedWatched
fed_watched b h [] s s' l x none = rw (append-nil h) x
fed_watched b h (k ∷ ks) s s' l x (more {m = m} {l = l'} t w a i y) =
    rw append_assoc at (fed_watched b (h ++ ((t, w) ∷ [])) ks m s' l' (one_more t w a x i) y)

-- an accepted tick's answer is the rules'
pub answer_right : (b : List ℕ) (e : Pattern) → BodyOf argument_bytes b e → {h : List Tick} {s s' : List ℕ} (t w a : ℕ) → Watched b h s
    → next_tick 0 h ≤ t → IsTicked s s' t w a → Latest (Has (record_of (h ++ ((t, w) ∷ []))) e) t a
answer_right b e o {h} {s} {s'} t w zero x l i =
    let r = agrees b e o h s s' x t w (Ok None) l i.range i in
    subst (Latest (Has (record_of (h ++ ((t, w) ∷ []))) e) t) r.1 r.2
answer_right b e o {h} {s} {s'} t w (suc a) x l i =
    let r = agrees b e o h s s' x t w (Ok (Some a)) l i.range i in
    subst (Latest (Has (record_of (h ++ ((t, w) ∷ []))) e) t) r.1 r.2

-- the next tick that a watched state allows
watched_next : (b : List ℕ) (e : Pattern) → BodyOf argument_bytes b e → {h : List Tick} {s : List ℕ} → Watched b h s → next_of s ≡ next_tick 0 h
watched_next b e o x = ap next_of (watched_reached b e o x).same

all_right : (b : List ℕ) (e : Pattern) → BodyOf argument_bytes b e → (k : List Tick) {h : List Tick} {s l s' : List ℕ} → Watched b h s
    → AllTicked s k l s' → AllRight e h k l
all_right b e o [] x none = tt
all_right b e o (k ∷ ks) x (more t w a i y) =
    let n = watched_next b e o x in
    (answer_right b e o t w a x (omega (arith, i.late, next_word i.form)) i, all_right b e o ks (one_more t w a x i) y)

-- ticks that rise and are in range have no fault
rising_faultless : (ts ws : List ℕ) (i τ : ℕ) → length ts ≡ length ws → Rising τ (paired ts ws) → All (λ t. t < ticks) ts → first_fault i τ ts ≡ Ok tt
unfolding paired first_fault
rising_faultless [] ws i τ e r a = refl
rising_faultless (t ∷ ts) [] i τ e r a = absurd (omega arith)
rising_faultless (t ∷ ts) (w ∷ ws) i τ e r a =
    pick_no (dec_le ticks t) _ _ (λ z. omega (arith, a.0))
    ∙ pick_no (dec_lt t τ) _ _ (λ z. omega (arith, r.0))
    ∙ rising_faultless ts ws (i + 1) (t + 1) (omega arith) (rw (add-one t) r.1) a.1

pub fed_agrees : FedAgrees
fed_agrees b e o h s s' x ts ws old new (Ok _) v m r a i = (refl, i.answers, i.words, all_right b e o (paired ts ws) x i.taken)
fed_agrees b e o h s s' x ts ws old new (Err q) v m r a i = absurd (not_refused i.0)
  where
    not_refused : FeedRefused s ts ws old q → ⊥
    not_refused (uneven n p) = n v
    not_refused (short c l p) = omega arith
    not_refused (broken c l n p) = n (stays_in_form b h s x)
    not_refused (faulty c l f p) =
        let n : f.next ≡ next_tick 0 h = sym (next_word f) ∙ watched_next b e o x in
        let k : first_fault 0 f.next ts ≡ Ok tt = rw n (rising_faultless ts ws 0 (next_tick 0 h) v r a) in
        impossible cc

-- the walk's answers and words
fed_as_walked : (h : List Tick) {s l s' : List ℕ} → AllTicked s h l s' → (l ≡ answers_fed h s) × (s' ≡ words_fed h s)
unfolding answers_fed words_fed
fed_as_walked [] none = (refl, refl)
fed_as_walked (k ∷ h) (more t w a i x) =
    let u = ticked_as_walked i in
    let v = fed_as_walked h x in
    (rw (u.0, v.0, u.1), rw (v.1, u.1))

-- no tick has a fault
fed_faultless : (ts ws : List ℕ) (i : ℕ) {s l s' : List ℕ} → length ts ≡ length ws → AllTicked s (paired ts ws) l s'
    → first_fault i (next_of s) ts ≡ Ok tt
unfolding paired first_fault
fed_faultless [] ws i e x = refl
fed_faultless (t ∷ ts) [] i e x = absurd (omega arith)
fed_faultless (t ∷ ts) (w ∷ ws) i {s} e (more {m = m} _ _ a y x) =
    let n : get_or m 1 0 ≡ t + 1 = next_word (ticked_form y) ∙ sym (add-one t) in
    pick_no (dec_le ticks t) _ _ (λ z. omega (arith, y.range))
    ∙ pick_no (dec_lt t (next_of s)) _ _ (λ z. omega (arith, y.late, next_word y.form))
    ∙ rw n at (fed_faultless ts ws (i + 1) (omega arith) x)

one_fed : {s ts ws old s' s'' new new' : List ℕ} → IsFed s ts ws old s' new → IsFed s ts ws old s'' new' → (s' ≡ s'') × (new ≡ new')
one_fed {s} {ts} {ws} {old} i j =
    let u = fed_as_walked (paired ts ws) i.taken in
    let v = fed_as_walked (paired ts ws) j.taken in
    let e : i.answers ≡ j.answers = u.0 ∙ sym v.0 in
    (u.1 ∙ sym v.1, i.words ∙ ap (λ (l : List ℕ). l ++ drop (length ts) old) e ∙ sym j.words)

fed_refused : {s ts ws old s' new : List ℕ} {r : Refusal} → IsFed s ts ws old s' new → FeedRefused s ts ws old r → ⊥
fed_refused i (uneven n q) = n i.even
fed_refused i (short e l q) = omega (arith, i.room)
fed_refused i (broken e l n q) = n i.form
fed_refused {s} {ts} {ws} i (faulty e l f q) =
    let k : first_fault 0 f.next ts ≡ Ok tt = rw (next_word f) at (fed_faultless ts ws 0 e i.taken) in
    impossible cc

one_feed_refusal : {s ts ws old : List ℕ} {r r' : Refusal} → FeedRefused s ts ws old r → FeedRefused s ts ws old r' → r ≡ r'
one_feed_refusal (uneven n q) (uneven n' q') = q ∙ sym q'
one_feed_refusal (uneven n q) (short e l q') = absurd (n e)
one_feed_refusal (uneven n q) (broken e l n' q') = absurd (n e)
one_feed_refusal (uneven n q) (faulty e l f q') = absurd (n e)
one_feed_refusal (short e l q) (uneven n q') = absurd (n e)
one_feed_refusal (short e l q) (short e' l' q') = q ∙ sym q'
one_feed_refusal (short e l q) (broken e' l' n q') = absurd (omega arith)
one_feed_refusal (short e l q) (faulty e' l' f q') = absurd (omega arith)
one_feed_refusal (broken e l n q) (uneven n' q') = absurd (n' e)
one_feed_refusal (broken e l n q) (short e' l' q') = absurd (omega arith)
one_feed_refusal (broken e l n q) (broken e' l' n' q') = q ∙ sym q'
one_feed_refusal (broken e l n q) (faulty e' l' f q') = absurd (n f)
one_feed_refusal (faulty e l f q) (uneven n q') = absurd (n e)
one_feed_refusal (faulty e l f q) (short e' l' q') = absurd (omega arith)
one_feed_refusal (faulty e l f q) (broken e' l' n q') = absurd (n f)
one_feed_refusal (faulty e l f q) (faulty e' l' f' q') = let k : f.next ≡ f'.next = sym (next_word f) ∙ next_word f' in cc

pub one_feeding : OneFeeding
one_feeding s ts ws old s' s'' new new' (Ok _) (Ok _) i j = let o = one_fed i j in (refl, o.0, o.1)
one_feeding s ts ws old s' s'' new new' (Ok _) (Err r) i j = absurd (fed_refused i j.0)
one_feeding s ts ws old s' s'' new new' (Err r) (Ok _) i j = absurd (fed_refused j i.0)
one_feeding s ts ws old s' s'' new new' (Err r) (Err r') i j =
    (ap Err (one_feed_refusal i.0 j.0), i.1 ∙ sym j.1, i.2 ∙ sym j.2)
