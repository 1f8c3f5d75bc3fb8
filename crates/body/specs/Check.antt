-- The check of a body: each operator finds its operands, and exactly one tree is left (docs/RULES.md, "Bodies").
-- Assumes nothing: these are definitions.
use Rattle.std.specs.Prelude.{ℕ, ◌+◌, ◌-◌, ◌*◌, ◌%◌, Bool, false, cond, List, [], ◌∷◌, leb, eqb, length, Err, None, Ok, Option, Result, Some}
use Rattle.rules.specs.Limits.{most_entries}
use Rattle.refusal.specs.declared.Refusal.{Refusal}
use Rattle.refusal.specs.declared.Refusal.TheVariants.{Size}
use Rattle.refusal.specs.Table.{broken_at}
use Rattle.body.specs.declared.Entry.{Entry}
use Rattle.body.specs.declared.Entry.TheVariants.{Letter, Pair, Within, Wrong}
use Rattle.body.specs.Entry.{entries}

-- how many trees stand after an entry, if d stood before it; or the entry breaks a rule
unfoldable pub depth_of : Entry → ℕ → Option ℕ
depth_of (Letter n) d = Some (d + 1)
depth_of (Pair op) d = cond (leb 2 d) (Some (d - 1)) None
depth_of (Within n) d = cond (leb 1 d) (Some d) None
depth_of Wrong d = None

abbrev pub on_depth : Option ℕ → Option ℕ → (ℕ → Option ℕ) → Option ℕ
on_depth None refused go = refused
on_depth (Some d) refused go = go d

-- the lowest entry that breaks a rule, counted from i with d trees there; the number of entries if not one tree is left
unfoldable pub scan : List Entry → ℕ → ℕ → Option ℕ
scan [] i d = cond (eqb d 1) None (Some i)
scan (s ∷ ss) i d = on_depth (depth_of s d) (Some i) (λ e. scan ss (i + 1) e)

-- n bytes are 1 to 63 entries with arguments of `width` bytes
unfoldable pub sized : ℕ → ℕ → Bool
sized width n = cond (eqb (n % (width + 1)) 0) (cond (leb (width + 1) n) (leb n (most_entries * (width + 1))) false) false

-- the answer for body number `index`
abbrev pub verdict : ℕ → Option ℕ → Result (Unit {0}) Refusal
verdict index None = Ok tt
verdict index (Some entry) = Err (broken_at index entry)

-- what follows a check: what is made of its refusal, or the answer for a sound body
abbrev pub on_check : {A : Type 0} → Result (Unit {0}) Refusal → (Refusal → A) → A → A
on_check (Ok _) refuse answer = answer
on_check (Err r) refuse answer = refuse r

-- the answer for a lone body: Size, then Body
unfoldable pub check_of : ℕ → List ℕ → Result (Unit {0}) Refusal
check_of width b = cond (sized width (length b)) (verdict 0 (scan (entries width b) 0 0)) (Err Size)
