-- Entries of a body: an op, and an argument of `width` bytes (docs/RULES.md, "Bodies").
-- Assumes nothing: these are definitions.
use Rattle.std.specs.Prelude.{ℕ, zero, suc, ◌+◌, ◌*◌, ◌/◌, ◌^◌, cond, List, [], ◌∷◌, ◌++◌, ltb, leb, eqb, length, get_or}
use Rattle.rules.specs.declared.Op.{Op}
use Rattle.rules.specs.declared.Op.TheVariants.{Either, Both, Without, Chain}
use Rattle.rules.specs.Limits.{letters}
use Rattle.body.specs.declared.Entry.{Entry}
use Rattle.body.specs.declared.Entry.TheVariants.{Letter, Pair, Within, Wrong}
use Rattle.body.specs.Bytes.{bytes_of, value_at}

-- the op number of an operator, and the operator of an op number from 1 to 4
abbrev pub op_number : Op → ℕ
op_number Either = 1
op_number Both = 2
op_number Without = 3
op_number Chain = 4

abbrev pub op_of : ℕ → Op
op_of op = cond (eqb op 1) Either (cond (eqb op 2) Both (cond (eqb op 3) Without Chain))

-- the argument is the type for op 0, the number for op 5, zero for ops 1 to 4; there is no other op
unfoldable pub entry_of : ℕ → ℕ → ℕ → Entry
entry_of width op argument =
    cond (eqb op 0) (cond (ltb argument letters) (Letter argument) Wrong)
    (cond (ltb op 5) (cond (eqb argument 0) (Pair (op_of op)) Wrong)
    (cond (eqb op 5) (cond (ltb argument (256 ^ width)) (Within argument) Wrong) Wrong))

-- the bytes of an entry; a wrong one is given an op that does not exist
unfoldable pub entry_bytes : ℕ → Entry → List ℕ
entry_bytes width (Letter n) = 0 ∷ bytes_of width n
entry_bytes width (Pair op) = op_number op ∷ bytes_of width 0
entry_bytes width (Within n) = 5 ∷ bytes_of width n
entry_bytes width Wrong = 255 ∷ bytes_of width 0

unfoldable pub entries_bytes : ℕ → List Entry → List ℕ
entries_bytes width [] = []
entries_bytes width (s ∷ ss) = entry_bytes width s ++ entries_bytes width ss

-- n entries from entry i on, where f says what each is
unfoldable pub entries_by : (ℕ → Entry) → ℕ → ℕ → List Entry
entries_by f i zero = []
entries_by f i (suc n) = f i ∷ entries_by f (i + 1) n

-- entry i of a body, which is wrong if the body ends before it does
unfoldable pub entry_at : ℕ → List ℕ → ℕ → Entry
entry_at width b i =
    cond (leb ((i + 1) * (width + 1)) (length b)) (entry_of width (get_or b (i * (width + 1)) 0) (value_at width b (i * (width + 1) + 1))) Wrong

-- all entries of a body
unfoldable pub entries : ℕ → List ℕ → List Entry
entries width b = entries_by (entry_at width b) 0 (length b / (width + 1))
