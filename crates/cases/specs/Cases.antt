-- The examples of docs/RULES.md ("Examples") as one list under one claim: each holds by the unrestricted rules.
-- Assumes nothing: these are definitions.
use Rattle.std.specs.Prelude.{◌≡◌, ◌↔◌, List, [], ◌∷◌, ◌++◌, ℕ, ◌<◌, length, get_or}
use Rattle.rules.specs.declared.Op.TheVariants.{Both, Without, Chain}
use Rattle.rules.specs.Bits.{On}
use Rattle.rules.specs.Lists.{All}
use Rattle.rules.specs.Pattern.{Pattern, event, pair, within}
use Rattle.rules.specs.Instances.{Has, Latest}
use Rattle.rules.specs.History.{Tick, record_of}
use Rattle.watcher.specs.State.{room_of}

abbrev pub A : Pattern
A = event 0

abbrev pub B : Pattern
B = event 1

abbrev pub C : Pattern
C = event 2

abbrev pub D : Pattern
D = event 3

-- a tick, its word of events, and start + 1 of the latest window that ends there, or 0
abbrev pub Seen : Type 0
Seen = ℕ × ℕ × ℕ

-- a pattern with the ticks given and what is seen at each; a pattern with event words from tick 0 on and the row of each tick; a
-- pattern's room
pub data Case : Type 0 where
  windows : Pattern → List Seen → Case
  rows : Pattern → List ℕ → List ℕ → Case
  room : Pattern → ℕ → Case

-- at each tick, after those of h, the latest window is the one seen
abbrev pub SeenAfter : Pattern → List Tick → List Seen → Type 0
SeenAfter e h [] = Unit {0}
SeenAfter e h (k ∷ l) =
    Latest (Has (record_of (h ++ ((k.0, k.1) ∷ []))) e) k.0 k.2 × SeenAfter e (h ++ ((k.0, k.1) ∷ [])) l

-- a case holds by the rules
abbrev pub Holds : Case → Type 0
Holds (windows e l) = SeenAfter e [] l
Holds (rows e words shown) = (t : ℕ) → t < length words → (s : ℕ) → On (get_or shown t 0) s ↔ Has (λ u. get_or words u 0) e s t
Holds (room e n) = room_of e ≡ n

-- the bits of a word: A 1, B 2, C 4, D 8
abbrev pub cases : List Case
cases =
    windows (pair Chain A B) ((0, 1, 0) ∷ (1, 2, 1) ∷ [])
    ∷ windows (pair Chain A A) ((4, 1, 0) ∷ (7, 1, 5) ∷ [])
    ∷ windows (pair Both A A) ((4, 1, 5) ∷ [])
    ∷ windows (pair Without A A) ((4, 1, 0) ∷ [])
    ∷ windows (pair Chain A (pair Chain B C)) ((1, 1, 0) ∷ (2, 2, 0) ∷ (3, 1, 0) ∷ (4, 4, 2) ∷ (5, 2, 0) ∷ (6, 4, 4) ∷ [])
    ∷ room (pair Chain A (pair Chain B C)) 13
    ∷ windows (pair Chain B (pair Chain A C)) ((1, 1, 0) ∷ (2, 2, 0) ∷ (3, 4, 0) ∷ [])
    ∷ windows (pair Without (pair Chain A B) C) ((2, 5, 0) ∷ (5, 2, 0) ∷ [])
    ∷ windows (pair Without (pair Chain A B) C) ((1, 4, 0) ∷ (2, 1, 0) ∷ (5, 2, 3) ∷ [])
    ∷ windows (pair Without (pair Chain A B) (pair Chain C D)) ((1, 4, 0) ∷ (2, 1, 0) ∷ (3, 8, 0) ∷ (4, 2, 3) ∷ [])
    ∷ windows (within (pair Chain A B) 3) ((0, 1, 0) ∷ (3, 2, 1) ∷ [])
    ∷ windows (within (pair Chain A B) 3) ((0, 1, 0) ∷ (4, 2, 0) ∷ [])
    ∷ rows (pair Chain A B) (1 ∷ 1 ∷ 2 ∷ []) (0 ∷ 0 ∷ 3 ∷ [])
    ∷ rows (pair Both A B) (1 ∷ 2 ∷ 1 ∷ []) (0 ∷ 1 ∷ 2 ∷ [])
    ∷ []

-- the claim
abbrev pub AllHold : Type 0
AllHold = All Holds cases
