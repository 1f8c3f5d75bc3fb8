-- A choice has what both its sides have, each under its fact. Assumes nothing.
use Rattle.rules.specs.Decisions.{pick}

pub pick_cases : {A P : Type 0} (Q : A → Type 0) (d : Dec P) (a b : A) → (P → Q a) → ((P → ⊥) → Q b) → Q (pick d a b)
pick_cases Q (yes h) a b f g = f h
pick_cases Q (no h) a b f g = g h
