-- A choice by a decided fact, for definitions whose proofs want the fact itself. Assumes nothing: this is a definition.

-- a if the fact holds, else b
abbrev pub pick : {A P : Type 0} → Dec P → A → A → A
pick (yes h) a b = a
pick (no h) a b = b
