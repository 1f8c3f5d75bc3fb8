-- The memory that a history of ticks leaves. Assumes nothing: these are definitions.
use Rattle.std.specs.Prelude.{List, [], ◌∷◌}
use Rattle.rules.specs.Pattern.{Pattern}
use Rattle.rules.specs.History.{Tick}
use Rattle.detector.specs.Memory.{Memory, fresh}
use Rattle.detector.specs.Step.{next}

-- the memory after the ticks of h, where it was m before them
unfoldable pub run_from : (e : Pattern) → Memory e → List Tick → Memory e
run_from e m [] = m
run_from e m (k ∷ h) = run_from e (next e m k.0 k.1) h

-- the memory after the ticks of h, from a fresh one
unfoldable pub run : (e : Pattern) → List Tick → Memory e
run e h = run_from e (fresh e) h
