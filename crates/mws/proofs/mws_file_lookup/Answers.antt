-- `mws::mws_file_lookup` meets its contract: the status word of a refusal leaves the file's bits free. Assumes nothing.
use native.Mathlib.Omega.{arith}
use Rattle.refusal.proofs.Theorem.{unpacks}
use Rattle.mws.proofs.mws_file_lookup.Goals as goal

pub overflow_add-result : goal.overflow_add-result
overflow_add-result c =
    omega (arith, c.file_bits-in-Err-Broken.ensures.1, c.packed.ensures, (unpacks c.in-Err-Broken.r).free)
