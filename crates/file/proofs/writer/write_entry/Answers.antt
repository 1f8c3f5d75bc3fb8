-- `file::writer::write_entry` meets its contract: the name, then the offset, the number and a zero byte. Assumes nothing.
use Prim.Native.Nat.{◌/◌, ◌%◌}
use mathlib.Core.Path.{refl}
use mathlib.Core.List.{[], ◌∷◌}
use Rattle.body.specs.Bytes.{bytes_of}
use Rattle.file.proofs.Writes.{entry_written}
use Rattle.file.proofs.writer.write_entry.Goals as goal

pub returns : goal.returns
unfolding bytes_of
returns c =
    let a = c.args in
    rw (c.copy_from_slice-2.ensures.after, c.to_le_bytes.ensures, c.copy_from_slice.ensures.after)
    (entry_written a.name.now a.entry.now (a.offset % 256 ∷ a.offset / 256 % 256 ∷ []) (a.n ∷ 0 ∷ []) c.requires.named refl refl c.requires.long)
