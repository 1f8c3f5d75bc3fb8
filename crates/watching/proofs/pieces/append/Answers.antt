-- `watching::pieces::append` meets its contract: `copying::copy` copies as much as is held. Assumes nothing.
use Rattle.watching.proofs.Appending.{copy_appended}
use Rattle.watching.proofs.pieces.append.Goals as goal

pub returns : goal.returns
returns c =
    copy_appended c.args.part.now c.args.piece.now _ c.args.from _ c.requires.0 c.requires.1 c.min-n.ensures c.copy.ensures
