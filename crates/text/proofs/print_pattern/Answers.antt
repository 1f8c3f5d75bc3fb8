-- `text::print_pattern` meets its contract: what is made in the local array is the text of the body's pattern. Assumes nothing.
use Rattle.std.proofs.Common.{◌≡◌, Ok, sym, refl, arith}
use Rattle.std.proofs.lemmas.Result.{err_from_is_err_and}
use Rattle.rules.specs.Limits.{argument_bytes}
use Rattle.body.specs.Bytes.{Bytes}
use Rattle.body.specs.Check.{check_of}
use Rattle.text.specs.Answer.RefusedBody.{unsound}
use Rattle.text.proofs.Printings.{body_ready, printed}
use Rattle.text.proofs.print_pattern.Goals as goal
use Rattle.text.proofs.print_pattern.Goals.{In_ok-check_body}

bytes_are : (c : In_ok-check_body) → Bytes c.args.body.now
bytes_are c = λ k. omega (arith, c.type_inv.body k)

sound : (c : In_ok-check_body) → check_of argument_bytes c.args.body.now ≡ Ok tt
sound c = sym c.in_ok-check_body.ensures

pub write_tree-requires : goal.write_tree-requires
write_tree-requires c =
    let at = (goal.at.write_tree-requires c).In_ok-check_body in
    body_ready _ (bytes_are at) (sound at)

pub returns-in_err-check_body : goal.returns-in_err-check_body
returns-in_err-check_body c =
    let p = err_from_is_err_and c.from_residual.result c.from_residual.ensures.1 in
    rw (p.1, p.2) (unsound (record { unsound = sym c.in_err-check_body.ensures }), refl)

pub returns : goal.returns
returns c =
    let at = (goal.at.returns c).In_ok-check_body in
    printed _ (bytes_are at) (sound at) (rw c.new-made.ensures at c.write_tree.ensures) _ _ _ _ (rw c.written.ensures at c.copy_if_room.ensures) c.map_err.ensures.cases
