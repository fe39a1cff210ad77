use Rattle.std.proofs.Common.{ℕ, List, [], Bor, get_or, refl}
use Rattle.branch_wire.proofs.Parts.{on-err}
use Rattle.branch_print.proofs.Written.{each-part}
use Rattle.branch_print.proofs.pieces.put_pieces.Goals as goal

-- what stands at a place past the end
abbrev no_piece : Bor (List ℕ)
no_piece = record { ref_ptr = (0, 0); now = [] }

pub returns-in_err-put_text-clause-err : goal.returns-in_err-put_text-clause-err
returns-in_err-put_text-clause-err c =
    let pieces = c.args.pieces.now in
    let i = c.loop-piece.piece-index in
    on-err c.from_residual.result (each-part (λ (piece : Bor (List ℕ)). piece.now) pieces i (get_or pieces i no_piece) no_piece c.args.out.now.items c.loop-piece.out.items c.put_text.new.out.items
    c.loop-piece-test.true refl c.loop-piece.invariant c.in_err-put_text.ensures.err)
