use Rattle.std.proofs.Common.{◌≡◌, ℕ, ◌*◌, ◌≤◌, List, ◌++◌, length, arith, length-take-le}
use Rattle.std.proofs.lemmas.List.{take_all}
use Rattle.des_context.proofs.OpenedBlocks.{length-plain, IsPlainOf-append, take-range, put-behind}
use Rattle.des_context.proofs.salted.write_front.Goals as goal

pub pieces-preserved : goal.pieces-preserved
pieces-preserved c =
    let q : List (List ℕ) = c.args.blocks.now in
    let from : ℕ = c.pieces.from in
    let to : ℕ = c.min-to.result in
    let piece : List ℕ = c.write_piece.new.plain in
    let next : from ≤ to = omega (arith, c.min-to.ensures) in record {
      within = omega (arith, c.min-to.ensures);
      begins = λ key made.
          let begun = c.pieces.invariant.begins key made in
          let long : length begun.0 ≡ 8 * from =
          omega (arith, length-plain begun.1, length-take-le from q c.pieces.invariant.within) in (
            begun.0 ++ piece,
            rw (← take-range from to q next)
                (IsPlainOf-append begun.1 (rw (← c.next_vector-previous.ensures) (c.write_piece.ensures key made))),
            put-behind begun.0 piece c.args.plain.now c.pieces.plain (8 * from) (8 * to) long (omega arith) begun.2,
          );
    }

pub returns : goal.returns
returns c key made =
    let all : c.pieces.from ≡ length c.args.blocks.now = omega (arith, c.pieces.invariant.within) in
    rw (all, take_all (length c.args.blocks.now) c.args.blocks.now (omega arith)) at (c.pieces.invariant.begins key made)
