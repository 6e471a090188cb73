use Rattle.std.proofs.Common.{length, sym, ◌∙◌, rules}
use Rattle.des.proofs.ByteArrays.{IsBlock-array}
use Rattle.des_context.specs.CipherTypes.{cipher_type_of_length}
use Rattle.des_context.proofs.OpenedBlocks.{HasGraphs-cipher_type, opened-never, EndsWith-padded}
use Rattle.des_context.proofs.salted.end_of.Goals as goal

pub returns-in_err-count-clause-none : goal.returns-in_err-count-clause-none
returns-in_err-count-clause-none c none key made =
    opened-never (HasGraphs-cipher_type (cipher_type_of_length (length key)) key made.0) c.args.vector.now c.args.encrypted.now
    c.in_ok-last.front.now c.in_ok-last.last.now c.write_piece.new.plain
    (IsBlock-array c.args.vector.now (search rules) c.fits-vector) c.requires.whole
    (rw (← c.as_chunks.ensures.front) c.are_blocks.ensures) (sym c.as_chunks.ensures.front ∙ c.in_ok-last.ensures.cases.0)
    (rw (← c.next_vector.ensures) (c.write_piece.ensures key made))
    (λ rest pads. absurd (cc (c.in_err-count.ensures.back rest pads)))

pub returns-clause-some : goal.returns-clause-some
returns-clause-some c key made =
    EndsWith-padded (HasGraphs-cipher_type (cipher_type_of_length (length key)) key made.0) c.args.vector.now c.args.encrypted.now
    c.in_ok-last.front.now c.in_ok-last.last.now c.write_piece.new.plain
    (IsBlock-array c.args.vector.now (search rules) c.fits-vector) c.requires.whole
    (rw (← c.as_chunks.ensures.front) c.are_blocks.ensures) (sym c.as_chunks.ensures.front ∙ c.in_ok-last.ensures.cases.0)
    (rw (← c.next_vector.ensures) (c.write_piece.ensures key made)) _ c.in_ok-count.ensures.found.1
