use Rattle.std.proofs.Common.{◌≡◌, ◌*◌, ◌%◌, ◌^◌, take, drop, take_at}
use Rattle.des.specs.Bits.{bits_of_word, zeros}
use Rattle.des.specs.CipherFunction.{cipher_function}
use Rattle.des.specs.Laws.Selections.{length-cipher_function}
use Rattle.des.proofs.HalfWords.{take-bits_of_word_shl, bits_of_word-swapped}
use Rattle.des.proofs.utils.round.Goals as goal

-- the halves of the result, with the value of f taken from the front of its word
pub returns : goal.returns
returns c =
    let left = take 32 (bits_of_word c.args.input) in
    let right = drop 32 (bits_of_word c.args.input) in
    let key = take 48 (bits_of_word c.args.key) in
    let shifted = take 32 (bits_of_word (c.args.input * 2 ^ 32 % 2 ^ 64)) in
    let value : take 32 (bits_of_word c.f.result) ≡ cipher_function right key =
    rw (c.f.ensures, ← take-bits_of_word_shl c.args.input)
    (take_at (cipher_function shifted key) (zeros 32) 32 (length-cipher_function shifted key)) in
    rw value at (bits_of_word-swapped c.args.input c.f.result c.ranges.input.fits c.f.type_inv)
