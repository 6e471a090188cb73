use Rattle.std.proofs.Common.{◌≡◌, bit_and}
use Rattle.des.specs.SwapForms.{swap_form_of_pc1}
use Rattle.des.proofs.SwappedWords.{bits_of_word-swap_form_of_pc1}
use Rattle.des.proofs.utils.pc1.Goals as goal

pub returns : goal.returns
returns c =
    let swapped : bit_and c.delta_swap-halves-8.result 0xffffffffffffff00 ≡ swap_form_of_pc1 c.args.key = cc in
    record { selected = rw swapped (bits_of_word-swap_form_of_pc1 c.args.key c.ranges.key.fits); swapped = swapped }
