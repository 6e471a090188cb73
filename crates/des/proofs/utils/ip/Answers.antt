use Rattle.std.proofs.Common.{◌≡◌}
use Rattle.des.specs.SwapForms.{swap_form_of_ip}
use Rattle.des.proofs.SwappedWords.{bits_of_word-swap_form_of_ip}
use Rattle.des.proofs.utils.ip.Goals as goal

pub returns : goal.returns
returns c =
    let swapped : c.delta_swap.result ≡ swap_form_of_ip c.args.input = cc in
    record { selected = rw swapped (bits_of_word-swap_form_of_ip c.args.input c.ranges.input.fits); swapped = swapped }
