use Rattle.std.proofs.Common.{◌≡◌}
use Rattle.des.specs.SwapForms.{swap_form_of_fp}
use Rattle.des.proofs.SwappedWords.{select-swap_form_of_fp}
use Rattle.des.proofs.utils.fp.Goals as goal

pub returns : goal.returns
returns c =
    let swapped : c.delta_swap.result ≡ swap_form_of_fp c.args.input = cc in
    record { selected = rw swapped (select-swap_form_of_fp c.args.input c.ranges.input.fits); swapped = swapped }
