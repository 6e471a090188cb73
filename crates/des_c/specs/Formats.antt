-- Formats of PIN blocks, by their numbers.
use Rattle.std.specs.Prelude.{ℕ, ◌==◌, if◌then◌else◌}
use Rattle.des_payment.specs.declared.translation.Format.{Format}
use Rattle.des_payment.specs.declared.translation.Format.TheVariants.{Format0, Format1, Format2, Format3}

-- a number of no format is taken for that of format 2, from which there is no translation either
abbrev pub format_of : ℕ → Format
format_of number =
    if number == 0 then Format0
    else if number == 1 then Format1
    else if number == 3 then Format3
    else Format2
