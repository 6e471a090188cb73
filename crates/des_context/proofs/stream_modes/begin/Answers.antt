use Rattle.std.proofs.Common.{◌∙◌}
use Rattle.des.specs.Bits.{bits_of_bytes}
use Rattle.des_context.proofs.stream_modes.begin.Goals as goal

pub returns-in-Some-clause-begun_bits : goal.returns-in-Some-clause-begun_bits
unfolding bits_of_bytes
returns-in-Some-clause-begun_bits c done same encryption =
    let is = c.in-Some.ensures.some.1 encryption in record {
      begun = is.begun;
      is_mode = is.is_mode ∙ same;
      place = rw same at is.place;
      made = rw same at is.made;
    }
