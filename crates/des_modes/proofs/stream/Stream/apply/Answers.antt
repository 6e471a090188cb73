use Rattle.std.proofs.Common.{◌≡◌, ◌<◌, ap, ◌∙◌}
use Rattle.std.proofs.lemmas.List.Elements.{All-append}
use Rattle.des.specs.Blocks.{AreBytes}
use Rattle.des_modes.specs.Modes.{mode_by}
use Rattle.des_modes.proofs.OnePlaintext.{InMode-one}
use Rattle.des_modes.proofs.Pieces.{ciphertext-is}
use Rattle.des_modes.proofs.stream.Stream.apply.Goals as goal

pub returns-clause-begun : goal.returns-clause-begun
returns-clause-begun g c = (c.requires.0, c.requires.1, rw (← c.requires.2) c.apply_in.ensures.fits)

pub returns-clause-bytes : goal.returns-clause-bytes
returns-clause-bytes g c number iv p d is =
    let same : c.args.mode ≡ mode_by number = c.requires.2 ∙ ap mode_by is.is_mode in
    let place = rw (← same) at is.place in record {
      begun = returns-clause-begun g c;
      is_mode = is.is_mode;
      is_block = is.is_block;
      are_bytes =
          All-append (λ byte. byte < 256) d _ is.are_bytes
          (ciphertext-is AreBytes c.args.direction c.args.bytes.now c.apply_in.new.bytes c.are_bytes.ensures c.are_bytes-2.ensures);
      place = rw (← same) (c.apply_in.ensures.after iv d place);
      made = rw (← same) (c.apply_in.ensures.made iv p d place (rw (← same) at is.made));
    }

pub returns-clause-undone : goal.returns-clause-undone
returns-clause-undone g c number iv p d text is bytes made =
    let same : c.args.mode ≡ mode_by number = c.requires.2 ∙ ap mode_by is.is_mode in
    InMode-one c.args.mode _ iv p _ text _
    (ciphertext-is AreBytes c.args.direction c.apply_in.new.bytes c.args.bytes.now c.are_bytes-2.ensures c.are_bytes.ensures) bytes
    (c.apply_in.ensures.made iv p d (rw (← same) at is.place) (rw (← same) at is.made)) made
