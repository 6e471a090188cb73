use Rattle.std.proofs.Common.{[], refl, arith}
use Rattle.des.specs.Bits.{bits_of_bytes}
use Rattle.des_modes.specs.Streams.{plaintext, ciphertext}
use Rattle.des_modes.proofs.BitPlaces.{bits-append, first_bits-all}
use Rattle.des_modes.proofs.CfbPlaces.{cfb_stream-front}
use Rattle.des_modes.proofs.Pieces.{GoesOn-whole, bytes_undone}
use Rattle.des_modes.proofs.stream.apply_in.Goals as goal

pub returns-in-Counter-clause-after : goal.returns-in-Counter-clause-after
returns-in-Counter-clause-after g c = rw c.in-Counter.is (λ iv d at. ((c.apply_parts.ensures.goes iv).goes d [] at).0)

pub returns-in-Counter-clause-made : goal.returns-in-Counter-clause-made
returns-in-Counter-clause-made g c =
    rw c.in-Counter.is (λ iv. GoesOn-whole c.args.direction bytes_undone (λ t at d more i below. refl) (c.apply_parts.ensures.goes iv))

pub returns-in-OutputFeedback-clause-after : goal.returns-in-OutputFeedback-clause-after
returns-in-OutputFeedback-clause-after g c =
    rw c.in-OutputFeedback.is (λ iv d at. ((c.apply_parts-in-OutputFeedback.ensures.goes iv).goes d [] at).0)

pub returns-in-OutputFeedback-clause-made : goal.returns-in-OutputFeedback-clause-made
returns-in-OutputFeedback-clause-made g c =
    rw c.in-OutputFeedback.is (λ iv.
    GoesOn-whole c.args.direction bytes_undone (λ t at d more i below. refl) (c.apply_parts-in-OutputFeedback.ensures.goes iv))

pub returns-in-CipherFeedback-clause-after : goal.returns-in-CipherFeedback-clause-after
returns-in-CipherFeedback-clause-after g c =
    rw c.in-CipherFeedback.is (λ iv d at. ((c.apply_parts-in-CipherFeedback.ensures.goes iv).goes d [] at).0)

pub returns-in-CipherFeedback-clause-made : goal.returns-in-CipherFeedback-clause-made
returns-in-CipherFeedback-clause-made g c =
    rw c.in-CipherFeedback.is (λ iv. GoesOn-whole c.args.direction bytes_undone
    (λ t at. cfb_stream-front at (omega arith)) (c.apply_parts-in-CipherFeedback.ensures.goes iv))

pub returns-in-BitFeedback-clause-bits : goal.returns-in-BitFeedback-clause-bits
returns-in-BitFeedback-clause-bits g c same iv d at unused =
    let all = first_bits-all c.args.direction c.args.bytes.now c.apply.new.bytes c.apply.auto.bytes in (
      rw all.1 at (c.apply.ensures.after iv d at),
      unused,
      λ p made. rw (all.0, all.1) at (c.apply.ensures.made iv p d at made),
    )

pub returns-in-BitFeedback-clause-after : goal.returns-in-BitFeedback-clause-after
returns-in-BitFeedback-clause-after g c =
    rw c.in-BitFeedback.is (λ iv d at.
    let bits = returns-in-BitFeedback-clause-bits g c c.in-BitFeedback.is iv (bits_of_bytes d) at.0 at.1 in
    rw (bits-append d (ciphertext c.args.direction c.args.bytes.now c.apply.new.bytes)) (bits.0, bits.1))

pub returns-in-BitFeedback-clause-made : goal.returns-in-BitFeedback-clause-made
returns-in-BitFeedback-clause-made g c =
    rw c.in-BitFeedback.is (λ iv p d at made.
    rw (
      bits-append p (plaintext c.args.direction c.args.bytes.now c.apply.new.bytes),
      bits-append d (ciphertext c.args.direction c.args.bytes.now c.apply.new.bytes),
    )
    ((returns-in-BitFeedback-clause-bits g c c.in-BitFeedback.is iv (bits_of_bytes d) at.0 at.1).2 (bits_of_bytes p) made))
