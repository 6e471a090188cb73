-- A bit more.
use Rattle.std.proofs.Common.{◌≡◌, ℕ, ◌<◌, Bool, false, List, [], length, get_or, refl, ap, arith}
use Rattle.std.proofs.lemmas.List.{get_or-set_same}
use Rattle.des.specs.Bits.{bits_of_bytes, xor}
use Rattle.des.specs.Laws.BitLists.{length-bits_of_bytes}
use Rattle.des_modes.specs.Cfb.{first_bits}
use Rattle.des_modes.specs.Streams.{ciphertext}
use Rattle.des_modes.proofs.Pieces.{GoesOn-joined, texts-map, GoesOn-whole, InPlace-set, bits_undone}
use Rattle.des_modes.proofs.CfbPlaces.{GoesOn-bit, cfb_bits-front}
use Rattle.des_modes.proofs.cfb_bits.apply.Goals as goal

pub bits-preserved : goal.bits-preserved
bits-preserved g c iv =
    let E : List ℕ → List ℕ = g.C.BlockCipherEncrypt.encrypted c.args.cipher.now in
    let place : ℕ = c.bits.place in
    let now : List Bool = bits_of_bytes c.bits.bytes in
    let within : place < length now = omega (arith, length-bits_of_bytes c.bits.bytes) in
    let bit : c.ciphertext.result ≡ ciphertext c.args.direction (get_or now place false) (xor (get_or now place false) c.key_bit.result) =
    rw (c.ciphertext.ensures, c.bit_at-old.ensures, c.bit_at.ensures, c.xor_bit.ensures, get_or-set_same now place _ false within) refl in
    InPlace-set _ false c.xor_bit.ensures within
    (λ done. GoesOn-joined c.args.direction done
    (GoesOn-bit E iv c.bits.register c.advance.new.register c.args.direction _ _ c.key_bit.ensures.wide (rw bit at c.advance.ensures)
    (ap (xor (get_or now place false)) c.key_bit.ensures.bit))) (c.bits.invariant iv)

pub returns : goal.returns
returns g c =
    let E : List ℕ → List ℕ = g.C.BlockCipherEncrypt.encrypted c.args.cipher.now in
    let all : c.bits.place ≡ c.args.bits = omega arith in
    let so_far = λ (iv : List ℕ). rw all at (c.bits.invariant iv) in
    let texts = texts-map (first_bits c.args.bits) c.args.direction c.args.bytes.now c.bits.bytes in
    record {
      after = λ iv d is. rw texts.1 ((so_far iv).done.goes d [] is).0;
      made = λ iv. rw (texts.0, texts.1)
          (GoesOn-whole c.args.direction bits_undone (λ t. cfb_bits-front E iv t c.args.register.now (omega arith)) (so_far iv).done);
      rest = (so_far []).rest;
    }
