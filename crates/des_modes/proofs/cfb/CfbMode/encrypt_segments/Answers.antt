-- The input blocks stand in the register and the ciphertext behind it.
use Rattle.std.proofs.Common.{◌≡◌, ℕ, ◌+◌, ◌-◌, ◌/◌, ◌%◌, ◌<◌, ◌≤◌, ◌++◌, List, [], length, get_or, drop, ap, sym, ◌∙◌, arith}
use Rattle.std.proofs.lemmas.List.{get_or_default, take_rest}
use Rattle.std.proofs.Math.Seq.{drop-append-add}
use Rattle.des.proofs.KeyParts.{get_or-first_chunks}
use Rattle.des_modes.proofs.CfbPlaces.{goes-beyond}
use Rattle.des_modes.proofs.ChainedOutputs.{length-blocks, outputs-of_plaintext}
use Rattle.des_modes.proofs.cfb.CfbMode.encrypt_segments.Goals as goal

pub returns-clause-goes : goal.returns-clause-goes
returns-clause-goes g c =
    let E : List ℕ → List ℕ = g.C.BlockCipherEncrypt.encrypted c.args.cipher.now in
    let register : List ℕ = c.args.place.now.register in
    let old : List ℕ = c.args.bytes.now in
    let new : List ℕ = c.xor_blocks_from.new.bytes in
    let q : List (List ℕ) = c.write_outputs.new.outputs in
    let k : ℕ = c.count_of.result in
    let same : length new ≡ length old = c.xor_blocks_from.auto.bytes in
    let some : 1 ≤ k = omega (arith, c.count_of.ensures.enough, c.requires.some) in
    let last = c.count_of.ensures.begun (k - 1) (omega (arith, some)) in
    let few : k ≤ 256 = omega (arith, last, c.requires.few) in
    let many : length q ≡ k = c.write_outputs.auto.outputs ∙ length-blocks _ 256 k few in
    let m : ℕ = length old - 8 in
    let split : length new ≡ length register + m = omega (arith, same, c.requires.some) in
    let shifted = ap (λ (n : ℕ). drop n (register ++ new)) split ∙ drop-append-add register new m in
    let outputs = outputs-of_plaintext E register old new c.as_chunks.result.0.now q c.write_outputs.ensures (omega arith) same
    (omega (arith, c.as_chunks.ensures.front_len)) (omega (arith, many, last))
    (λ n below. ap (λ (blocks : List (List ℕ)). get_or blocks n []) c.as_chunks.ensures.front
    ∙ get_or-first_chunks _ n old (omega (arith, c.as_chunks.ensures.front_len)))
    c.are_blocks.ensures (λ i below. c.xor_blocks_from.ensures i below) in
    rw c.requires.wide (λ iv. record {
      goes = λ d more is.
          goes-beyond is (omega arith) (omega arith) new more old new q c.requires.between (sym same)
          (omega (arith, many, same, c.count_of.ensures.enough))
          outputs
          (record { count = same; xored = λ i below. c.xor_blocks_from.ensures i below })
          (c.copy_from_slice.ensures.after ∙ take_rest new m ∙ sym shifted)
          (ap (λ (n : ℕ). n % 8) (sym same))
          (λ begun.
          let inside : length old / 8 < length q = rw many (c.count_of.ensures.last begun) in
          rw same (inside, c.block_at-place.ensures ∙ get_or_default q _ _ [] inside));
    })
