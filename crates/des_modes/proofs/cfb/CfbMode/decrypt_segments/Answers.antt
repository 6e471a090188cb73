-- The input blocks stand in the register and the ciphertext behind it.
use Rattle.std.proofs.Common.{◌≡◌, ℕ, ◌/◌, ◌<◌, List, [], length, drop, ap, ◌∙◌, refl, arith, length-take-le}
use Rattle.std.proofs.lemmas.List.{get_or_default, take_rest}
use Rattle.des_modes.proofs.CfbPlaces.{goes-beyond}
use Rattle.des_modes.proofs.cfb.CfbMode.decrypt_segments.Goals as goal

pub returns-clause-goes : goal.returns-clause-goes
returns-clause-goes g c iv = record {
  goes = λ d more is.
      let bytes : List ℕ = c.args.bytes.now in
      let blocks : List (List ℕ) = c.write_outputs.new.blocks in
      let inputs : List ℕ = c.write_joined.new.joined in
      let n : ℕ = length bytes in
      let many : length blocks ≡ c.count_of.result = c.write_outputs.auto.blocks ∙ length-take-le _ _ c.count_of.ensures.few in
      goes-beyond is (omega arith) c.args.self.now.some bytes more bytes _ blocks
      c.requires.between refl (rw many c.count_of.ensures.enough) (rw c.write_joined.ensures at c.write_outputs.ensures)
      c.xor_segments.ensures
      (c.copy_from_slice.ensures.after ∙ take_rest inputs n ∙ ap (drop n) c.write_joined.ensures) refl
      (λ begun.
      let inside : n / c.args.self.now.segment < length blocks = rw many (c.count_of.ensures.last begun) in
      (inside, c.block_at-place.ensures ∙ get_or_default c.write_outputs.new.blocks _ _ [] inside));
}
