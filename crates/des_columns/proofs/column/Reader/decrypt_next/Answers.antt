-- A value that waits in the buffer.
use Rattle.std.proofs.Common.{◌≡◌, ℕ, ◌+◌, ◌-◌, ◌/◌, ◌≤◌, List, length, take, drop, ap, ap₂, ◌∙◌, arith}
use Rattle.std.specs.Simd.{first_chunks}
use Rattle.std.proofs.lemmas.List.{length-drop, length-take-le}
use Rattle.std.proofs.lemmas.Slice.{drop-put_mid}
use Rattle.des_columns.specs.EncryptedBytes.{joined}
use Rattle.des_columns.specs.Forms.{blocks_of, part_of, xored}
use Rattle.des_columns.specs.Columns.{decrypted}
use Rattle.des_columns.specs.declared.form.BlockMode.{BlockMode}
use Rattle.des_columns.specs.declared.form.ValueForm.{ValueForm}
use Rattle.des_columns.proofs.Pieces.{length-first_chunks}
use Rattle.des_columns.proofs.Turns.{length-put, next-waits, others-wait}
use Rattle.des_columns.proofs.column.Reader.decrypt_next.Goals as goal
use borrow.Rule.Slice.PartMut.{put_mid}

pub returns : goal.returns
returns g c =
    let form : ValueForm = c.args.self.now.form in
    let mode : BlockMode = c.args.self.now.mode in
    let f : List ℕ → List ℕ → List ℕ = g.K.ValueKeys.decryption c.args.self.now.keys in
    let value : List ℕ = c.args.value.now in
    let first : ℕ = c.args.waiting.now.first in
    let buffer : List (List ℕ) = c.args.buffer.now in
    let new : List (List ℕ) = c.xor_previous.new.answers in
    let blocks : c.as_chunks.result.0.now ≡ blocks_of form value =
    c.as_chunks.ensures.front ∙ ap (λ (part : List ℕ). first_chunks 8 (length part / 8) part) c.part_of-part.ensures.part in
    let count : ℕ = length c.as_chunks.result.0.now in
    let size : ℕ = first + count - first in
    let S : List ℕ → ℕ = λ value. length (part_of form value) / 8 in
    let A : List ℕ → List (List ℕ) → Type 0 = λ value blocks. blocks ≡ decrypted form f value in
    let some : 1 ≤ c.args.waiting.now.count = omega (arith, c.if-waiting-eq0.false) in
    let counted : count ≡ S value = ap length blocks ∙ length-first_chunks 8 _ (part_of form value) in
    let waits = next-waits S A value c.requires.waiting.0 c.args.waiting.now buffer some c.requires.waiting.1 count counted in
    let within : first + size ≤ length buffer = omega (arith, waits.0) in
    let is : size ≡ count = omega arith in
    let long : length new ≡ size =
    c.xor_previous.auto.answers ∙ length-take-le size (drop first buffer) (omega (arith, length-drop first buffer, within)) in
    record {
      plain =
          c.copy_from_slice-2.ensures.after ∙ c.as_flattened.ensures.value
          ∙ ap joined (c.xor_previous.ensures.xored
          ∙ ap₂ (xored mode) blocks (ap (λ n. take n (drop first buffer)) is ∙ waits.1));
      waiting = λ others are.
          others-wait S A value others c.args.waiting.now buffer some are count counted (put_mid first size buffer new)
          (length-put first size buffer new within long)
          (drop-put_mid first size buffer new (first + count) (omega arith) are.within long);
    }
