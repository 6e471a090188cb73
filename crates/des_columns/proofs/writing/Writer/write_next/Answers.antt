-- A text that goes by itself, or one that waits in the buffer.
use Rattle.std.proofs.Common.{◌≡◌, ℕ, ◌+◌, ◌-◌, ◌/◌, ◌%◌, ◌≤◌, List, ◌++◌, length, take, drop, replicate, refl, ap, ◌∙◌, arith}
use Rattle.des_columns.specs.EncryptedBytes.{IsEncrypted, joined}
use Rattle.des_columns.specs.Writings.{padded_by, size_in_blocks}
use Rattle.des_columns.specs.declared.form.BlockMode.{BlockMode}
use Rattle.des_columns.specs.declared.form.ValueForm.{ValueForm}
use Rattle.des_columns.proofs.PaddedTexts.{head-filled}
use Rattle.des_columns.proofs.Turns.{next-waits, others-wait}
use Rattle.des_columns.proofs.writing.Writer.write_next.Goals as goal

pub returns : goal.returns
returns g c =
    let form : ValueForm = c.args.self.now.form in
    let mode : BlockMode = c.args.self.now.mode in
    let number : ℕ = c.args.self.now.number in
    let text : List ℕ = c.args.text.now in
    let size : ℕ = length c.args.value.now / 8 in
    let first : ℕ = c.args.waiting.now.first in
    let buffer : List (List ℕ) = c.args.buffer.now in
    let some : 1 ≤ c.args.waiting.now.count = omega (arith, c.if-waiting-eq0.false) in
    let Q : List ℕ → List (List ℕ) → Type 0 = λ text blocks. (key : List ℕ) → g.C.KeyInit.is_made_from c.args.self.now.cipher key
    → IsEncrypted mode (g.C.Relating.relation key) (padded_by form text) (joined blocks) in
    let sized : size ≡ size_in_blocks form text = ap (λ n. n / 8) c.requires.value in
    let same : first + size - first ≡ size = omega arith in
    let waits =
    next-waits (size_in_blocks form) Q text c.requires.waiting.0 c.args.waiting.now buffer some c.requires.waiting.1 size sized in
    record {
      written = λ key made. record {
        blocks = joined (take (first + size - first) (drop first buffer));
        value_is =
            c.join_value.ensures
            ∙ ap (λ l. l ++ joined (take (first + size - first) (drop first buffer)))
            (ap (λ n. replicate (n % 8) (128 + number)) c.requires.value ∙ head-filled form number text c.requires.size);
        encrypted = rw same (waits.1 key made);
      };
      waiting = λ others are.
          others-wait (size_in_blocks form) Q text others c.args.waiting.now buffer some are size sized buffer refl refl;
    }
