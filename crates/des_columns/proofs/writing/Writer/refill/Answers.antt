-- Texts that were gathered, encrypted.
use Rattle.std.proofs.Common.{◌≡◌, ℕ, List, length, take, drop, refl, ap, arith}
use Rattle.std.proofs.lemmas.List.{length-map}
use Rattle.des_columns.specs.Columns.{pieces}
use Rattle.des_columns.specs.EncryptedBytes.{AreEncrypted, IsEncrypted, joined}
use Rattle.des_columns.specs.Writings.{padded_by, size_in_blocks}
use Rattle.des_columns.specs.declared.form.BlockMode.{BlockMode}
use Rattle.des_columns.specs.declared.form.ValueForm.{ValueForm}
use Rattle.des_columns.proofs.Pieces.{length-pieces}
use Rattle.des_columns.proofs.Turns.{in_turn-longer, in_turn-related}
use Rattle.des_columns.proofs.writing.Writer.refill.Goals as goal

pub returns : goal.returns
returns g c =
    let form : ValueForm = c.args.self.now.form in
    let mode : BlockMode = c.args.self.now.mode in
    let made : List ℕ → Type 0 = g.C.KeyInit.is_made_from c.args.self.now.cipher in
    let count : ℕ = c.gather-taken.result.count in
    let sizes : List ℕ = take count c.gather-taken.new.sizes in
    let texts : List (List ℕ) = take count (pieces c.args.lengths.now c.args.texts.now) in
    let old : List (List ℕ) = take c.gather-taken.result.blocks c.gather-taken.new.buffer in
    let new : List (List ℕ) = c.encrypt_records.new.blocks in
    let Q : List ℕ → List (List ℕ) → Type 0 = λ text blocks. (key : List ℕ) → made key
    → IsEncrypted mode (g.C.Relating.relation key) (padded_by form text) (joined blocks) in
    record {
      fit = omega (arith, c.gather-taken.ensures.end, length-pieces c.args.lengths.now c.args.texts.now);
      within = omega arith;
      in_turn =
          in_turn-longer (size_in_blocks form) Q texts new (drop c.gather-taken.result.blocks c.gather-taken.new.buffer)
          (in_turn-related (size_in_blocks form) (λ text blocks. joined blocks ≡ padded_by form text) Q
          (λ x y. (key : List ℕ) → made key → AreEncrypted mode (g.C.Relating.relation key) x y) texts old new
          (λ text x y padded related key is. record {
            p_blocks = x;
            q_blocks = y;
            of_p = padded;
            of_q = refl;
            encrypted = related key is;
          }) c.gather-taken.ensures.padded c.encrypt_records.auto.blocks
          (λ k below.
          rw (← c.gather-taken.ensures.sizes) (λ key is. c.encrypt_records.ensures key k is
          (omega (arith, below, ap length c.gather-taken.ensures.sizes, length-map texts (size_in_blocks form))))));
    }
